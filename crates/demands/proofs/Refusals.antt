-- What a call with a number above 0 leaves, call by call.
use Rattle.std.specs.Prelude.{Option, None, Some, Ok, Err}
use Rattle.line.specs.declared.Report.{Report}
use mathlib.Core.Path.{◌≡◌, refl, sym, ap, ◌∙◌}
use mathlib.Core.Logic.{◌⊎◌, inl, inr}
use mathlib.Core.Bool.{Bool, true, false, cond}
use mathlib.Core.List.{List, [], ◌∷◌, ◌++◌, map, append-nil}
use Prim.Native.Nat.{ℕ, suc, ◌≤◌, ◌<◌}
use native.Mathlib.Omega.{arith}
use lib.Dec.{eqb}
use lib.ListN.{length, take}
use Rattle.wire.specs.Bytes.{Bytes}
use Rattle.wire.specs.Room.{over}
use Rattle.wire.specs.Addresses.{word_count}
use Rattle.reading.specs.Place.{accepted_frame}
use Rattle.line.specs.declared.Reader.{Reader}
use Rattle.line.specs.declared.Gave.{Gave}
use Rattle.line.specs.declared.Waiting.TheVariants as line_answer
use Rattle.line.specs.declared.Report.TheVariants as line
use Rattle.line.specs.Methods as Line
use Rattle.line.specs.Methods.{busy, given_byte, given_mark, given_bytes, gave, plus, asked, gives}
use Rattle.wire.proofs.Truths.{never}
use Rattle.commands.specs.Outcome.{Outcome, outcome}
use Rattle.commands.specs.Outcome as Outcome
use Rattle.commands.proofs.Refusals.{number_at_most_7}
use Rattle.panel.specs.declared.Panel.{Panel}
use Rattle.panel.specs.Answers.{ContactAnswer, LiftAnswer}
use Rattle.panel.specs.declared.LiftError.TheVariants as lift_error
use Rattle.panel.specs.Numbers.{report_number, contact_number, lift_number}
use Rattle.panel.specs.State.{with_reader, fixed_for}
use Rattle.panel.specs.Inputs.{fed_byte, fed_mark, fed_bytes}
use Rattle.panel.specs.Reporting.{Reporting, handing, reporting, enough_lent, well_lent, handing_over}
use Rattle.panel.specs.Contacts.{contacting, lifting, Contact}
use Rattle.panel.specs.Sound.{Sound}
use Rattle.panel.specs.Reachable.{Reachable, by_byte}
use Rattle.panel.proofs.Refusals.{badly_lent_changes_nothing, refused_contact_changes_nothing, refused_lift_changes_nothing}
use Rattle.panel.proofs.Ways.{second_ways}
use Rattle.panel.proofs.Invariant.{reachable_sound}
use Rattle.demands.specs.Calls.{Moment, Call, lend, byte, bytes, mark, second, ask, contact, lift, with_panel, after, after_all, number_given, report_handed, handed_over, Typed}
use Rattle.demands.specs.Reports.{report_waits, read_behind, acknowledgement_of}
use Rattle.demands.specs.Demand1.{RefusalLeaves, as_it_stood, only_handed_over, as_those_taken}
use Rattle.demands.specs.Demand2.{leaving}
use Rattle.demands.proofs.Answers.{moment_asked, moment_touched, refusal_number}
use Rattle.demands.proofs.Waits.{busy_waits}
use Rattle.demands.proofs.Numbers.{one_more}
use Rattle.commands.specs.Lent.{with_room}
use Rattle.demands.proofs.FrameAsked.{Asks, handed_asks, done_number, performance_leaves}
use Rattle.demands.proofs.Access.{refused_from_2, refused_does}
use Rattle.demands.proofs.TouchEffects.{refused_contact}

-- the numbers of a refused command
refused_numbers : (o : Outcome) → 0 < Outcome.number_of_outcome o → 2 ≤ Outcome.number_of_outcome o
unfolding Outcome.number_of_outcome
refused_numbers (Ok tt) above = absurd (omega arith)
refused_numbers (Err why) above = refused_from_2 why

-- an ask that hands over an accepted frame whose command is refused
pub record CommandRefused (now : Moment) (command : ℕ) : Type 0 where
  pub at_least : 2 ≤ number_given now ask
  pub at_most : number_given now ask ≤ 7
  pub left : after now ask ≡ leaving now command now.panel.registers now.panel.catch now.panel.counts now.lent []

pub command_refused : (now : Moment) → Sound now.panel → (command : ℕ) (content : List ℕ) → Asks now command content → 0 < number_given now ask
    → CommandRefused now command
command_refused now sound command content asks above =
    let o = outcome (fixed_for now.panel.setup) word_count command content in
    let number : number_given now ask ≡ Outcome.number_of_outcome o = done_number now sound command content asks in
    let above-0 : 0 < Outcome.number_of_outcome o = omega arith in
    record {
      at_least = omega (arith, refused_numbers o above-0);
      at_most = omega (arith, number_at_most_7 o);
      left = performance_leaves now sound command content asks _ now.lent [] (refused_does now sound command content asks above);
    }

frame_refused : (now : Moment) → Sound now.panel → (command : ℕ) (content : List ℕ) → Asks now command content
    → handed_over now ask ≡ accepted_frame command content ∷ [] → 0 < number_given now ask → RefusalLeaves now ask
unfolding leaving read_behind
frame_refused now sound command content asks hands above =
    let answer = acknowledgement_of now.panel.setup command true in
    let only = command_refused now sound command content asks above in
    only_handed_over only.at_least only.at_most
    (record {
      command = command;
      content = content;
      handed_over = hands;
      only_read_on = ap (λ (m : Moment). m.panel) only.left;
      only_acknowledged = ap (λ (m : Moment). m.lent) only.left ∙ ap (λ (l : List ℕ). with_room now.lent (over l now.lent.room)) (append-nil answer);
    })

-- an ask that is lent what it must be is refused only at an accepted frame
lent_number : (now : Moment) → well_lent now.lent ≡ true → (told : Option Report) → (asked now.panel.reader).report ≡ told
    → number_given now ask ≡ report_number (handing (asked now.panel.reader) told now.panel now.lent).reported.handed
unfolding number_given reporting
lent_number now is told tells = rw (is, tells)

lent_handed : (now : Moment) → well_lent now.lent ≡ true → (command count : ℕ)
    → (asked now.panel.reader).report ≡ Some (line.Accepted command count)
    → handed_over now ask ≡ accepted_frame command (take count (asked now.panel.reader).payload) ∷ []
unfolding handed_over reporting handing handing_over report_handed
lent_handed now is command count tells = rw (is, tells)

lent_refused : (now : Moment) → Sound now.panel → well_lent now.lent ≡ true → (told : Option Report)
    → (asked now.panel.reader).report ≡ told → 0 < number_given now ask → RefusalLeaves now ask
unfolding handing handing_over report_number
lent_refused now sound is None tells above = let none = lent_number now is None tells in absurd (omega arith)
lent_refused now sound is (Some (line.BadCheck c)) tells above = let none = lent_number now is (Some (line.BadCheck c)) tells in absurd (omega arith)
lent_refused now sound is (Some (line.Accepted c n)) tells above =
    let content = take n (asked now.panel.reader).payload in
    let hands = lent_handed now is c n tells in
    frame_refused now sound c content (handed_asks now c content hands) hands above

-- 14 and 16
not_lent_refused : (now : Moment) → well_lent now.lent ≡ false → RefusalLeaves now ask
unfolding number_given after
not_lent_refused now is =
    let left = badly_lent_changes_nothing now.panel now.lent is in
    let number : number_given now ask ≡ cond (enough_lent now.lent) 16 14 =
    ap (λ (r : Reporting). report_number r.reported.handed) left ∙ refusal_number now.lent in
    as_it_stood ask (inr (rw number (above_8 (enough_lent now.lent)))) (ap moment_asked left)
  where
    above_8 : (b : Bool) → 8 ≤ cond b 16 14
    above_8 true = omega arith
    above_8 false = omega arith

-- the panel put back as it stood
same_moment : (now : Moment) (panel : Panel) → panel ≡ now.panel → with_panel now panel ≡ now
same_moment now panel is = rw is

ask_refused : (now : Moment) → Sound now.panel → 0 < number_given now ask → RefusalLeaves now ask
ask_refused now sound above = go (well_lent now.lent) refl (asked now.panel.reader).report refl
  where
    go : (l : Bool) → well_lent now.lent ≡ l → (told : Option Report) → (asked now.panel.reader).report ≡ told → RefusalLeaves now ask
    go false is told tells = not_lent_refused now is
    go true is told tells = lent_refused now sound is told tells above

-- a byte and a mark
fed_refused : (now : Moment) (w : Bool) (r : Reader)
    → 0 < Line.number_of_answer (cond w (gives (Err line_answer.ReportWaits) now.panel.reader) (gives (Ok tt) r)).answer
    → (Line.number_of_answer (cond w (gives (Err line_answer.ReportWaits) now.panel.reader) (gives (Ok tt) r)).answer ≡ 1)
    × (with_panel now (with_reader now.panel (cond w (gives (Err line_answer.ReportWaits) now.panel.reader) (gives (Ok tt) r)).reader) ≡ now)
unfolding Line.number_of_answer
fed_refused now true r above = (refl, refl)
fed_refused now false r above = absurd (omega arith)

byte_refused : (now : Moment) (b : ℕ) → 0 < number_given now (byte b) → RefusalLeaves now (byte b)
unfolding number_given after fed_byte given_byte Line.number_of_answer
byte_refused now b above =
    let left = fed_refused now (busy now.panel.reader) _ above in
    as_it_stood (byte b) (inl left.0) left.1

mark_refused : (now : Moment) → 0 < number_given now mark → RefusalLeaves now mark
unfolding number_given after fed_mark given_mark Line.number_of_answer
mark_refused now above =
    let left = fed_refused now (busy now.panel.reader) _ above in
    as_it_stood mark (inl left.0) left.1

second_refused : (now : Moment) → 0 < number_given now second → RefusalLeaves now second
unfolding number_given after Line.number_of_answer
second_refused now above =
    let left =
    second_ways now.panel (λ f. 0 < Line.number_of_answer f.answer → (Line.number_of_answer f.answer ≡ 1) × (with_panel now f.panel ≡ now))
    (λ above. (refl, refl)) (λ quiet above. absurd (omega arith)) above in
    as_it_stood second (inl left.0) left.1

-- a contact and a lift
contact_numbers : (a : ContactAnswer) → 0 < contact_number a → (contact_number a ≡ 1) ⊎ (8 ≤ contact_number a)
unfolding contact_number
contact_numbers (Ok tt) above = absurd (omega arith)
contact_numbers (Err why) above = refused_contact why

lift_numbers : (a : LiftAnswer) → 0 < lift_number a → (lift_number a ≡ 1) ⊎ (8 ≤ lift_number a)
unfolding lift_number
lift_numbers (Ok tt) above = absurd (omega arith)
lift_numbers (Err lift_error.Waits) above = inl refl
lift_numbers (Err lift_error.IsUp) above = inr (omega arith)

contact_refused : (now : Moment) (c : Contact) → 0 < number_given now (contact c) → RefusalLeaves now (contact c)
unfolding number_given after
contact_refused now c above =
    as_it_stood (contact c) (contact_numbers (contacting now.panel c now.lent).contacted.answer above)
    (ap moment_touched (refused_contact_changes_nothing now.panel c now.lent above))

lift_refused : (now : Moment) → 0 < number_given now lift → RefusalLeaves now lift
unfolding number_given after
lift_refused now above =
    as_it_stood lift (lift_numbers (lifting now.panel).answer above) (same_moment now (lifting now.panel).panel (refused_lift_changes_nothing now.panel above))

-- bytes one after the other
record Stops (now : Moment) (bs : List ℕ) : Type 0 where
  taken : List ℕ
  next : ℕ
  rest : List ℕ
  split : bs ≡ taken ++ (next ∷ rest)
  left : after now (bytes bs) ≡ after_all now (map byte taken)
  waits : report_waits (after now (bytes bs)).panel ≡ true

bytes_stop : (now : Moment) → Reachable now.panel → (bs : List ℕ) → Bytes bs → eqb (fed_bytes now.panel bs).used (length bs) ≡ false → Stops now bs
unfolding after after_all fed_bytes fed_byte given_bytes
bytes_stop now reached [] are short = never (cc)
bytes_stop now reached (b ∷ bs) are short =
    go (busy reader) refl short
    (bytes_stop (after now (byte b)) (by_byte now.panel b (are 0) reached) bs (λ i. are (suc i)))
  where
    reader : Reader
    reader = now.panel.reader

    next : Gave
    next = given_bytes (given_byte reader b).reader bs

    go : (w : Bool) → busy reader ≡ w → eqb (cond w (gave 0 reader) (plus 1 next)).used (suc (length bs)) ≡ false
        → (eqb next.used (length bs) ≡ false → Stops (after now (byte b)) bs)
        → Stops now (b ∷ bs)
    go true is short further =
        let stays : after now (bytes (b ∷ bs)) ≡ now = rw is in
        record {
          taken = [];
          next = b;
          rest = bs;
          split = refl;
          left = stays;
          waits = ap (λ (m : Moment). report_waits m.panel) stays ∙ sym (busy_waits now.panel (reachable_sound now.panel reached)) ∙ is;
        }
    go false is short further =
        let stop = further (sym (one_more next.used (length bs)) ∙ short) in
        let same : after now (bytes (b ∷ bs)) ≡ after (after now (byte b)) (bytes bs) = rw is in
        record {
          taken = b ∷ stop.taken;
          next = stop.next;
          rest = stop.rest;
          split = ap (λ (l : List ℕ). b ∷ l) stop.split;
          left = same ∙ stop.left;
          waits = ap (λ (m : Moment). report_waits m.panel) same ∙ stop.waits;
        }

bytes_refused : (now : Moment) → Reachable now.panel → (bs : List ℕ) → Bytes bs → 0 < number_given now (bytes bs) → RefusalLeaves now (bytes bs)
unfolding number_given
bytes_refused now reached bs are above =
    let stop = bytes_stop now reached bs are (short (eqb (fed_bytes now.panel bs).used (length bs)) above) in
    as_those_taken bs stop.taken stop.next stop.rest stop.split stop.left stop.waits
  where
    short : (b : Bool) → 0 < cond b 0 1 → b ≡ false
    short true above = absurd (omega arith)
    short false above = refl

-- each call, at a panel that is reached
pub call_refused : (now : Moment) → Reachable now.panel → (call : Call) → Typed call → 0 < number_given now call → RefusalLeaves now call
unfolding number_given Typed
call_refused now reached (lend lent) typed above = absurd (omega arith)
call_refused now reached (byte b) typed above = byte_refused now b above
call_refused now reached (bytes bs) typed above = bytes_refused now reached bs typed above
call_refused now reached mark typed above = mark_refused now above
call_refused now reached second typed above = second_refused now above
call_refused now reached ask typed above = ask_refused now (reachable_sound now.panel reached) above
call_refused now reached (contact c) typed above = contact_refused now c above
call_refused now reached lift typed above = lift_refused now above
