-- The counts that a report hands over are those of the bytes that asking lays.
use Rattle.std.specs.Prelude.{Option, None, Some, Ok}
use Rattle.line.specs.declared.Report.{Report}
use mathlib.Core.Path.{◌≡◌, refl, sym, ap, ◌∙◌}
use mathlib.Core.Bool.{Bool, true, false, cond}
use mathlib.Core.List.{List, [], ◌∷◌, ◌++◌, append_assoc, append-nil}
use Prim.Native.Nat.{ℕ, ◌+◌, ◌<◌}
use native.Mathlib.Omega.{arith}
use borrow.Author.Tests.{ne_eqb}
use lib.Dec.{eqb}
use lib.ListN.{length, take, drop, length-append}
use lib.Seq.{take_at, drop_at}
use Rattle.wire.specs.Room.{over, Laid}
use Rattle.wire.specs.Addresses.{word_count}
use Rattle.wire.proofs.Over.{drop_over}
use Rattle.frame.specs.Frame.{frame_of}
use Rattle.touch.specs.Setup.{checking_of}
use Rattle.demands.specs.Replied.{Replied}
use Rattle.reading.specs.Place.{bad_check, accepted_frame}
use Rattle.line.specs.declared.Report.TheVariants as line
use Rattle.line.specs.declared.Asked.{Asked}
use Rattle.line.specs.Methods.{asked}
use Rattle.line.specs.Reached.{report_as}
use Rattle.wire.proofs.Truths.{never}
use Rattle.commands.specs.Outcome.{Outcome, outcome}
use Rattle.commands.specs.Lent.{with_room}
use Rattle.commands.specs.Perform.{Performance, performance}
use Rattle.commands.proofs.Performance.{performs_outcome}
use Rattle.panel.specs.Answers.{AskAnswer}
use Rattle.panel.specs.declared.Handed.TheVariants as handed
use Rattle.panel.specs.State.{header_of, fixed_for}
use Rattle.panel.specs.Reporting.{acknowledged, accepting, Reporting, handing, reporting, well_lent, handing_over}
use Rattle.panel.specs.Sound.{Sound}
use Rattle.panel.specs.Reachable.{Reachable}
use Rattle.panel.proofs.Invariant.{reachable_sound}
use Rattle.demands.specs.Calls.{Moment, ask, after, number_given, report_handed, handed_over}
use Rattle.demands.specs.Reports.{waiting_report, acknowledgement_of}
use Rattle.demands.specs.Demand2.{leaving, after_bad_check}
use Rattle.demands.specs.Counts.{handed_by, reply_to, Counted, BadCheckCounted, FrameCounted}
use Rattle.demands.proofs.Answers.{reported_by, refusal_no_bad_check}
use Rattle.demands.proofs.Waits.{asked_report, sound_ask_hands, frame_reporting}
use Rattle.demands.proofs.Rooms.{acknowledged_laid}
use Rattle.demands.proofs.WellLent.{tested_well}
use Rattle.demands.proofs.FrameAsked.{Asks, handed_asks, done_number, performance_leaves}
use Rattle.demands.proofs.Performs.{Performing, command_performs}
use Rattle.demands.proofs.Access.{done_is, part_behind, answers_bad_check}

-- a room over which an acknowledgement and a reply were laid
laid_counts : (now : Moment) (acknowledged replied : ℕ) (acknowledgement reply : List ℕ) → acknowledged ≡ length acknowledgement → replied ≡ length reply
    → (after now ask).lent.room ≡ over (acknowledgement ++ reply) now.lent.room → Counted now acknowledged replied acknowledgement reply
unfolding over
laid_counts now a r acknowledgement reply is-a is-r left =
    let room = now.lent.room in
    let stays = drop (length (acknowledgement ++ reply)) room in
    let parts : (after now ask).lent.room ≡ acknowledgement ++ (reply ++ stays) = left ∙ append_assoc acknowledgement reply stays in
    let long : length (acknowledgement ++ reply) ≡ a + r = rw (is-a, is-r) (length-append acknowledgement reply) in
    record {
      acknowledged_is = is-a;
      replied_is = is-r;
      first = ap (take a) parts ∙ take_at acknowledgement (reply ++ stays) a (sym is-a);
      next = ap (λ (l : List ℕ). take r (drop a l)) parts ∙ ap (take r) (drop_at acknowledgement (reply ++ stays) a (sym is-a)) ∙ take_at reply stays r (sym is-r);
      rest = ap (drop (a + r)) left ∙ drop_over (acknowledgement ++ reply) room (a + r) long;
    }

-- what asking answers where it hands over an accepted frame, and the room that it leaves
module _ (now : Moment) (reached : Reachable now.panel) (command : ℕ) (content : List ℕ) (hands : handed_over now ask ≡ accepted_frame command content ∷ []) where
  abbrev sound : Sound now.panel
  sound = reachable_sound now.panel reached

  abbrev asks : Asks now command content
  asks = handed_asks now command content hands

  abbrev answer : List ℕ
  answer = acknowledgement_of now.panel.setup command true

  abbrev reply : List ℕ
  reply = reply_to now command content

  abbrev does_so : Performing now command content reply
  does_so = command_performs now reached command content hands

  data_long : asks.count ≡ length content
  unfolding report_as
  data_long =
      let waits : waiting_report now.panel ≡ accepted_frame command content ∷ [] = sym (sound_ask_hands now sound asks.well) ∙ hands in
      let told : (asked now.panel.reader).report ≡ Some (line.Accepted command (length content)) = asked_report now.panel sound ∙ ap report_as waits in
      let same : Some (line.Accepted command asks.count) ≡ Some (line.Accepted command (length content)) = sym asks.told ∙ told in
      cc

  -- the answer by the data, the acknowledgement as laid and what the command does
  abbrev answering : (count laid : ℕ) → Performance → AskAnswer
  answering count laid done = Ok (Some (handed.Accepted command count done.performed.outcome laid done.performed.replied))

  abbrev performing : List ℕ → Laid → Performance
  performing came laid = performance (fixed_for now.panel.setup) now.panel.registers command came (with_room now.lent (drop laid.count laid.room))

  pub handed_as : handed_by now
      ≡ Ok (Some (handed.Accepted command (length content) (outcome (fixed_for now.panel.setup) word_count command content) (length answer) (length reply)))
  unfolding handing handing_over accepting
  handed_as =
      let laid = acknowledged now.panel.setup command true now.lent.room in
      let part = with_room now.lent (part_behind now command) in
      let does = does_so.does in
      let same : does_so.performed.outcome ≡ outcome (fixed_for now.panel.setup) word_count command content =
      ap (λ (d : Performance). d.performed.outcome) (sym does)
      ∙ performs_outcome (fixed_for now.panel.setup) now.panel.registers command content part
      ∙ ap (λ (n : ℕ). outcome (fixed_for now.panel.setup) n command content) asks.well.words in
      ap (λ (h : Reporting). h.reported.handed) (frame_reporting now.panel now.lent asks.well command asks.count asks.told)
      ∙ ap (λ (came : List ℕ). answering asks.count laid.count (performing came laid)) asks.content_is
      ∙ ap (λ (l : Laid). answering asks.count l.count (performing content l)) (acknowledged_laid now.panel.setup command true now.lent.room asks.well.room)
      ∙ ap (answering asks.count (length answer)) does
      ∙ ap (λ (n : ℕ). Ok (Some (handed.Accepted command n does_so.performed.outcome (length answer) does_so.performed.replied))) data_long
      ∙ ap (λ (n : ℕ). Ok (Some (handed.Accepted command (length content) does_so.performed.outcome (length answer) n))) does_so.replied_is
      ∙ ap (λ (o : Outcome). Ok (Some (handed.Accepted command (length content) o (length answer) (length reply)))) same

  pub room_left : (after now ask).lent.room ≡ over (answer ++ reply) now.lent.room
  unfolding leaving
  room_left =
      ap (λ (m : Moment). m.lent.room) (performance_leaves now sound command content asks does_so.performed does_so.lent reply does_so.does)

none_above : (number : ℕ) (reply : List ℕ) → 0 < number → length (cond (eqb number 0) reply []) ≡ 0
none_above number reply above = let other : number ≡ 0 → ⊥ = λ is. omega arith in rw (ne_eqb number 0 other)

-- "The reply follows the acknowledgement at once in the same room. .. bytes past the reported count stay."
pub frame_counts : (now : Moment) → Reachable now.panel → (command count : ℕ) (o : Outcome) (acknowledged replied : ℕ)
    → handed_by now ≡ Ok (Some (handed.Accepted command count o acknowledged replied)) → FrameCounted now command count acknowledged replied
unfolding handed_over report_handed reply_to
frame_counts now reached command count o a r is =
    let payload = (reporting now.panel now.lent).reported.payload in
    let content = take count payload in
    let hands : handed_over now ask ≡ accepted_frame command content ∷ [] = ap (λ (h : AskAnswer). report_handed h payload) is in
    let reply = reply_to now command content in
    let answer = acknowledgement_of now.panel.setup command true in
    let same : Ok (Some (handed.Accepted command count o a r))
    ≡ Ok (Some (handed.Accepted command (length content) (outcome (fixed_for now.panel.setup) word_count command content) (length answer) (length reply))) =
    sym is ∙ handed_as now reached command content hands in
    let is-count : count ≡ length content = cc in
    let is-a : a ≡ length answer = cc in
    let is-r : r ≡ length reply = cc in
    record {
      content = content;
      hands = hands;
      count_is = is-count;
      counted = laid_counts now a r answer reply is-a is-r (room_left now reached command content hands);
      refused_has_none = λ above. is-r ∙ none_above (number_given now ask) _ above;
    }

-- a command that is answered 0, where its reply is this frame
pub replied_by : (now : Moment) → Reachable now.panel → (command : ℕ) (content payload : List ℕ) → handed_over now ask ≡ accepted_frame command content ∷ []
    → number_given now ask ≡ 0 → reply_to now command content ≡ frame_of (checking_of now.panel.setup) (header_of now.panel.setup) command payload
    → Replied now command content payload
replied_by now reached command content payload hands done reply =
    let setup = now.panel.setup in
    let answer = acknowledgement_of setup command true in
    let number = done_number now (reachable_sound now.panel reached) command content (handed_asks now command content hands) in
    let is = done_is (outcome (fixed_for setup) word_count command content) (sym number ∙ done) in
    record {
      done = done;
      counts = handed_as now reached command content hands
          ∙ ap (λ (o : Outcome). Ok (Some (handed.Accepted command (length content) o (length answer) (length (reply_to now command content))))) is
          ∙ ap (λ (l : List ℕ). Ok (Some (handed.Accepted command (length content) (Ok tt) (length answer) (length l)))) reply;
      room = room_left now reached command content hands ∙ ap (λ (l : List ℕ). over (answer ++ l) now.lent.room) reply;
    }

-- "each bad check by the same with 0x00"
bad_acknowledged : (now : Moment) (command a : ℕ) → handed_by now ≡ Ok (Some (handed.BadCheck command a)) → a ≡ length (acknowledgement_of now.panel.setup command false)
unfolding reporting handing handing_over
bad_acknowledged now command a = go (well_lent now.lent) refl by.report
  where
    by : Asked
    by = asked now.panel.reader

    go : (l : Bool) → well_lent now.lent ≡ l → (told : Option Report) → (reported_by now.panel now.lent l by told).reported.handed ≡ Ok (Some (handed.BadCheck command a))
        → a ≡ length (acknowledgement_of now.panel.setup command false)
    go false is told hands = absurd (refusal_no_bad_check now.lent command a hands)
    go true is None hands = never (cc)
    go true is (Some (line.Accepted c n)) hands = never (cc)
    go true is (Some (line.BadCheck c)) hands =
        let same : c ≡ command = cc in
        let counts : (acknowledged now.panel.setup c false now.lent.room).count ≡ a = cc in
        sym counts
        ∙ ap (λ (laid : Laid). laid.count) (acknowledged_laid now.panel.setup c false now.lent.room (tested_well now.lent is).room)
        ∙ ap (λ (k : ℕ). length (acknowledgement_of now.panel.setup k false)) same

pub bad_check_counts : (now : Moment) → Reachable now.panel → (command acknowledged : ℕ) → handed_by now ≡ Ok (Some (handed.BadCheck command acknowledged))
    → BadCheckCounted now command acknowledged
unfolding handed_over report_handed after_bad_check
bad_check_counts now reached command a is =
    let answer = acknowledgement_of now.panel.setup command false in
    let hands : handed_over now ask ≡ bad_check command ∷ [] =
    ap (λ (h : AskAnswer). report_handed h (reporting now.panel now.lent).reported.payload) is in
    record {
      hands = hands;
      counted = laid_counts now a 0 answer [] (bad_acknowledged now command a is) refl
          (ap (λ (m : Moment). m.lent.room) (answers_bad_check now reached command hands) ∙ ap (λ (l : List ℕ). over l now.lent.room) (sym (append-nil answer)));
    }
