-- Laws of asking for a report: one for each way it answers.
use Rattle.std.specs.Prelude.{Option, None, Some, Result, Ok, Err}
use Rattle.line.specs.declared.Report.{Report}
use mathlib.Core.Path.{◌≡◌, refl, sym, ap, ◌∙◌}
use mathlib.Core.Bool.{Bool, true, false, cond, not, ◌&&◌}
use mathlib.Core.List.{List, [], ◌++◌, append-nil}
use Prim.Native.Nat.{ℕ, ◌-◌, ◌≤◌, ◌<◌, min}
use native.Mathlib.Nat.{min-le_right, min-eq_left, min-eq_right, le_of_lt}
use native.Mathlib.Omega.{arith}
use borrow.Author.Tests.{leb-true, leb-false}
use lib.Dec.{eqb, leb}
use lib.ListN.{length, take, drop, replicate}
use lib.Seq.{take_all}
use Rattle.wire.specs.Room.{over, Laid, lays, laid}
use Rattle.wire.proofs.Parts.{part_whole, part_end, front_length}
use Rattle.frame.specs.declared.Header.{Header}
use Rattle.frame.specs.Frame.{header_bytes, most_payload}
use Rattle.line.specs.State.{padded}
use Rattle.frame.specs.Acknowledgement.{acknowledgement}
use Rattle.frame.specs.Writer.{least_room, acknowledgement_laid}
use Rattle.line.specs.declared.Report.TheVariants as line
use Rattle.line.specs.declared.Asked.{Asked}
use Rattle.line.specs.Methods.{asked}
use Rattle.registers.specs.declared.Registers.{Registers}
use Rattle.wire.specs.Addresses.{word_count}
use Rattle.commands.specs.declared.Performed.{Performed}
use Rattle.commands.specs.declared.Fixed.{Fixed}
use Rattle.curves.specs.declared.Counts.{Counts}
use Rattle.curves.specs.Area.{curve_words, Drawn, draws}
use Rattle.curves.specs.Adding.{added}
use Rattle.watch.specs.Watched.{Watched}
use Rattle.watch.specs.Judge.{wrong_list}
use Rattle.commands.specs.Lent.{Lent, lending, with_room, with_words_room}
use Rattle.commands.specs.Effect.{registers_left, counts_left}
use Rattle.commands.specs.Perform.{Performance, performs, performance}
use Rattle.touch.specs.declared.Setup.{Setup}
use Rattle.touch.specs.Setup.{checking_of, acknowledging_of}
use Rattle.contact.specs.Contact.{Catch}
use Rattle.panel.specs.declared.Panel.{Panel}
use Rattle.panel.specs.Answers.{AskAnswer}
use Rattle.panel.specs.declared.Handed.TheVariants as handed
use Rattle.panel.specs.declared.LentError.{LentError}
use Rattle.panel.specs.declared.LentError.TheVariants as lent_error
use Rattle.panel.specs.Inner.{ask_judged}
use Rattle.panel.specs.declared.Effected.{Effected}
use Rattle.panel.specs.declared.HandedOver.{HandedOver}
use Rattle.panel.specs.declared.Reported.{Reported}
use Rattle.panel.specs.State.{header_for, header_of, fixed_for, answering}
use Rattle.panel.specs.Reporting.{enough, acknowledged, Effects, effects, accepting, HandingOver, overs, only_handed, accepted_over, handing_over, length_of, catch_after, drawing, noting, Reporting, reports, handing, refused, reporting}

module _ (setup : Setup) (command : ℕ) (good : Bool) (room : List ℕ) (c k : Bool) (is_c : c ≡ checking_of setup) (is-k : k ≡ acknowledging_of setup) where
  both : (c && k) ≡ answering setup
  both = rw (is_c, is-k)

  pub answered : (header : Header) (count : ℕ) (left : List ℕ) → (c && k) ≡ true → header ≡ header_for setup
      → lays count left ≡ acknowledgement_laid (header_bytes header) command good room → lays count left ≡ acknowledged setup command good room
  unfolding acknowledged
  answered header count left is is-h e = rw (sym both ∙ is, ← is-h) e

  pub not_answered : (c && k) ≡ false → lays 0 room ≡ acknowledged setup command good room
  unfolding acknowledged
  not_answered is = rw (sym both ∙ is)

-- no more is laid than the room holds
laid_inside : (frame room : List ℕ) → (laid (leb (length frame) (length room)) frame room).count ≤ length room
unfolding laid
laid_inside frame room = go (leb (length frame) (length room)) refl
  where
    go : (b : Bool) → leb (length frame) (length room) ≡ b → (cond b (lays (length frame) (over frame room)) (lays 0 room)).count ≤ length room
    go true is = leb-true (length frame) (length room) is
    go false is = omega arith

answer_inside : (setup : Setup) (command : ℕ) (good : Bool) (room : List ℕ) → (acknowledged setup command good room).count ≤ length room
unfolding acknowledged acknowledgement_laid
answer_inside setup command good room = go (answering setup)
  where
    go : (b : Bool) → (cond b (acknowledgement_laid (header_of setup) command good room) (lays 0 room)).count ≤ length room
    go true = laid_inside (acknowledgement (header_of setup) command good) room
    go false = omega arith

-- a part of the room is left for the reply
pub reply_begins : (setup : Setup) (command : ℕ) (good : Bool) (room left : List ℕ) (count : ℕ) → lays count left ≡ acknowledged setup command good room
    → length left ≡ length room → count ≤ length left
reply_begins setup command good room left count is long =
    let inside = answer_inside setup command good room in
    let same : count ≡ (acknowledged setup command good room).count = ap (λ (l : Laid). l.count) is in
    omega arith

pub fixed_made : (setup : Setup) (header : Header) (c : Bool) → header ≡ header_for setup → c ≡ checking_of setup
    → ◌≡◌ {A = Fixed} (record { header = header; checking = c; pages = setup.pages }) (fixed_for setup)
fixed_made setup header c is-h is_c = rw (is-h, is_c)

-- the command with the room's part behind the acknowledgement
abbrev behind_answer : Setup → Registers → (command : ℕ) → (content words : List ℕ) → Lent → Laid → Performance
behind_answer setup registers command content words rest l =
    performance (fixed_for setup) registers command content (with_words_room rest words (drop l.count l.room))

abbrev joined_behind : Laid → Performance → Effects
joined_behind l d = effects (record { performed = d.performed; acknowledged = l.count }) (with_room d.lent (take l.count l.room ++ d.lent.room))

pub accepts : (setup : Setup) (registers : Registers) (command : ℕ) (content words room : List ℕ) (count : ℕ) (left : List ℕ) (fixed : Fixed)
    (p : Performed) (words' part : List ℕ) → lays count left ≡ acknowledged setup command true room → fixed ≡ fixed_for setup
    → ((rest : Lent) → performs p (with_words_room rest words' part)
    ≡ performance fixed registers command content (with_words_room rest words (take (length left - count) (drop count left))))
    → (rest : Lent)
    → effects (record { performed = p; acknowledged = count }) (with_words_room rest words' (take count left ++ (part ++ drop (length left - count) (drop count left))))
    ≡ accepting setup registers command content (with_words_room rest words room)
unfolding accepting
accepts setup registers command content words room count left fixed p words' part is-answer is-fixed is-p rest =
    let done : performs p (with_words_room rest words' part) ≡ behind_answer setup registers command content words rest (lays count left) =
    is-p rest ∙ rw (part_whole left count, is-fixed) in
    rw (part_end left count, append-nil)
    (ap (joined_behind (lays count left)) done
    ∙ ap (λ (l : Laid). joined_behind l (behind_answer setup registers command content words rest l)) is-answer)

-- the data that was handed over, out of its array
pub within_inside : (count n : ℕ) (payload : List ℕ) → n ≡ min count most_payload → length payload ≡ most_payload → n ≤ length payload
within_inside count n payload is long = omega (arith, min-le_right count most_payload)

pub within_long : (count n : ℕ) (payload : List ℕ) → n ≡ min count most_payload → length payload ≡ most_payload → n ≡ length (take n payload)
within_long count n payload is long = front_length n payload (within_inside count n payload is long)

pub taken_same : (count n : ℕ) (payload : List ℕ) → n ≡ min count most_payload → length payload ≡ most_payload → take n payload ≡ take count payload
taken_same count n payload is long = go (leb count most_payload) refl
  where
    go : (b : Bool) → leb count most_payload ≡ b → take n payload ≡ take count payload
    go true t =
        let small : count ≤ most_payload = leb-true count most_payload t in
        let same : n ≡ count = is ∙ min-eq_left small in
        ap (λ (k : ℕ). take k payload) same
    go false t =
        let large : most_payload < count = leb-false count most_payload t in
        let most : n ≡ most_payload = is ∙ min-eq_right (le_of_lt large) in
        take_all n payload (omega arith) ∙ sym (take_all count payload (omega arith))

-- a report that is handed over
module _ (setup : Setup) (registers : Registers) (report : Option Report) (payload words room : List ℕ) where
  pub over_nothing : (o : HandedOver) → report ≡ None → o ≡ only_handed None → (rest : Lent)
      → overs o (with_words_room rest words room) ≡ handing_over setup registers report payload (with_words_room rest words room)
  unfolding handing_over
  over_nothing o is is-o rest = rw (is, is-o)

  pub over_bad : (told : Report) (command count : ℕ) (left : List ℕ) (o : HandedOver) → report ≡ Some told → told ≡ line.BadCheck command → lays count left ≡ acknowledged setup command false room
      → o ≡ only_handed (Some (handed.BadCheck command count)) → (rest : Lent)
      → overs o (with_words_room rest words left) ≡ handing_over setup registers report payload (with_words_room rest words room)
  unfolding handing_over
  over_bad told command count left o is bad e is-o rest =
      rw (is, bad, is-o) (ap (λ (l : Laid). overs (only_handed (Some (handed.BadCheck command l.count))) (with_words_room rest words l.room)) e)

  pub over_accepted : (told : Report) (command len n : ℕ) (e : Effected) (words' left : List ℕ) (o : HandedOver) → report ≡ Some told
      → told ≡ line.Accepted command len → n ≡ min len most_payload
      → length payload ≡ most_payload
      → ((rest : Lent) → effects e (with_words_room rest words' left) ≡ accepting setup registers command (take n payload) (with_words_room rest words room))
      → o ≡ accepted_over command len e → (rest : Lent)
      → overs o (with_words_room rest words' left) ≡ handing_over setup registers report payload (with_words_room rest words room)
  unfolding handing_over
  over_accepted told command len n e words' left o is accepted is-n long done is-o rest =
      rw (is, accepted, is-o)
      (ap (λ (d : Effects). overs (accepted_over command len d.effected) d.lent)
      (done rest ∙ ap (λ (content : List ℕ). accepting setup registers command content (with_words_room rest words room)) (taken_same len n payload is-n long)))

-- what a report does to the curves
module _ (writes adds : Bool) (counts : Counts) (content area : List ℕ) where
  pub drawn_added : (next : Counts) (left : List ℕ) → adds ≡ true → draws next left ≡ added counts content area
      → draws next left ≡ drawing writes adds counts content area
  drawn_added next left is e = rw is e

  pub drawn_cleared : (next : Counts) (left : List ℕ) → adds ≡ false → writes ≡ true → next ≡ counts_left counts content → left ≡ area
      → draws next left ≡ drawing writes adds counts content area
  drawn_cleared next left is on e stays = rw (is, on, e, stays)

  pub drawn_nothing : adds ≡ false → writes ≡ false → draws counts area ≡ drawing writes adds counts content area
  drawn_nothing is off = rw (is, off)

-- the data of a report, out of its array
pub content_is : (report : Option Report) (payload : List ℕ) (n : ℕ) → n ≡ min (length_of report) most_payload → length payload ≡ most_payload
    → take n payload ≡ take (length_of report) payload
content_is report payload n is-n long = taken_same (length_of report) n payload is-n long

-- the registers behind a report
module _ (registers : Registers) (writes : Bool) (content : List ℕ) (after : Registers) where
  pub behind_written : writes ≡ true → after ≡ registers_left registers content → after ≡ cond writes (registers_left registers content) registers
  behind_written is is-after = rw (is, is-after)

  pub behind_unwritten : writes ≡ false → after ≡ registers → after ≡ cond writes (registers_left registers content) registers
  behind_unwritten is is-after = rw (is, is-after)

-- what is lent is not what it must be
pub refused_is : (given : AskAnswer) (panel : Panel) (payload : List ℕ) → payload ≡ replicate most_payload 0
    → ◌≡◌ {A = Reported} (record { handed = given; payload = payload; panel = panel }) (refused given panel)
unfolding padded
refused_is given panel payload empty = rw empty

-- the panel behind a report
abbrev left_behind : Panel → Asked → (curves : List ℕ) → Watched → HandingOver → Reporting
left_behind panel a curves watched done =
    let content = take (length_of a.report) a.payload in
    let drawn = drawing done.over.writes done.over.adds panel.counts content curves in
    reports
    (record {
      handed = Ok done.over.handed;
      payload = a.payload;
      panel = record {
        setup = panel.setup;
        registers = cond done.over.writes (registers_left panel.registers content) panel.registers;
        catch = catch_after done.over.drops panel.catch;
        counts = drawn.counts;
        reader = a.reader;
      };
    })
    (lending done.lent.words drawn.area done.lent.room (noting done.over.notes content done.lent.words watched))

module _ (panel : Panel) (words curves room : List ℕ) (watched : Watched) (l : Bool) (is-l : l ≡ enough (length words) (length curves) (length room)) where
  -- all that an ask is lent
  abbrev lent : Lent
  lent = lending words curves room watched

  module _ (wrong : Bool) (is_wrong : wrong ≡ wrong_list watched) (first : Result Unit LentError) (is-first : first ≡ ask_judged l wrong) where
    -- whatever would come in place of a refusal
    chosen : (a b : Bool) (why : LentError) (other : Reporting) → ask_judged a b ≡ Err why
        → reports (refused (Err why) panel) lent ≡ cond (a && not b) other (reports (refused (cond a (Err lent_error.WrongList) (Err lent_error.NotLent)) panel) lent)
    unfolding ask_judged
    chosen false b why other is = cc
    chosen true true why other is = cc
    chosen true false why other is = cc

    pub reported_refused : (why : LentError) (r : Reported) → first ≡ Err why → r ≡ refused (Err why) panel → reports r lent ≡ reporting panel lent
    unfolding reporting
    reported_refused why r is is-r = rw (is-r, ← is-l, ← is_wrong) (chosen l wrong why _ (sym is-first ∙ is))

    -- what is not refused is well lent
    passes : (a b : Bool) → ((why : LentError) → ask_judged a b ≡ Err why → ⊥) → (a ≡ true) × (b ≡ false)
    unfolding ask_judged
    passes false b none = absurd (none lent_error.NotLent refl)
    passes true true none = absurd (none lent_error.WrongList refl)
    passes true false none = (refl, refl)

    module _ (goes : (why : LentError) → first ≡ Err why → ⊥) (a : Asked) (is-a : a ≡ asked panel.reader) (o : HandedOver) (words' left : List ℕ)
        (is-o : overs o (with_words_room lent words' left) ≡ handing_over panel.setup panel.registers a.report a.payload lent)
        (catch : Catch) (is-catch : catch ≡ catch_after o.drops panel.catch) where
      behind : left_behind panel a curves watched (overs o (with_words_room lent words' left)) ≡ reporting panel lent
      unfolding reporting handing
      behind =
          let good = passes l wrong (λ why is. goes why (is-first ∙ is)) in
          rw (sym is-l ∙ good.0, sym is_wrong ∙ good.1)
          (ap (left_behind panel a curves watched) is-o ∙ ap (λ (x : Asked). handing x x.report panel lent) is-a)

      -- n is how much of the array is handed on as the data
      pub reported_behind : (n : ℕ) → take n a.payload ≡ take (length_of a.report) a.payload → (after : Registers)
          → after ≡ cond o.writes (registers_left panel.registers (take n a.payload)) panel.registers → (counts : Counts) (area : List ℕ)
          → draws counts area ≡ drawing o.writes o.adds panel.counts (take n a.payload) curves → (watched' : Watched)
          → watched' ≡ noting o.notes (take n a.payload) words' watched
          → reports
          (record {
            handed = Ok o.handed;
            payload = a.payload;
            panel = record { setup = panel.setup; registers = after; catch = catch; counts = counts; reader = a.reader };
          }) (lending words' area left watched') ≡ reporting panel lent
      reported_behind n whole after is-after counts area is-drawn watched' is-noted =
          let content = take (length_of a.report) a.payload in
          let drawn : draws counts area ≡ drawing o.writes o.adds panel.counts content curves =
          is-drawn ∙ ap (λ (c : List ℕ). drawing o.writes o.adds panel.counts c curves) whole in
          let written : after ≡ cond o.writes (registers_left panel.registers content) panel.registers =
          is-after ∙ ap (λ (c : List ℕ). cond o.writes (registers_left panel.registers c) panel.registers) whole in
          let marked : watched' ≡ noting o.notes content words' watched = is-noted ∙ ap (λ (c : List ℕ). noting o.notes c words' watched) whole in
          rw (written, is-catch, marked)
          (ap (λ (d : Drawn).
          reports
          (record {
            handed = Ok o.handed;
            payload = a.payload;
            panel = record {
              setup = panel.setup;
              registers = cond o.writes (registers_left panel.registers content) panel.registers;
              catch = catch_after o.drops panel.catch;
              counts = d.counts;
              reader = a.reader;
            };
          }) (lending words' d.area left (noting o.notes content words' watched))) drawn
          ∙ behind)
