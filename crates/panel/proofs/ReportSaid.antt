-- What asking for a report is answered says what 01's list gives: 14, then "nothing" or a bad check, then 2 to 7 beside an accepted frame.
use Rattle.std.specs.Prelude.{None, Some, Ok}
use mathlib.Core.Path.{◌≡◌, refl, ap, ◌∙◌}
use mathlib.Core.Bool.{Bool, true, false, cond}
use mathlib.Core.List.{List, [], ◌∷◌}
use Prim.Native.Nat.{ℕ, ◌-◌, ◌≤◌}
use native.Mathlib.Omega.{arith}
use borrow.Author.Tests.{le-leb, le-ltb, lt-ltb, leb-true, leb-false, eqb-true}
use lib.Dec.{eqb, leb}
use lib.ListN.{length, take, drop, length-drop}
use Rattle.wire.specs.Addresses.{word_count}
use Rattle.wire.specs.Numbers.{says, first_said}
use Rattle.wire.specs.Room.{over, lays, laid}
use Rattle.frame.specs.Frame.{header_bytes, most_payload}
use Rattle.frame.specs.Acknowledgement.{acknowledgement, acknowledgement_size}
use Rattle.frame.specs.Writer.{least_room, acknowledgement_laid}
use Rattle.frame.proofs.Acknowledgements.{length_acknowledgement}
use Rattle.line.specs.declared.Report.TheVariants as line
use Rattle.line.specs.Methods.{asked}
use Rattle.line.specs.Front.{hands_nothing, is_bad, bad_command, front_command, front_content}
use Rattle.line.proofs.Padding.{take_padded}
use Rattle.line.proofs.Said.{front_report, front_payload}
use Rattle.curves.specs.Area.{curve_words}
use Rattle.watch.specs.Judge.{wrong_list}
use Rattle.commands.specs.Lent.{Lent, with_room}
use Rattle.commands.specs.Listed.{performed_said, perform_said}
use Rattle.commands.proofs.Said.{perform_as_listed}
use Rattle.touch.specs.declared.Setup.{Setup}
use Rattle.panel.specs.declared.Panel.{Panel}
use Rattle.panel.specs.declared.Reported.{Reported}
use Rattle.panel.specs.State.{header_of, fixed_for, answering}
use Rattle.panel.specs.Numbers.{report_number, handed_said}
use Rattle.panel.specs.Reporting.{enough, acknowledged, accepting, handing_over, Reporting, reports, handing, reporting}
use Rattle.panel.specs.Listed.{answer_length, ask_listed, beside, frame_said, ask_said}
use Rattle.panel.proofs.Lengths.{answer_long}

-- an acknowledgement is laid whole into every room that is large enough
answer_counted : (setup : Setup) (command : ℕ) (good : Bool) (room : List ℕ) → least_room ≤ length room
    → (acknowledged setup command good room).count ≡ answer_length setup
unfolding acknowledged acknowledgement_laid header_bytes laid answer_length
answer_counted setup command good room large =
    let frame = acknowledgement (header_of setup) command good in
    let long : length frame ≡ acknowledgement_size (header_of setup) = length_acknowledgement (header_of setup) command good in
    rw (le-leb (length frame) (length room) (omega arith)) (go frame long (answering setup))
  where
    go : (frame : List ℕ) → length frame ≡ acknowledgement_size (header_of setup) → (b : Bool)
        → (cond b (lays (length frame) (over frame room)) (lays 0 room)).count ≡ cond b (acknowledgement_size (header_of setup)) 0
    go frame long true = long
    go frame long false = refl

module _ (panel : Panel) (lent : Lent) (whole : length lent.words ≡ word_count) (large : least_room ≤ length lent.room) where
  abbrev setup : Setup
  setup = panel.setup

  -- an accepted frame: what is said of its command stands behind its own values
  accepted_said : (command count : ℕ) (payload content : List ℕ) → take count payload ≡ content
      → handed_said (Ok (handing_over setup panel.registers (Some (line.Accepted command count)) payload lent).over.handed)
      ≡ beside (command ∷ count ∷ answer_length setup ∷ []) (perform_said (fixed_for setup) word_count (length lent.room - answer_length setup) command content)
  unfolding handing_over accepting handed_said report_number performed_said
  accepted_said command count payload content is =
      let answer = acknowledged setup command true lent.room in
      let part : Lent = with_room lent (drop answer.count answer.room) in
      let counted : answer.count ≡ answer_length setup = answer_counted setup command true lent.room large in
      let left : length (drop answer.count answer.room) ≡ length lent.room - answer_length setup =
      length-drop answer.count answer.room ∙ rw (answer_long setup command true lent.room, counted) in
      ap (beside (command ∷ count ∷ answer.count ∷ [])) (perform_as_listed (fixed_for setup) panel.registers (take count payload) part command)
      ∙ rw (whole, left, counted, is)

  -- what waits: nothing, a bad check or an accepted frame
  waiting_said : handed_said (Ok (handing_over setup panel.registers (asked panel.reader).report (asked panel.reader).payload lent).over.handed)
      ≡ cond (hands_nothing panel.reader) (says 0 [])
      (cond (is_bad panel.reader.head) (says 0 (bad_command panel.reader.head ∷ answer_length setup ∷ [])) (frame_said panel lent))
  unfolding handing_over handed_said report_number frame_said
  waiting_said = rw (front_report panel.reader) (go (hands_nothing panel.reader) refl (is_bad panel.reader.head))
    where
      content : List ℕ
      content = front_content panel.reader

      payload : List ℕ
      payload = (asked panel.reader).payload

      go : (none : Bool) → hands_nothing panel.reader ≡ none → (bad : Bool)
          → handed_said (Ok (handing_over setup panel.registers
          (cond none None (cond bad (Some (line.BadCheck (bad_command panel.reader.head))) (Some (line.Accepted (front_command panel.reader) (length content))))) payload lent
          ).over.handed)
          ≡ cond none (says 0 []) (cond bad (says 0 (bad_command panel.reader.head ∷ answer_length setup ∷ [])) (frame_said panel lent))
      go true is bad = refl
      go false is true =
          ap (λ (n : ℕ). says 0 (bad_command panel.reader.head ∷ n ∷ [])) (answer_counted setup (bad_command panel.reader.head) false lent.room large)
      go false is false =
          accepted_said (front_command panel.reader) (length content) payload content
          (ap (take (length content)) (front_payload panel.reader is) ∙ take_padded most_payload (length content) content refl)

report_as_listed : (panel : Panel) (lent : Lent) → handed_said (reporting panel lent).reported.handed ≡ ask_said panel lent
unfolding reporting handing enough handed_said report_number ask_listed first_said
report_as_listed panel lent =
    go (eqb (length lent.words) word_count) refl (eqb (length lent.curves) curve_words) refl (leb least_room (length lent.room)) refl (wrong_list lent.watched) refl
  where
    -- the room that is lent
    room : ℕ
    room = length lent.room

    go : (w : Bool) → eqb (length lent.words) word_count ≡ w → (c : Bool) → eqb (length lent.curves) curve_words ≡ c
        → (r : Bool) → leb least_room (length lent.room) ≡ r → (l : Bool) → wrong_list lent.watched ≡ l
        → handed_said (reporting panel lent).reported.handed ≡ ask_said panel lent
    go true w true c true r false l =
        rw (w, c, r, l, le-ltb room least_room (leb-true least_room room r))
        (waiting_said panel lent (eqb-true (length lent.words) word_count w) (leb-true least_room room r))
    go true w true c true r true l = rw (w, c, r, l, le-ltb room least_room (leb-true least_room room r))
    go true w true c false r l t = rw (w, c, r, lt-ltb room least_room (leb-false least_room room r))
    go true w false c r t l u = rw (w, c)
    go false w c d r t l u = rw w

pub report_said : (panel : Panel) (lent left : Lent) (r : Reported) → reports r left ≡ reporting panel lent
    → (reports r left ≡ reporting panel lent) × (handed_said r.handed ≡ ask_said panel lent)
report_said panel lent left r is = (is, ap (λ (d : Reporting). handed_said d.reported.handed) is ∙ report_as_listed panel lent)
