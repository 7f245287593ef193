-- The number that asking for a report is answered: "asking for a report 14, then 2 to 7 in turn".
use Rattle.std.specs.Prelude.{Option}
use mathlib.Core.Path.{◌≡◌, refl, ap, ◌∙◌}
use mathlib.Core.Bool.{Bool, true, false, cond, not, ◌||◌}
use mathlib.Core.List.{List, [], ◌∷◌}
use Prim.Native.Nat.{ℕ}
use borrow.Author.Tests.{le-ltb, lt-ltb, leb-true, leb-false, eqb-true}
use lib.Dec.{eqb, ltb, leb}
use lib.ListN.{length, take, drop}
use Rattle.wire.specs.Numbers.{Said, says, first_said, ◌when◌}
use Rattle.frame.specs.Frame.{most_payload}
use Rattle.frame.specs.Writer.{least_room}
use Rattle.reading.specs.Place.{Report, bad_check, accepted_frame}
use Rattle.line.specs.declared.Report.{Report as Told}
use Rattle.line.specs.declared.Asked.{Asked}
use Rattle.line.specs.Methods.{asked}
use Rattle.line.specs.Reached.{report_as, payload_as}
use Rattle.line.proofs.Padding.{take_padded}
use Rattle.wire.specs.Addresses.{word_count}
use Rattle.commands.specs.Outcome as Outcome
use Rattle.commands.specs.Listed.{performed_said, not_command, wrong_data, passes_end, touches_unwritable, value_wrong, reply_passes, perform_listed, perform_said}
use Rattle.commands.proofs.Said.{perform_as_listed}
use Rattle.touch.specs.declared.Setup.{Setup}
use Rattle.touch.specs.Setup.{checking_of}
use Rattle.panel.specs.declared.Panel.{Panel}
use Rattle.panel.specs.Numbers.{report_number}
use Rattle.panel.specs.Reporting.{acknowledged, accepting, handing, reporting, enough, handing_over}
use Rattle.panel.specs.Sound.{Sound}
use Rattle.demands.specs.Calls.{Moment, ask, number_given}
use Rattle.demands.specs.Reports.{waiting_report}
use Rattle.demands.specs.Demand1.{Condition, first_number, of_frame, words_not_lent, area_not_lent, room_too_small, printed}
use Rattle.curves.specs.Area.{curve_words}
use Rattle.watch.specs.Judge.{wrong_list}
use Rattle.commands.specs.Lent.{Lent, with_room}
use Rattle.panel.specs.State.{fixed_for}
use Rattle.demands.proofs.Waits.{asked_report, asked_payload}

-- 2 to 7 in turn, of a command with its data
abbrev frame_numbers : Setup → (command : ℕ) → (content : List ℕ) → List Condition
frame_numbers setup command content =
    (2 when not_command command content)
    ∷ (3 when wrong_data command content)
    ∷ (4 when passes_end word_count command content)
    ∷ (5 when touches_unwritable command content)
    ∷ (6 when value_wrong setup.pages command content)
    ∷ (7 when reply_passes (checking_of setup) command content)
    ∷ []

-- the numbers alone of what is said of a command
numbers_said : (setup : Setup) (room command : ℕ) (content : List ℕ)
    → (perform_said (fixed_for setup) word_count room command content).number ≡ first_number (frame_numbers setup command content)
unfolding perform_said perform_listed first_said
numbers_said setup room command content =
    go (not_command command content) (wrong_data command content) (passes_end word_count command content) (touches_unwritable command content)
    (value_wrong setup.pages command content) (reply_passes (checking_of setup) command content) _
  where
    go : (a b c d e f : Bool) (n : ℕ)
        → (cond a (says 2 (0 ∷ [])) (cond b (says 3 (0 ∷ [])) (cond c (says 4 (0 ∷ [])) (cond d (says 5 (0 ∷ []))
        (cond e (says 6 (0 ∷ [])) (cond f (says 7 (0 ∷ [])) (says 0 (n ∷ [])))))))).number
        ≡ cond a 2 (cond b 3 (cond c 4 (cond d 5 (cond e 6 (cond f 7 0)))))
    go true b c d e f n = refl
    go false true c d e f n = refl
    go false false true d e f n = refl
    go false false false true e f n = refl
    go false false false false true f n = refl
    go false false false false false true n = refl
    go false false false false false false n = refl

-- asking for a report: 2 to 7 of the report that waits
abbrev waiting_numbers : Setup → List Report → List Condition
waiting_numbers setup report =
    (2 when of_frame report not_command)
    ∷ (3 when of_frame report wrong_data)
    ∷ (4 when of_frame report (passes_end word_count))
    ∷ (5 when of_frame report touches_unwritable)
    ∷ (6 when of_frame report (value_wrong setup.pages))
    ∷ (7 when of_frame report (reply_passes (checking_of setup)))
    ∷ []

accepted_number : (panel : Panel) (lent : Lent) → length lent.words ≡ word_count → (command : ℕ) (content : List ℕ)
    → Outcome.number_of_outcome (accepting panel.setup panel.registers command content lent).effected.performed.outcome
    ≡ first_number (frame_numbers panel.setup command content)
unfolding accepting performed_said
accepted_number panel lent whole command content =
    let setup = panel.setup in
    let answer = acknowledged setup command true lent.room in
    let part : Lent = with_room lent (drop answer.count answer.room) in
    ap (λ (s : Said). s.number) (perform_as_listed (fixed_for setup) panel.registers content part command)
    ∙ ap (λ (n : ℕ). (perform_said (fixed_for setup) n (length part.room) command content).number) whole
    ∙ numbers_said setup (length part.room) command content

handing_numbers : (panel : Panel) (lent : Lent) → length lent.words ≡ word_count → (a : Asked) (told : Option Told) (report : List Report) → told ≡ report_as report
    → a.payload ≡ payload_as report
    → report_number (handing a told panel lent).reported.handed ≡ first_number (waiting_numbers panel.setup report)
unfolding handing handing_over report_number report_as payload_as of_frame first_said
handing_numbers panel lent whole a told [] is payload = rw is
handing_numbers panel lent whole a told (bad_check command ∷ rest) is payload = rw is
handing_numbers panel lent whole a told (accepted_frame command content ∷ rest) is payload =
    let same : take (length content) a.payload ≡ content =
    ap (take (length content)) payload ∙ take_padded most_payload (length content) content refl in
    rw (is, same) (accepted_number panel lent whole command content)

pub ask_number : (now : Moment) → Sound now.panel → number_given now ask ≡ first_number (printed now ask)
unfolding number_given printed reporting report_number enough words_not_lent area_not_lent room_too_small first_said
ask_number now sound =
    go (eqb (length now.lent.words) word_count) refl (eqb (length now.lent.curves) curve_words) refl (leb least_room (length now.lent.room)) refl
    (wrong_list now.lent.watched) refl
  where
    panel : Panel
    panel = now.panel

    a : Asked
    a = asked panel.reader

    go : (w : Bool) → eqb (length now.lent.words) word_count ≡ w → (c : Bool) → eqb (length now.lent.curves) curve_words ≡ c
        → (r : Bool) → leb least_room (length now.lent.room) ≡ r → (l : Bool) → wrong_list now.lent.watched ≡ l
        → report_number (reporting panel now.lent).reported.handed
        ≡ cond (not w || not c || ltb (length now.lent.room) least_room) 14 (cond l 16 (first_number (waiting_numbers panel.setup (waiting_report panel))))
    go true w true c true r false l =
        rw (w, c, r, l, le-ltb (length now.lent.room) least_room (leb-true least_room (length now.lent.room) r))
        (handing_numbers panel now.lent (eqb-true (length now.lent.words) word_count w) a a.report (waiting_report panel) (asked_report panel sound)
        (asked_payload panel sound))
    go true w true c true r true l = rw (w, c, r, l, le-ltb (length now.lent.room) least_room (leb-true least_room (length now.lent.room) r))
    go true w true c false r l t = rw (w, c, r, lt-ltb (length now.lent.room) least_room (leb-false least_room (length now.lent.room) r))
    go true w false c r s l t = rw (w, c)
    go false w c d r s l t = rw w
