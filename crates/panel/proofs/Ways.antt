-- The ways in which a contact, a lift, a second and an ask end: what holds of each holds of the call.
use Rattle.std.specs.Prelude.{Option, None, Some, Ok, Err}
use Rattle.line.specs.declared.Report.{Report}
use mathlib.Core.Path.{◌≡◌, refl}
use mathlib.Core.Bool.{Bool, true, false, cond, not}
use mathlib.Core.List.{List, []}
use Prim.Native.Nat.{ℕ}
use borrow.Author.Tests.{not-true}
use lib.ListN.{length}
use Rattle.wire.proofs.Truths.{and_right}
use Rattle.line.specs.declared.Report.TheVariants as line
use Rattle.line.specs.State.{padded}
use Rattle.line.specs.Methods.{busy, asked}
use Rattle.line.specs.declared.Waiting.TheVariants as input
use Rattle.registers.specs.Touched.{is_down, is_touch_off}
use Rattle.registers.specs.Clocked.{second_passed}
use Rattle.touch.specs.declared.Setup.{Setup}
use Rattle.touch.specs.Judge.{Verdict}
use Rattle.touch.specs.declared.TableError.TheVariants.{NotRecords, Wrong}
use Rattle.touch.specs.Judge.{judged}
use Rattle.frame.specs.Frame.{most_payload}
use Rattle.line.proofs.Asking.{nothing_keeps}
use Rattle.watch.specs.Judge.{wrong_list}
use Rattle.commands.specs.Lent.{Lent, with_words}
use Rattle.contact.specs.Contact.{Touching, touched, lifted}
use Rattle.panel.specs.declared.Panel.{Panel}
use Rattle.panel.specs.Answers.{AskAnswer}
use Rattle.panel.specs.Answers.{ContactAnswer}
use Rattle.panel.specs.declared.ContactError.TheVariants as contact_error
use Rattle.panel.specs.declared.Lifted.{Lifted}
use Rattle.panel.specs.Answers.{LiftAnswer}
use Rattle.panel.specs.declared.LiftError.TheVariants as lift_error
use Rattle.panel.specs.declared.Fed.{Fed}
use Rattle.panel.specs.State.{pad_of, with_pad, with_registers}
use Rattle.panel.specs.Inputs.{fed_second}
use Rattle.panel.specs.Reporting.{enough_lent, well_lent, Reporting, reports, handing_over, handing, refusal, reporting}
use Rattle.panel.specs.Watching.{Telling, telling}
use Rattle.panel.specs.Contacts.{on_screen, Contact, Contacting, contacts, silent, contact_on, contact_judged, is_touch, told, touch_not_lent, contacting, lifting}

by_test : {A : Type 0} (P : A → Type 0) (b : Bool) (c d : A) → P c → P d → P (cond b c d)
by_test P true c d p q = p
by_test P false c d p q = q

-- the same, each under what the test was
by_case : {A : Type 0} (P : A → Type 0) (b : Bool) (c d : A) → (b ≡ true → P c) → (b ≡ false → P d) → P (cond b c d)
by_case P true c d p q = p refl
by_case P false c d p q = q refl

-- a contact is refused, or done with what is lent, watched and judged as it must be
abbrev pub touched_by : Panel → Contact → Lent → Touching
touched_by panel c lent = touched panel.setup (pad_of panel) c.table lent.words c.x c.y

-- what is told behind the touch
abbrev pub told_by : Panel → Contact → Lent → Telling
told_by panel c lent = telling panel.setup (with_words lent (touched_by panel c lent).words)

-- a contact that is done
abbrev pub contact_done : Panel → Contact → Lent → Contacting
contact_done panel c lent =
    contacts (record { answer = Ok tt; written = (told_by panel c lent).written; panel = with_pad panel (touched_by panel c lent).pad }) (told_by panel c lent).lent

-- what is told leaves the answer
pub told_answers : (setup : Setup) (done : Contacting) → (told setup done).contacted.answer ≡ done.contacted.answer
unfolding told
told_answers setup done = go (is_touch done.contacted.answer)
  where
    go : (b : Bool)
        → (cond b (contacts (record { answer = done.contacted.answer; written = (telling setup done.lent).written; panel = done.contacted.panel }) (telling setup done.lent).lent) done
        ).contacted.answer ≡ done.contacted.answer
    go true = refl
    go false = refl

-- none of 14, 16, 12 and 13 was given
pub record Passed (panel : Panel) (c : Contact) (lent : Lent) : Type 0 where
  pub well_lent_lem : touch_not_lent (length lent.words) (length lent.room) ≡ false
  pub list_good : wrong_list lent.watched ≡ false
  pub table_good : judged panel.setup c.table ≡ Ok tt

module _ (panel : Panel) (c : Contact) (lent : Lent) (P : Contacting → Type 0)
    (refused : (answer : ContactAnswer) → is_touch answer ≡ false → P (silent answer panel lent)) (done : Passed panel c lent → P (contact_done panel c lent)) where
  on_ways : Passed panel c lent → P (told panel.setup (contact_on panel c lent))
  unfolding contact_on told
  on_ways passed =
      by_test (λ r. P (told panel.setup r)) (is_touch_off panel.registers) _ _ (refused (Err contact_error.TouchOff) refl)
      (by_test (λ r. P (told panel.setup r)) (not (on_screen panel.setup c.x c.y)) _ _ (refused (Err contact_error.OffScreen) refl) (done passed))

  judged_ways : touch_not_lent (length lent.words) (length lent.room) ≡ false → wrong_list lent.watched ≡ false → (verdict : Verdict)
      → judged panel.setup c.table ≡ verdict → P (told panel.setup (contact_judged verdict panel c lent))
  unfolding contact_judged told
  judged_ways well list (Ok tt) is = on_ways (record { well_lent_lem = well; list_good = list; table_good = is })
  judged_ways well list (Err NotRecords) is = refused (Err contact_error.NotRecords) refl
  judged_ways well list (Err (Wrong i)) is = refused (Err (contact_error.WrongRecord i)) refl

  -- the answer of one that is refused is not 0
  pub contact_refused_or_done : P (contacting panel c lent)
  unfolding contacting
  contact_refused_or_done =
      by_case P (touch_not_lent (length lent.words) (length lent.room)) _ _ (λ short. refused (Err contact_error.NotLent) refl)
      (λ long. by_case P (wrong_list lent.watched) _ _ (λ wrong. refused (Err contact_error.WrongList) refl)
      (λ list. by_test P (busy panel.reader) _ _ (refused (Err contact_error.Waits) refl) (judged_ways long list (judged panel.setup c.table) refl)))

pub contact_ways : (panel : Panel) (c : Contact) (lent : Lent) (P : Contacting → Type 0) → ((answer : ContactAnswer) → P (silent answer panel lent))
    → (Passed panel c lent → P (contact_done panel c lent)) → P (contacting panel c lent)
contact_ways panel c lent P refused done = contact_refused_or_done panel c lent P (λ answer none. refused answer) done

-- a lift is refused or done
abbrev pub lifts : LiftAnswer → Panel → Lifted
lifts answer panel = record { answer = answer; panel = panel }

pub lift_ways : (panel : Panel) (P : Lifted → Type 0) → P (lifts (Err lift_error.Waits) panel) → P (lifts (Err lift_error.IsUp) panel)
    → P (lifts (Ok tt) (with_pad panel (lifted (pad_of panel)))) → P (lifting panel)
unfolding lifting
lift_ways panel P waits up done = by_test P (busy panel.reader) _ _ waits (by_test P (not (is_down panel.registers)) _ _ up done)

-- a second is refused, or the clock advances
pub second_ways : (panel : Panel) (P : Fed → Type 0) → P (record { answer = Err input.ReportWaits; panel = panel })
    → (busy panel.reader ≡ false → P (record { answer = Ok tt; panel = with_registers panel (second_passed panel.registers) })) → P (fed_second panel)
unfolding fed_second
second_ways panel P waits done = by_case P (busy panel.reader) _ _ (λ is. waits) done

-- an ask is refused with 14 or 16, hands nothing over, or hands over a bad check or, with a good list, an accepted frame
module _ (panel : Panel) (lent : Lent) (P : Reporting → Type 0)
    (stands : (h : AskAnswer) (payload : List ℕ) → P (reports (record { handed = h; payload = payload; panel = panel }) lent))
    (bad : (command : ℕ) → (asked panel.reader).report ≡ Some (line.BadCheck command) → P (handing (asked panel.reader) (Some (line.BadCheck command)) panel lent))
    (accepted : wrong_list lent.watched ≡ false → (command count : ℕ) → (asked panel.reader).report ≡ Some (line.Accepted command count)
    → P (handing (asked panel.reader) (Some (line.Accepted command count)) panel lent)) where
  handing_ways : wrong_list lent.watched ≡ false → (report : Option Report) → (asked panel.reader).report ≡ report
      → P (handing (asked panel.reader) report panel lent)
  unfolding handing handing_over
  handing_ways list None is = rw (nothing_keeps panel.reader is) (stands (Ok None) (asked panel.reader).payload)
  handing_ways list (Some (line.BadCheck command)) is = bad command is
  handing_ways list (Some (line.Accepted command count)) is = accepted list command count is

  pub report_ways : P (reporting panel lent)
  unfolding reporting
  report_ways =
      by_case P (well_lent lent) _ _
      (λ well. handing_ways (not-true (wrong_list lent.watched) (and_right (enough_lent lent) (not (wrong_list lent.watched)) well)) (asked panel.reader).report refl)
      (λ badly. stands (refusal lent) (padded most_payload []))
