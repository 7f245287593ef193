-- What a start, an input, a contact and a lift are answered says what 01's lists give.
use Rattle.std.specs.Prelude.{None, Some, Ok, Err}
use mathlib.Core.Path.{◌≡◌, refl, ap, ◌∙◌}
use mathlib.Core.Bool.{Bool, true, false, cond, not}
use mathlib.Core.List.{List, []}
use Prim.Native.Nat.{ℕ}
use lib.ListN.{length}
use Rattle.wire.specs.Numbers.{Said, says, first_said}
use Rattle.line.specs.declared.Waiting.TheVariants as input
use Rattle.line.specs.Methods.{busy, number_of_answer, answer_said, input_listed, input_said, given_byte, given_mark}
use Rattle.line.proofs.Said.{byte_said, mark_said}
use Rattle.registers.specs.Touched.{is_down, is_touch_off}
use Rattle.registers.specs.Clocked.{second_passed}
use Rattle.watch.specs.Judge.{wrong_list}
use Rattle.commands.specs.Lent.{Lent, with_words}
use Rattle.touch.specs.declared.Setup.{Setup}
use Rattle.touch.specs.Table.{Found}
use Rattle.touch.specs.declared.TableError.TheVariants.{NotRecords}
use Rattle.touch.specs.Setup.{good_setup, setup_listed}
use Rattle.touch.specs.Table.{first_of, records_of}
use Rattle.touch.specs.Judge.{wrong, named_wrong, not_records, judged, is_found, number_found, table_listed}
use Rattle.panel.specs.declared.Panel.{Panel}
use Rattle.panel.specs.declared.Start.{Start}
use Rattle.panel.specs.declared.StartError.TheVariants as start_error
use Rattle.panel.specs.declared.Fed.{Fed}
use Rattle.panel.specs.declared.Contacted.{Contacted}
use Rattle.panel.specs.declared.ContactError.TheVariants as contact_error
use Rattle.panel.specs.declared.Lifted.{Lifted}
use Rattle.panel.specs.declared.LiftError.TheVariants as lift_error
use Rattle.panel.specs.Numbers.{start_number, start_said, contact_number, contact_said, lift_number, lift_said}
use Rattle.panel.specs.Start.{refuses, start_judged, started}
use Rattle.panel.specs.Inputs.{fed_byte, fed_mark, fed_second}
use Rattle.panel.specs.State.{pad_of, with_pad, with_registers}
use Rattle.panel.specs.Contacts.{on_screen, Contact, Contacting, contacts, silent, contact_on, contact_judged, told, touch_not_lent, contacting, lifting}
use Rattle.panel.specs.Watching.{telling}
use Rattle.panel.specs.Listed.{start_listed, contact_listed, contact_said_done, contact_answered, lift_listed, said_by}
use Rattle.panel.proofs.Ways.{lifts}
use Rattle.contact.specs.Contact.{Touching, touched, lifted}

start_as_listed : (setup : Setup) (table : List ℕ) → start_said (started setup table).answer ≡ said_by (start_listed setup table)
unfolding started start_judged judged start_said start_number start_listed setup_listed table_listed first_said
start_as_listed setup table = go (not (good_setup setup)) (not_records table) (first_of (wrong setup) 0 (records_of table))
  where
    go : (a b : Bool) (f : Found)
        → start_said (cond a (refuses (Err start_error.WrongSetup)) (start_judged (cond b (Err NotRecords) (named_wrong f)) setup)).answer
        ≡ cond a (says 11 []) (cond b (says 12 []) (cond (is_found f) (says 13 (number_found f)) (says 0 [])))
    go true b f = refl
    go false true f = refl
    go false false None = refl
    go false false (Some (i, r)) = refl

pub start_said_lem : (setup : Setup) (table : List ℕ) (r : Start) → r ≡ started setup table
    → (r ≡ started setup table) × (start_said r.answer ≡ said_by (start_listed setup table))
start_said_lem setup table r is = (is, ap (λ (s : Start). start_said s.answer) is ∙ start_as_listed setup table)

-- an input
pub byte_fed_said : (panel : Panel) (b : ℕ) (r : Fed) → r ≡ fed_byte panel b → (r ≡ fed_byte panel b) × (answer_said r.answer ≡ input_said panel.reader)
unfolding fed_byte
byte_fed_said panel b r is =
    (is, ap (λ (f : Fed). answer_said f.answer) is ∙ (byte_said (given_byte panel.reader b) panel.reader b refl).1)

second_as_listed : (panel : Panel) → answer_said (fed_second panel).answer ≡ input_said panel.reader
unfolding fed_second answer_said input_listed number_of_answer first_said
second_as_listed panel = go (busy panel.reader)
  where
    go : (b : Bool) → answer_said (cond {A = Fed} b (record { answer = Err input.ReportWaits; panel = panel })
        (record { answer = Ok tt; panel = with_registers panel (second_passed panel.registers) })).answer
        ≡ cond b (says 1 []) (says 0 [])
    go true = refl
    go false = refl

pub second_fed_said : (panel : Panel) (r : Fed) → r ≡ fed_second panel → (r ≡ fed_second panel) × (answer_said r.answer ≡ input_said panel.reader)
second_fed_said panel r is = (is, ap (λ (f : Fed). answer_said f.answer) is ∙ second_as_listed panel)

pub mark_fed_said : (panel : Panel) (r : Fed) → r ≡ fed_mark panel → (r ≡ fed_mark panel) × (answer_said r.answer ≡ input_said panel.reader)
unfolding fed_mark
mark_fed_said panel r is = (is, ap (λ (f : Fed). answer_said f.answer) is ∙ (mark_said (given_mark panel.reader) panel.reader refl).1)

-- a contact
said : Contacting → Said
said r = contact_said r.contacted.answer r.contacted.written

module _ (panel : Panel) (c : Contact) (lent : Lent) where
  -- what is said behind the table: 9, 8, or that the contact is done and how many bytes it wrote
  rest : Said
  rest = cond (is_touch_off panel.registers) (says 9 []) (cond (not (on_screen panel.setup c.x c.y)) (says 8 []) (contact_said_done panel c lent))

  on_said : said (told panel.setup (contact_on panel c lent)) ≡ rest
  unfolding said rest contact_on told telling contact_said contact_number contact_said_done
  on_said = go (is_touch_off panel.registers) (not (on_screen panel.setup c.x c.y))
    where
      touch : Touching
      touch = touched panel.setup (pad_of panel) c.table lent.words c.x c.y

      go : (a b : Bool)
          → said (told panel.setup (cond a (silent (Err contact_error.TouchOff) panel lent) (cond b (silent (Err contact_error.OffScreen) panel lent) (silent (Ok tt) (with_pad panel touch.pad) (with_words lent touch.words)))))
          ≡ cond a (says 9 []) (cond b (says 8 []) (contact_said_done panel c lent))
      go true b = refl
      go false true = refl
      go false false = refl

  contact_as_listed : said (contacting panel c lent) ≡ contact_answered panel c lent
  unfolding said rest contacting contact_judged told judged contact_said contact_number contact_listed table_listed first_said
  contact_as_listed =
      go (touch_not_lent (length lent.words) (length lent.room)) (wrong_list lent.watched) (busy panel.reader) (not_records c.table)
      (first_of (wrong panel.setup) 0 (records_of c.table))
    where
      go : (a w b d : Bool) (f : Found)
          → said (cond a (silent (Err contact_error.NotLent) panel lent) (cond w (silent (Err contact_error.WrongList) panel lent) (cond b (silent (Err contact_error.Waits) panel lent)
          (told panel.setup (contact_judged (cond d (Err NotRecords) (named_wrong f)) panel c lent)))))
          ≡ cond a (says 14 []) (cond w (says 16 []) (cond b (says 1 []) (cond d (says 12 []) (cond (is_found f) (says 13 (number_found f)) rest))))
      go true w b d f = refl
      go false true b d f = refl
      go false false true d f = refl
      go false false false true f = refl
      go false false false false None = on_said
      go false false false false (Some (i, r)) = refl

pub contact_said_lem : (panel : Panel) (c : Contact) (given left : (curves : List ℕ) → Lent) (r : Contacted)
    → ((curves : List ℕ) → contacts r (left curves) ≡ contacting panel c (given curves))
    → ((curves : List ℕ) → contacts r (left curves) ≡ contacting panel c (given curves))
    × ((curves : List ℕ) → contact_said r.answer r.written ≡ contact_answered panel c (given curves))
unfolding said
contact_said_lem panel c given left r is = (is, λ curves. ap said (is curves) ∙ contact_as_listed panel c (given curves))

-- a lift
lift_as_listed : (panel : Panel) → lift_said (lifting panel).answer ≡ said_by (lift_listed panel)
unfolding lifting lift_said lift_number lift_listed first_said
lift_as_listed panel = go (busy panel.reader) (not (is_down panel.registers))
  where
    go : (a b : Bool)
        → lift_said (cond a (lifts (Err lift_error.Waits) panel) (cond b (lifts (Err lift_error.IsUp) panel) (lifts (Ok tt) (with_pad panel (lifted (pad_of panel)))))).answer
        ≡ cond a (says 1 []) (cond b (says 10 []) (says 0 []))
    go true b = refl
    go false true = refl
    go false false = refl

pub lift_said_lem : (panel : Panel) (r : Lifted) → r ≡ lifting panel → (r ≡ lifting panel) × (lift_said r.answer ≡ said_by (lift_listed panel))
lift_said_lem panel r is = (is, ap (λ (l : Lifted). lift_said l.answer) is ∙ lift_as_listed panel)
