-- 01: "contact 14, 1, 12, 13, 9, 8; lift 1, 10". 02, §4: "16, .., right after 14 at contacts and reports", "14 also for reply room at a contact".
use Rattle.std.specs.Prelude.{Ok, Err}
use Rattle.std.specs.Prelude.{ℕ, Bool, true, false, cond, not, ◌&&◌, ◌||◌, List, eqb, ltb, length}
use Rattle.line.specs.Methods.{busy}
use Rattle.registers.specs.Touched.{is_down, is_touch_off}
use Rattle.wire.specs.Addresses.{word_count}
use Rattle.touch.specs.declared.Setup.{Setup}
use Rattle.touch.specs.Judge.{Verdict}
use Rattle.touch.specs.declared.TableError.{TableError}
use Rattle.touch.specs.declared.TableError.TheVariants.{NotRecords, Wrong}
use Rattle.touch.specs.Judge.{judged}
use Rattle.frame.specs.Writer.{least_room}
use Rattle.watch.specs.Judge.{wrong_list}
use Rattle.commands.specs.Lent.{Lent, with_words}
use Rattle.contact.specs.Contact.{touched, lifted}
use Rattle.panel.specs.declared.Panel.{Panel}
use Rattle.panel.specs.Answers.{ContactAnswer}
use Rattle.panel.specs.declared.ContactError.{ContactError}
use Rattle.panel.specs.declared.ContactError.TheVariants as contact_error
use Rattle.panel.specs.declared.Contacted.{Contacted}
use Rattle.panel.specs.declared.LiftError.TheVariants as lift_error
use Rattle.panel.specs.declared.Lifted.{Lifted}
use Rattle.panel.specs.State.{pad_of, with_pad}
use Rattle.panel.specs.Watching.{telling}

-- the opposite of "8: contact off the screen"
abbrev pub on_screen : Setup → (x y : ℕ) → Bool
on_screen setup x y = ltb x setup.width && ltb y setup.height

-- what a contact brings: "The table is lent again at each contact", and the point
pub record Contact : Type 0 where
  pub table : List ℕ
  pub x : ℕ
  pub y : ℕ

-- builds one
abbrev pub contact_at : (table : List ℕ) → (x y : ℕ) → Contact
contact_at table x y = record { table = table; x = x; y = y }

-- what a contact answers, and what is lent as it leaves it
pub record Contacting : Type 0 where
  pub contacted : Contacted
  pub lent : Lent

-- builds one
abbrev pub contacts : Contacted → Lent → Contacting
contacts contacted lent = record { contacted = contacted; lent = lent }

-- an answer beside which nothing was written into the room
abbrev pub only_answers : ContactAnswer → Panel → Contacted
only_answers answer panel = record { answer = answer; written = 0; panel = panel }

-- such an answer, with what is lent
abbrev pub silent : ContactAnswer → Panel → Lent → Contacting
silent answer panel lent = contacts (only_answers answer panel) lent

-- with a good table: "9, 8", each under its condition, else the contact is done
unfoldable pub contact_on : Panel → Contact → Lent → Contacting
contact_on panel c lent =
    let done = touched panel.setup (pad_of panel) c.table lent.words c.x c.y in
    cond (is_touch_off panel.registers) (silent (Err contact_error.TouchOff) panel lent)
    (cond (not (on_screen panel.setup c.x c.y)) (silent (Err contact_error.OffScreen) panel lent)
    (silent (Ok tt) (with_pad panel done.pad) (with_words lent done.words)))

-- "contact .. 12, 13": what a wrong table is refused with
abbrev pub contact_error_of : TableError → ContactError
contact_error_of NotRecords = contact_error.NotRecords
contact_error_of (Wrong i) = contact_error.WrongRecord i

-- "The table is lent again at each contact and judged again by 12 and 13."
unfoldable pub contact_judged : Verdict → Panel → Contact → Lent → Contacting
contact_judged (Ok tt) panel c lent = contact_on panel c lent
contact_judged (Err why) panel c lent = silent (Err (contact_error_of why)) panel lent

-- "0: done"
abbrev pub is_touch : ContactAnswer → Bool
is_touch (Ok tt) = true
is_touch (Err why) = false

-- 02, §4: "After a contact that answers 0, the first entry in use .. gets one unasked 0x83 reply": what is written into the room behind the touch
unfoldable pub told : Setup → Contacting → Contacting
told setup done =
    let t = telling setup done.lent in
    cond (is_touch done.contacted.answer)
    (contacts (record { answer = done.contacted.answer; written = t.written; panel = done.contacted.panel }) t.lent) done

-- "14: words lent aren't 28,672, or reply .. room below 265", of a contact 02, §4: "14 also for reply room at a contact"
unfoldable pub touch_not_lent : (words room : ℕ) → Bool
touch_not_lent words room = not (eqb words word_count) || ltb room least_room

-- "contact 14, 1, 12, 13, 9, 8", with 16 "right after 14": of these, 14, 16, 1 and then the table
unfoldable pub contacting : Panel → Contact → Lent → Contacting
contacting panel c lent =
    cond (touch_not_lent (length lent.words) (length lent.room)) (silent (Err contact_error.NotLent) panel lent)
    (cond (wrong_list lent.watched) (silent (Err contact_error.WrongList) panel lent)
    (cond (busy panel.reader) (silent (Err contact_error.Waits) panel lent)
    (told panel.setup (contact_judged (judged panel.setup c.table) panel c lent))))

-- "lift 1, 10"; "Lifts are taken with touch off."
unfoldable pub lifting : Panel → Lifted
lifting panel =
    cond (busy panel.reader) (record { answer = Err lift_error.Waits; panel = panel })
    (cond (not (is_down panel.registers)) (record { answer = Err lift_error.IsUp; panel = panel })
    (record { answer = Ok tt; panel = with_pad panel (lifted (pad_of panel)) }))
