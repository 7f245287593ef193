-- 01, "Numbers given back", "Order": the lists by which a start, an ask for a report, a contact and a lift are answered; an input has its own in crate
-- line, and a command, 2 to 7, in crate commands.
use Rattle.std.specs.Prelude.{ℕ, ◌-◌, cond, not, ◌||◌, List, [], ◌∷◌, ◌++◌, eqb, ltb, length}
use Rattle.wire.specs.Addresses.{word_count}
use Rattle.wire.specs.Numbers.{Said, says, Listed, ◌when◌, first_said}
use Rattle.frame.specs.Acknowledgement.{acknowledgement_size}
use Rattle.frame.specs.Writer.{least_room}
use Rattle.line.specs.Methods.{busy}
use Rattle.line.specs.Front.{hands_nothing, is_bad, bad_command, front_command, front_content}
use Rattle.registers.specs.Touched.{is_down, is_touch_off}
use Rattle.curves.specs.Area.{curve_words}
use Rattle.watch.specs.Judge.{wrong_list}
use Rattle.watch.specs.Sending.{sending}
use Rattle.commands.specs.Lent.{Lent}
use Rattle.commands.specs.Listed.{perform_said}
use Rattle.touch.specs.declared.Setup.{Setup}
use Rattle.touch.specs.Setup.{setup_listed}
use Rattle.touch.specs.Judge.{table_listed}
use Rattle.panel.specs.declared.Panel.{Panel}
use Rattle.contact.specs.Contact.{touched}
use Rattle.panel.specs.State.{header_of, fixed_for, answering, pad_of}
use Rattle.panel.specs.Watching.{unasked}
use Rattle.panel.specs.Contacts.{on_screen, Contact, touch_not_lent}

-- "start 11, 12, 13"
unfoldable pub start_listed : Setup → (table : List ℕ) → List Listed
start_listed setup table = setup_listed setup ++ table_listed setup table

-- how long an acknowledgement is: "header, length, command, 0xFF, check". 02, §1: "its frame still has seven bytes with checking on"
unfoldable pub answer_length : Setup → ℕ
answer_length setup = cond (answering setup) (acknowledgement_size (header_of setup)) 0

-- "asking for a report 14, ..", 02, §2: "14 also for a curve area of the wrong length"; 02, §4: "16, .., right after 14 at contacts and reports": then "nothing", then a bad check with its command byte and how long its acknowledgement is
unfoldable pub ask_listed : Panel → Lent → List Listed
ask_listed panel lent =
    (says 14 [] when (not (eqb (length lent.words) word_count) || not (eqb (length lent.curves) curve_words) || ltb (length lent.room) least_room))
    ∷ (says 16 [] when wrong_list lent.watched)
    ∷ (says 0 [] when hands_nothing panel.reader)
    ∷ (says 0 (bad_command panel.reader.head ∷ answer_length panel.setup ∷ []) when is_bad panel.reader.head)
    ∷ []

-- these values in front of those that are said
abbrev pub beside : (values : List ℕ) → Said → Said
beside values said = says said.number (values ++ said.values)

-- ".. then 2 to 7 in turn": "answers beside a frame's report": its command, how much data it has and how long its acknowledgement is; the reply has the
-- room behind the acknowledgement
unfoldable pub frame_said : Panel → Lent → Said
frame_said panel lent =
    let setup = panel.setup in
    let command = front_command panel.reader in
    let content = front_content panel.reader in
    beside (command ∷ length content ∷ answer_length setup ∷ [])
    (perform_said (fixed_for setup) word_count (length lent.room - answer_length setup) command content)

-- "The first number in order whose condition holds is given": "asking for a report 14, then 2 to 7 in turn"
abbrev pub ask_said : Panel → Lent → Said
ask_said panel lent = first_said (ask_listed panel lent) (frame_said panel lent)

-- "contact 14, 1, 12, 13, 9, 8"; 02, §4: "16, .., right after 14 at contacts and reports", "14 also for reply room at a contact"
unfoldable pub contact_listed : Panel → Contact → Lent → List Listed
contact_listed panel c lent =
    (says 14 [] when touch_not_lent (length lent.words) (length lent.room))
    ∷ (says 16 [] when wrong_list lent.watched)
    ∷ (says 1 [] when busy panel.reader)
    ∷ (table_listed panel.setup c.table
    ++ ((says 9 [] when is_touch_off panel.registers) ∷ (says 8 [] when not (on_screen panel.setup c.x c.y)) ∷ []))

-- "0: done", and beside it how many bytes the frame has that is written, 02, §4: "one unasked 0x83 reply of count 1"; none where nothing is due
unfoldable pub contact_said_done : Panel → Contact → Lent → Said
contact_said_done panel c lent =
    let words = (touched panel.setup (pad_of panel) c.table lent.words c.x c.y).words in
    says 0 (length (unasked panel.setup words (sending words lent.watched).due) ∷ [])

-- "The first number in order whose condition holds is given": of a contact
abbrev pub contact_answered : Panel → Contact → Lent → Said
contact_answered panel c lent = first_said (contact_listed panel c lent) (contact_said_done panel c lent)

-- "lift 1, 10"
unfoldable pub lift_listed : Panel → List Listed
lift_listed panel = (says 1 [] when busy panel.reader) ∷ (says 10 [] when not (is_down panel.registers)) ∷ []

-- "0: done"
abbrev pub said_by : List Listed → Said
said_by listed = first_said listed (says 0 [])
