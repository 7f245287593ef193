-- Sequences of calls of one panel. Demand 1: "No sequence of line bytes, quiet marks, contacts, lifts, tables or lent buffers ..", and 02, §6: "A new input, one
-- second".
use Rattle.std.specs.Prelude.{ℕ, ◌≤◌, ◌<◌, ◌≡◌, false, cond, List, [], ◌∷◌, ◌++◌, eqb, length, take, get_or, None, Some, Ok, Err}
use Prim.{Unit}
use Rattle.wire.specs.Addresses.{word_count}
use Rattle.wire.specs.Bytes.{Bytes}
use Rattle.frame.specs.Writer.{least_room}
use Rattle.reading.specs.Place.{Report, bad_check, accepted_frame}
use Rattle.line.specs.Methods as Line
use Rattle.curves.specs.Area.{curve_words}
use Rattle.watch.specs.Judge.{wrong_list}
use Rattle.commands.specs.Lent.{Lent}
use Rattle.touch.specs.declared.Setup.{Setup}
use Rattle.panel.specs.declared.Panel.{Panel}
use Rattle.panel.specs.Answers.{AskAnswer}
use Rattle.panel.specs.declared.Handed.TheVariants as handed
use Rattle.panel.specs.Numbers.{report_number, contact_number, lift_number}
use Rattle.panel.specs.Start.{started}
use Rattle.panel.specs.Inputs.{fed_byte, fed_mark, fed_second, fed_bytes}
use Rattle.panel.specs.Reporting.{reporting}
use Rattle.panel.specs.Contacts.{Contact, contacting, lifting}

-- the panel, and what is lent to it (the variable words, the curve area, the reply room and the watch list), as the last call left them
pub record Moment : Type 0 where
  pub panel : Panel
  pub lent : Lent

-- "sequence of line bytes, quiet marks, contacts, lifts, tables or lent buffers": a line byte, line bytes one after the other, a quiet mark, 02, §6: "one
-- second", asking for a report, a contact with the table it is lent, a lift. `lend` is no call of the panel: the caller lends other things from then on.
pub data Call : Type 0 where
  lend : (lent : Lent) → Call
  byte : (b : ℕ) → Call
  bytes : (bs : List ℕ) → Call
  mark : Call
  second : Call
  ask : Call
  contact : (c : Contact) → Call
  lift : Call

-- a moment with another panel, and the same lent
abbrev pub with_panel : Moment → Panel → Moment
with_panel now panel = record { panel = panel; lent = now.lent }

-- the panel started, with what is lent to it. "A refused start gives no panel."
abbrev pub begun : Setup → (table : List ℕ) → Lent → Moment
begun setup table lent = record { panel = (started setup table).panel; lent = lent }

-- what must be lent, so that asking is not answered 14: "words lent aren't 28,672, or reply .. room below 265", 02, §2: "14 also for a curve area of the wrong
-- length"; nor 16, 02, §4: "two entries in use share a word or one in use has an address not below 0x7000, or the list is longer than 16"
pub record WellLent (lent : Lent) : Type 0 where
  pub words : length lent.words ≡ word_count
  pub curves : length lent.curves ≡ curve_words
  pub room : least_room ≤ length lent.room
  pub watched : wrong_list lent.watched ≡ false

-- what must be lent, so that a contact is answered neither 14, 02, §4: "14 also for reply room at a contact", nor 16
pub record TouchLent (lent : Lent) : Type 0 where
  pub words : length lent.words ≡ word_count
  pub room : least_room ≤ length lent.room
  pub watched : wrong_list lent.watched ≡ false

-- what a call leaves
unfoldable pub after : Moment → Call → Moment
after now (lend lent) = record { panel = now.panel; lent = lent }
after now (byte b) = with_panel now (fed_byte now.panel b).panel
after now (bytes bs) = with_panel now (fed_bytes now.panel bs).panel
after now mark = with_panel now (fed_mark now.panel).panel
after now second = with_panel now (fed_second now.panel).panel
after now ask =
    let done = reporting now.panel now.lent in
    record { panel = done.reported.panel; lent = done.lent }
after now (contact c) =
    let done = contacting now.panel c now.lent in
    record { panel = done.contacted.panel; lent = done.lent }
after now lift = with_panel now (lifting now.panel).panel

-- what calls leave, one after the other
unfoldable pub after_all : Moment → List Call → Moment
after_all now [] = now
after_all now (call ∷ calls) = after_all (after now call) calls

-- "Numbers given back": what a call is answered. Of bytes one after the other the one that is not taken is answered 1.
unfoldable pub number_given : Moment → Call → ℕ
number_given now (lend lent) = 0
number_given now (byte b) = Line.number_of_answer (fed_byte now.panel b).answer
number_given now (bytes bs) = cond (eqb (fed_bytes now.panel bs).used (length bs)) 0 1
number_given now mark = Line.number_of_answer (fed_mark now.panel).answer
number_given now second = Line.number_of_answer (fed_second now.panel).answer
number_given now ask = report_number (reporting now.panel now.lent).reported.handed
number_given now (contact c) = contact_number (contacting now.panel c now.lent).contacted.answer
number_given now lift = lift_number (lifting now.panel).answer

-- the report that an answer hands over: of an accepted frame "its command and data", which stands beside the answer
unfoldable pub report_handed : AskAnswer → (payload : List ℕ) → List Report
report_handed (Err why) payload = []
report_handed (Ok None) payload = []
report_handed (Ok (Some (handed.BadCheck command acknowledged))) payload = bad_check command ∷ []
report_handed (Ok (Some (handed.Accepted command count outcome acknowledged replied))) payload = accepted_frame command (take count payload) ∷ []

-- "reports are then asked for one at a time": what a call hands over; only asking does
unfoldable pub handed_over : Moment → Call → List Report
handed_over now (lend lent) = []
handed_over now (byte b) = []
handed_over now (bytes bs) = []
handed_over now mark = []
handed_over now second = []
handed_over now ask =
    let done = (reporting now.panel now.lent).reported in
    report_handed done.handed done.payload
handed_over now (contact c) = []
handed_over now lift = []

-- "The reports asked for, in order"
unfoldable pub handed_over_all : Moment → List Call → List Report
handed_over_all now [] = []
handed_over_all now (call ∷ calls) = handed_over now call ++ handed_over_all (after now call) calls

-- "16-bit numbers"
abbrev pub Halfwords : List ℕ → Type 0
Halfwords ws = (i : ℕ) → get_or ws i 0 < 65536

-- what the types of what is lent say: "16-bit numbers", and bytes
pub record LentTyped (lent : Lent) : Type 0 where
  pub words : Halfwords lent.words
  pub curves : Halfwords lent.curves
  pub room : Bytes lent.room
  pub addresses : Halfwords lent.watched.addresses
  pub uses : Bytes lent.watched.uses
  pub values : Halfwords lent.watched.values

-- what the types of a call's arguments say
unfoldable pub Typed : Call → Type 0
Typed (lend lent) = LentTyped lent
Typed (byte b) = b < 256
Typed (bytes bs) = Bytes bs
Typed mark = Unit
Typed second = Unit
Typed ask = Unit
Typed (contact c) = Bytes c.table × ((c.x < 65536) × (c.y < 65536))
Typed lift = Unit

-- and of the arguments of all these calls
unfoldable pub AllTyped : List Call → Type 0
AllTyped [] = Unit
AllTyped (call ∷ calls) = Typed call × AllTyped calls

-- the moments that calls lead to from a start: any setup and table that are not refused, whatever is lent
pub data Arises : Moment → Type 0 where
  from_start : (setup : Setup) (table : List ℕ) (lent : Lent) → setup.h1 < 256 → setup.h2 < 256 → Halfwords lent.words
      → Halfwords lent.curves → (started setup table).answer ≡ Ok tt → Arises (begun setup table lent)
  by_call : (now : Moment) (call : Call) → Typed call → Arises now → Arises (after now call)
