-- 01, "Reading the line": inputs and asks in any order, from what a reader keeps.
use Rattle.std.specs.Prelude.{ℕ, zero, suc, Bool, true, false, cond, List, [], ◌∷◌, ◌++◌}
use Rattle.reading.specs.Place.{Rules, Report}
use Rattle.reading.specs.Stretch.{held_of}
use Rattle.reading.specs.Line.{Input, byte, mark, line_from}
use Rattle.reading.specs.Moves.{Kept, waiting, with_byte, with_mark, handed, after_report}

-- an input is offered, or a report is asked for
pub data Event : Type 0 where
  offer : Input → Event
  ask : Event

-- the inputs given, the reports handed over, and what is kept in the end
pub record Ran : Type 0 where
  pub given : List Input
  pub handed_over : List Report
  pub kept : Kept

-- a run before which one input more was given
abbrev pub giving : Input → Ran → Ran
giving input ran = record { given = input ∷ ran.given; handed_over = ran.handed_over; kept = ran.kept }

-- a run before which these reports were handed over
abbrev pub handing : List Report → Ran → Ran
handing these ran = record { given = ran.given; handed_over = these ++ ran.handed_over; kept = ran.kept }

-- one run and then another
abbrev pub followed : Ran → Ran → Ran
followed first second =
    record { given = first.given ++ second.given; handed_over = first.handed_over ++ second.handed_over; kept = second.kept }

-- "Bytes or marks are given one at a time": an input that is taken
unfoldable pub with_input : Rules → Kept → Input → Kept
with_input rules kept (byte b) = with_byte rules kept b
with_input rules kept mark = with_mark rules kept

-- "An input refused with 1 was not given": it comes while a report waits, and changes nothing
unfoldable pub run : Rules → Kept → List Event → Ran
run rules kept [] = record { given = []; handed_over = []; kept = kept }
run rules kept (offer input ∷ events) =
    cond (waiting rules kept) (run rules kept events) (giving input (run rules (with_input rules kept input) events))
run rules kept (ask ∷ events) = handing (handed rules kept) (run rules (after_report rules kept) events)

-- "A quiet mark .. closes a stretch.": the line with that mark in front, where it has been given
unfoldable pub closing : Bool → List Input → List Input
closing true line = mark ∷ line
closing false line = line

-- the reading of a line whose first stretch begins with what is kept
unfoldable pub read_on : Rules → Kept → List Input → List Report
read_on rules kept line = line_from rules kept.bytes (closing kept.closed line)

-- "The last stretch may be open.": what has come of it at the line's end, `stretch` being what had come of the first
unfoldable pub open_from : List ℕ → List Input → List ℕ
open_from stretch [] = stretch
open_from stretch (byte b ∷ line) = open_from (stretch ++ (b ∷ [])) line
open_from stretch (mark ∷ line) = open_from [] line

-- "the bytes from the waiting place on are held"
unfoldable pub held_on : Rules → Kept → List Input → List ℕ
held_on rules kept line = held_of rules (open_from kept.bytes (closing kept.closed line))

-- "the bytes from the waiting place on are held": of a line from its first byte on
unfoldable pub line_held : Rules → List Input → List ℕ
line_held rules line = held_of rules (open_from [] line)

-- "reports are then asked for one at a time", n times
unfoldable pub asks : ℕ → List Event
asks zero = []
asks (suc n) = ask ∷ asks n

-- the bytes among the inputs offered
unfoldable pub offered : List Event → List ℕ
offered [] = []
offered (offer (byte b) ∷ events) = b ∷ offered events
offered (offer mark ∷ events) = offered events
offered (ask ∷ events) = offered events
