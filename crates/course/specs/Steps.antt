-- 01, "Reading the line": "Bytes or marks are given one at a time; reports are then asked for one at a time until the answer is 'nothing'."
-- Which steps of the course each move of a reader makes, and what it keeps then.
use Rattle.std.specs.Prelude.{ℕ, Bool, true, false, cond, List, [], ◌∷◌, ◌++◌, drop}
use Rattle.reading.specs.Place.{Rules, Seen, look}
use Rattle.reading.specs.Line.{Input, byte, mark}
use Rattle.reading.specs.Moves.{Kept, is_pass, is_report, settled, waiting, after_report}
use Rattle.reading.specs.Run.{Event, offer, ask, with_input}
use Rattle.course.specs.Course.{seen_along, gone_past}

-- the steps of the course that a move makes, and what is kept then
pub record Move : Type 0 where
  pub steps : List Seen
  pub kept : Kept

-- "go to p+1, nothing reported": the steps of a course that pass over bytes, up to the first that reports
unfoldable pub passing : List Seen → List Seen
passing [] = []
passing (seen ∷ later) =
    let behind_it = passing later in
    cond (is_pass seen) (seen ∷ behind_it) []

-- "go to p+1, nothing reported": the move that goes past all that is passed over at the front of these bytes
unfoldable pub settling : Rules → (closed : Bool) → List ℕ → Move
settling rules closed xs = record { steps = passing (seen_along rules closed xs); kept = settled rules closed xs }

-- "Bytes or marks are given one at a time": a byte that is taken
unfoldable pub giving_byte : Rules → Kept → ℕ → Move
giving_byte rules kept b = settling rules false (kept.bytes ++ (b ∷ []))

-- "A quiet mark .. closes a stretch.": a mark that is taken
unfoldable pub giving_mark : Rules → Kept → Move
giving_mark rules kept = settling rules true kept.bytes

-- "Bytes or marks are given one at a time": an input that is taken
unfoldable pub giving_input : Rules → Kept → Input → Move
giving_input rules kept (byte b) = giving_byte rules kept b
giving_input rules kept mark = giving_mark rules kept

-- "reports are then asked for one at a time": handing over makes one step, that of the report which waits, and none where none waits; what is behind the frame
-- is not gone past yet: "report a bad check .., go to p+1"; "report an accepted frame .., go to p+3+L"
unfoldable pub handing_over : Rules → Kept → Move
handing_over rules kept =
    let seen = look rules kept.closed kept.bytes in
    let steps = cond (is_report seen) (seen ∷ []) [] in
    record { steps = steps; kept = record { closed = kept.closed; bytes = drop (gone_past rules steps) kept.bytes } }

-- behind a report that was handed over, what is passed over; "'Nothing' changes nothing"
unfoldable pub going_on : Rules → Kept → Move
going_on rules kept =
    let left = (handing_over rules kept).kept in
    cond (waiting rules kept) (settling rules left.closed left.bytes) (record { steps = []; kept = kept })

-- "reports are then asked for one at a time": the steps of an ask, which hands over and then goes on
unfoldable pub ask_steps : Rules → Kept → List Seen
ask_steps rules kept = (handing_over rules kept).steps ++ (going_on rules kept).steps

-- "An input refused with 1 was not given": the steps that inputs and asks in any order make, one move after the other
unfoldable pub steps_made : Rules → Kept → List Event → List Seen
steps_made rules kept [] = []
steps_made rules kept (offer input ∷ events) =
    cond (waiting rules kept) (steps_made rules kept events) ((giving_input rules kept input).steps ++ steps_made rules (with_input rules kept input) events)
steps_made rules kept (ask ∷ events) = ask_steps rules kept ++ steps_made rules (after_report rules kept) events
