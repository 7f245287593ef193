-- What the program has read and what it has laid in its room to be written. Which bytes a read gives, and that a write takes them, no contract can say.
use Rattle.std.specs.Prelude.{ℕ, ◌≡◌, false, List, ◌++◌}
use Rattle.trace.specs.State.{Held, waits}
use Rattle.trace.specs.Output.{trace_output}
use Rattle.printing.specs.Reached.{output_from}

-- This input was read, and the texts laid in the room, one after the other, are this text: whatever else is read, what the program prints for all of it is this text and then what is printed from what is held; and no report waits.
pub record ReadSoFar (held : Held) : Type 0 where
  pub input : List ℕ
  pub text : List ℕ
  pub prints : (rest : List ℕ) → trace_output (input ++ rest) ≡ text ++ output_from held rest
  pub quiet : waits held.trace ≡ false
