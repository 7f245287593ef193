-- No public promise cites this file: what private functions of the program leave in its room. That a write takes what stands there no contract can say.
use Rattle.std.specs.Prelude.{ℕ, ◌+◌, ◌*◌, ◌≤◌, ◌<◌, ◌≡◌, ◌⊎◌, true, false, List, ◌++◌, length, drop}
use Rattle.trace.specs.State.{Held, waits}
use Rattle.printing.specs.Reached.{HeldSound, kept_by, output_from}
use Rattle.printing.specs.Feeding.{calls_each}

-- how many calls of `step` are enough for what is held and what is left of the input
abbrev pub calls_left : Held → List ℕ → ℕ
calls_left held left = length left * calls_each + kept_by held

-- From before to after so much of the input is taken, and this is its text: whatever comes behind the input, 01 prints from before this text and then what it prints from after.
pub record Filling (before : Held) (input : List ℕ) (after : Held) (used : ℕ) (text : List ℕ) : Type 0 where
  pub sound : HeldSound after
  pub within : used ≤ length input
  pub prints : (rest : List ℕ) → output_from before (input ++ rest) ≡ text ++ output_from after (drop used input ++ rest)
  -- where there was something to do, less is left
  pub nearer : (waits before.trace ≡ true) ⊎ (0 < length input) → calls_left after (drop used input) < calls_left before input

-- All of an input is taken, and the texts that stood in the room one after the other are this text.
pub record Passing (before : Held) (input : List ℕ) (after : Held) : Type 0 where
  pub text : List ℕ
  pub prints : (rest : List ℕ) → output_from before (input ++ rest) ≡ text ++ output_from after rest
  pub quiet : waits after.trace ≡ false
