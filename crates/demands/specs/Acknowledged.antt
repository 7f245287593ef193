-- 02, §1: "the read-back of demand 2 is now stated for every frame but acknowledgements, whose seven bytes are stated outright." The theorems are in
-- proofs/Demand2.
use Rattle.std.specs.Prelude.{ℕ, ◌+◌, ◌≡◌, Bool, true, false, List, [], ◌∷◌, ◌++◌, length, drop}
use Rattle.wire.specs.ByteOrder.{low_byte, high_byte}
use Rattle.check_value.specs.CheckValue.{check_value}
use Rattle.frame.specs.Acknowledgement.{verdict}
use Rattle.touch.specs.declared.Setup.{Setup}
use Rattle.panel.specs.State.{answering}
use Rattle.demands.specs.Calls.{Moment, ask, after}

-- "header, length, command, 0xFF, check"; "the same with 0x00". 02, §1: "an acknowledgement carries 02, and its frame still has seven bytes with checking on"
abbrev pub seven_bytes : Setup → (command : ℕ) → (good : Bool) → List ℕ
seven_bytes setup command good =
    let check = check_value (command ∷ verdict good ∷ []) in
    setup.h1 ∷ setup.h2 ∷ 0x02 ∷ command ∷ verdict good ∷ low_byte check ∷ high_byte check ∷ []

-- "With checking and acknowledging both on, each accepted frame is first answered ..; each bad check by the same with 0x00." "The reply follows the
-- acknowledgement at once in the same room. .. bytes past the reported count stay.": the whole room that asking leaves, with this reply, perhaps an empty one
pub record Acknowledges (now : Moment) (command : ℕ) (good : Bool) (reply : List ℕ) : Type 0 where
  pub both_on : answering now.panel.setup ≡ true
      → (after now ask).lent.room ≡ seven_bytes now.panel.setup command good ++ (reply ++ drop (7 + length reply) now.lent.room)
  pub one_off : answering now.panel.setup ≡ false
      → (after now ask).lent.room ≡ reply ++ drop (length reply) now.lent.room
