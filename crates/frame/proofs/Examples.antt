-- 01, "Proved examples", c and d, and 004's frame, by computation from the definitions.
use mathlib.Core.Path.{◌≡◌, refl}
use mathlib.Core.Bool.{true, false}
use mathlib.Core.List.{List, [], ◌∷◌}
use Prim.Native.Nat.{ℕ}
use native.Mathlib.Omega.{arith}
use lib.ListN.{replicate}
use Rattle.wire.specs.Room.{lays}
use Rattle.check_value.specs.CheckValue.{polynomial, bit_step, bit_steps, byte_step, check_from, check_value}
use Rattle.frame.specs.Frame.{check_length, check_bytes, length_byte, enclosed, framed, frame_of}
use Rattle.frame.specs.Acknowledgement.{acknowledgement_length, verdict, acknowledgement}
use Rattle.frame.specs.Writer.{acknowledgement_laid}
use Rattle.frame.proofs.Acknowledgements.{acknowledgement_leaves_rest}

-- the header of the examples, 5A A5
abbrev pub header : List ℕ
header = 0x5A ∷ 0xA5 ∷ []

-- "004's frame 5A A5 05 81 00 01 E0 28 has check value 0x28E0"
pub read_version_frame : frame_of true header 0x81 (0x00 ∷ 0x01 ∷ []) ≡ 0x5A ∷ 0xA5 ∷ 0x05 ∷ 0x81 ∷ 0x00 ∷ 0x01 ∷ 0xE0 ∷ 0x28 ∷ []
unfolding frame_of framed enclosed length_byte check_length check_bytes check_value check_from byte_step bit_steps bit_step polynomial
read_version_frame = refl

-- c. "Good acknowledgement", which 02, §1, changes: 5A A5 02 81 FF 21 A0
pub good_acknowledgement : acknowledgement header 0x81 true ≡ 0x5A ∷ 0xA5 ∷ 0x02 ∷ 0x81 ∷ 0xFF ∷ 0x21 ∷ 0xA0 ∷ []
unfolding acknowledgement acknowledgement_length verdict check_value check_from byte_step bit_steps bit_step polynomial
good_acknowledgement = refl

-- d. "Bad one", changed in the same way: 5A A5 02 81 00 61 E0
pub bad_acknowledgement : acknowledgement header 0x81 false ≡ 0x5A ∷ 0xA5 ∷ 0x02 ∷ 0x81 ∷ 0x00 ∷ 0x61 ∷ 0xE0 ∷ []
unfolding acknowledgement acknowledgement_length verdict check_value check_from byte_step bit_steps bit_step polynomial
bad_acknowledgement = refl

-- over a room of nine bytes, of which two stay
pub acknowledgement_in_nine : acknowledgement_laid header 0x81 true (replicate 9 0xEE)
    ≡ lays 7 (0x5A ∷ 0xA5 ∷ 0x02 ∷ 0x81 ∷ 0xFF ∷ 0x21 ∷ 0xA0 ∷ 0xEE ∷ 0xEE ∷ [])
unfolding acknowledgement acknowledgement_length verdict check_value check_from byte_step bit_steps bit_step polynomial
acknowledgement_in_nine = acknowledgement_leaves_rest header 0x81 true (replicate 9 0xEE) (omega arith)
