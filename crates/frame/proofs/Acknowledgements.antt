-- Laws of an acknowledgement, by which nobody else opens it.
use mathlib.Core.Path.{◌≡◌}
use mathlib.Core.Bool.{Bool, true}
use mathlib.Core.List.{List, [], ◌∷◌, ◌++◌, append_assoc}
use Prim.Native.Nat.{ℕ, ◌≤◌}
use native.Mathlib.Omega.{arith}
use borrow.Author.Tests.{le-leb}
use lib.ListN.{length, drop, length-append}
use Rattle.wire.specs.ByteOrder.{low_byte, high_byte}
use Rattle.wire.specs.Room.{over, lays, laid}
use Rattle.check_value.specs.CheckValue.{check_value}
use Rattle.frame.specs.Frame.{check_bytes, enclosed}
use Rattle.frame.specs.Acknowledgement.{acknowledgement_length, verdict, acknowledgement, acknowledgement_size}
use Rattle.frame.specs.Writer.{acknowledgement_laid}

module _ (header : List ℕ) (command : ℕ) (accepted : Bool) where
  -- 02, §1: "its frame still has seven bytes", five of them behind the header
  pub length_acknowledgement : length (acknowledgement header command accepted) ≡ acknowledgement_size header
  unfolding acknowledgement
  length_acknowledgement =
      let check = check_value (command ∷ verdict accepted ∷ []) in
      length-append header (acknowledgement_length ∷ command ∷ verdict accepted ∷ low_byte check ∷ high_byte check ∷ [])

  -- as the writers lay it: its content and check bytes behind header and its own length byte
  pub acknowledgement_enclosed : enclosed true header acknowledgement_length (command ∷ verdict accepted ∷ []) ≡ acknowledgement header command accepted
  unfolding acknowledgement enclosed check_bytes
  acknowledgement_enclosed =
      let check = check_value (command ∷ verdict accepted ∷ []) in
      append_assoc header (acknowledgement_length ∷ []) (command ∷ verdict accepted ∷ low_byte check ∷ high_byte check ∷ [])

  -- a room that holds it has it at the front, and the rest as it stood
  pub acknowledgement_leaves_rest : (room : List ℕ) → acknowledgement_size header ≤ length room
      → acknowledgement_laid header command accepted room
      ≡ lays (acknowledgement_size header) (acknowledgement header command accepted ++ drop (acknowledgement_size header) room)
  unfolding acknowledgement_laid laid over
  acknowledgement_leaves_rest room fits =
      let long = length_acknowledgement in
      rw (le-leb (length (acknowledgement header command accepted)) (length room) (omega (arith, long)), long)
