-- 01, "Commands": "each accepted frame is first answered by header, length, command, 0xFF, check; each bad check by the same with 0x00."
-- Its length byte does not follow the general rule. 02, §1: "an acknowledgement carries 02, and its frame still has seven bytes with checking on."
use Rattle.std.specs.Prelude.{ℕ, ◌+◌, Bool, true, false, List, [], ◌∷◌, ◌++◌, length}
use Rattle.wire.specs.ByteOrder.{low_byte, high_byte}
use Rattle.check_value.specs.CheckValue.{check_value}

-- 02, §1: "an acknowledgement carries 02"
unfoldable pub acknowledgement_length : ℕ
acknowledgement_length = 0x02

-- "each accepted frame is first answered by .. 0xFF ..; each bad check by the same with 0x00"
unfoldable pub verdict : Bool → ℕ
verdict true = 0xFF
verdict false = 0x00

-- "header, length, command, 0xFF, check"; "the same with 0x00". One is written only "With checking and acknowledging both on", so it has check bytes: "The check
-- value is .. over command and data only, and is sent low byte first". 02, §1: "whose seven bytes are stated outright"
unfoldable pub acknowledgement : (header : List ℕ) (command : ℕ) (accepted : Bool) → List ℕ
acknowledgement header command accepted =
    let check = check_value (command ∷ verdict accepted ∷ []) in
    header ++ (acknowledgement_length ∷ command ∷ verdict accepted ∷ low_byte check ∷ high_byte check ∷ [])

-- 02, §1: "its frame still has seven bytes": five behind the header
abbrev pub acknowledgement_size : (header : List ℕ) → ℕ
acknowledgement_size header = length header + 5
