-- 01, "Frame": "Two header bytes H1 H2, fixed at setup; a length byte L; command; data; and, with checking on, two check bytes."
-- A header is a list here, so that all that is said of frames is said for a header of any length.
use Rattle.std.specs.Prelude.{ℕ, ◌+◌, ◌-◌, ◌≤◌, ◌≡◌, Bool, true, false, ◌&&◌, List, [], ◌∷◌, ◌++◌, eqb, length, get_or, take}
use Rattle.wire.specs.ByteOrder.{low_byte, high_byte, low_first}
use Rattle.check_value.specs.CheckValue.{check_value}
use Rattle.frame.specs.declared.Header.{Header}

-- "Two header bytes H1 H2, fixed at setup": as a list
unfoldable pub header_bytes : Header → List ℕ
header_bytes header = header.h1 ∷ header.h2 ∷ []

-- "with checking on, two check bytes": how many there are
unfoldable pub check_length : Bool → ℕ
check_length true = 2
check_length false = 0

-- "The check value is .. over command and data only, and is sent low byte first"; `content` is command and data
unfoldable pub check_bytes : Bool → List ℕ → List ℕ
check_bytes true content = low_first (check_value content)
check_bytes false content = []

-- "L counts command, data and check bytes"
unfoldable pub length_byte : Bool → List ℕ → ℕ
length_byte checking content = length content + check_length checking

-- "Two header bytes H1 H2 ..; a length byte L; command; data; and, with checking on, two check bytes", for any length byte l; `content` is command and data
unfoldable pub enclosed : Bool → List ℕ → ℕ → List ℕ → List ℕ
enclosed checking header l content = (header ++ (l ∷ [])) ++ (content ++ check_bytes checking content)

-- "L counts command, data and check bytes": the frame whose length byte does
unfoldable pub framed : Bool → List ℕ → List ℕ → List ℕ
framed checking header content = enclosed checking header (length_byte checking content) content

-- that frame, for a command and its data
unfoldable pub frame_of : Bool → List ℕ → ℕ → List ℕ → List ℕ
frame_of checking header command payload = framed checking header (command ∷ payload)

-- "L is at least 3 with checking on, at least 1 with it off"
unfoldable pub least_length : Bool → ℕ
least_length checking = 1 + check_length checking

-- "so a frame has 3 + L bytes, at most 258"
abbrev pub longest_frame : ℕ
longest_frame = 258

-- "a frame has 3 + L bytes, at most 258", behind a header of any length: L is one byte
abbrev pub longest_with : List ℕ → ℕ
longest_with header = length header + 256

-- "Data is at most .. 254 without": the most that any frame carries
abbrev pub most_payload : ℕ
most_payload = 254

-- "Data is at most 252 bytes with checking and 254 without"
unfoldable pub most_data : Bool → ℕ
most_data true = 252
most_data false = most_payload

-- "L counts command, data and check bytes": of those L bytes, command and data
unfoldable pub content_of : Bool → List ℕ → List ℕ
content_of checking body = take (length body - check_length checking) body

-- "with checking on, right check bytes": the last two of the L bytes are the check value of the rest, low byte first
unfoldable pub right_check : Bool → List ℕ → Bool
right_check false body = true
right_check true body =
    let n = length body - 2 in
    let value = check_value (take n body) in
    eqb (get_or body n 0) (low_byte value) && eqb (get_or body (n + 1) 0) (high_byte value)

-- "A good frame is a whole one with the header set up, such an L and, with checking on, right check bytes, whatever its command and data."
pub record GoodFrame (checking : Bool) (header frame : List ℕ) : Type 0 where
  -- the L bytes
  pub body : List ℕ
  pub whole : frame ≡ header ++ (length body ∷ body)
  pub least : least_length checking ≤ length body
  -- L is one byte
  pub most : length body ≤ 255
  pub right : right_check checking body ≡ true
