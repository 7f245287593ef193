-- 01, "Frame": how a number of two bytes stands in a list of bytes.
use Rattle.std.specs.Prelude.{ℕ, ◌+◌, ◌*◌, ◌/◌, ◌%◌, List, [], ◌∷◌, get_or}

-- of a number of two bytes, the byte that counts its 256s
abbrev pub high_byte : ℕ → ℕ
high_byte w = w / 256

-- and the byte of what is left
abbrev pub low_byte : ℕ → ℕ
low_byte w = w % 256

-- "Multi-byte data goes high byte first."
abbrev pub high_first : ℕ → List ℕ
high_first w = high_byte w ∷ low_byte w ∷ []

-- "The check value .. is sent low byte first."
abbrev pub low_first : ℕ → List ℕ
low_first w = low_byte w ∷ high_byte w ∷ []

-- the number with this high and this low byte
abbrev pub word : ℕ → ℕ → ℕ
word high low = high * 256 + low

-- the byte at a place, 0 past the end
abbrev pub byte_at : List ℕ → ℕ → ℕ
byte_at bytes at = get_or bytes at 0

-- "Multi-byte data goes high byte first.": the number that stands so at a place
abbrev pub word_at : List ℕ → ℕ → ℕ
word_at bytes at = word (byte_at bytes at) (byte_at bytes (at + 1))
