-- 01: "There are 256 register bytes and 28,672 variable words, 0x0000 to 0x6FFF, lent by the caller as 16-bit numbers."
use Rattle.std.specs.Prelude.{ℕ}

-- "There are 256 register bytes"
abbrev pub register_count : ℕ
register_count = 256

-- "28,672 variable words, 0x0000 to 0x6FFF": every word's address lies below their number, "the word below 0x7000"
abbrev pub word_count : ℕ
word_count = 28672
