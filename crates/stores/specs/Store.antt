-- 01, "Setup and touch table", the modes and the numbers that words and bytes hold. One definition for key, step and slider.
use Rattle.std.specs.Prelude.{ℕ, ◌-◌, ◌%◌, Bool, ◌||◌, cond, ltb, eqb, ℤ, pos, negsuc}
use Rattle.wire.specs.ByteOrder.{high_byte, low_byte, word}

-- "mode 0 whole word, 1 high byte, 2 low byte"; a mode that no good record has counts as 2
unfoldable pub in_mode : {A : Type 0} → (mode : ℕ) → (whole high low : A) → A
in_mode mode whole high low = cond (eqb mode 0) whole (cond (eqb mode 1) high low)

-- "Words are signed": w below 32,768 is w, and else w − 65,536
unfoldable pub signed : ℕ → ℤ
signed w = cond (ltb w 32768) (pos w) (negsuc (65535 - w))

-- "Words are signed": the word that holds a whole number, of which only the last 16 bits count
unfoldable pub word_of : ℤ → ℕ
word_of (pos n) = n % 65536
word_of (negsuc n) = 65535 - n % 65536

-- "Words are signed; bytes are 0 to 255": the number that a mode finds in a word
abbrev pub value_in : ℕ → ℕ → ℤ
value_in mode w = in_mode mode (signed w) (pos (high_byte w)) (pos (low_byte w))

-- "bytes are 0 to 255 and so are their two ends"; "Begin and end are signed, or 0 to 255 in byte modes": any word is a signed number
abbrev pub good_end : ℕ → ℕ → Bool
good_end mode w = eqb mode 0 || ltb w 256

-- "Byte modes store the code's low byte; in all byte modes the other byte stays": the word after `new` is stored over `old`
abbrev pub placed : ℕ → ℕ → ℕ → ℕ
placed mode old new = in_mode mode new (word (low_byte new) (low_byte old)) (word (high_byte old) (low_byte new))

-- Key: "mode 0 whole word, 1 high byte, 2 low byte; 14 code"
abbrev pub key_stores : (mode old code : ℕ) → ℕ
key_stores mode old code = placed mode old code
