-- 01, "The trace program": the lines that it prints, as bytes.
use Rattle.std.specs.Prelude.{ℕ, ◌+◌, ◌/◌, ◌%◌, cond, List, [], ◌∷◌, ◌++◌, ltb}
use Rattle.wire.specs.ByteOrder.{high_byte, low_byte}
use Rattle.text.specs.declared.Line.{Line}
use Rattle.text.specs.declared.Line.TheVariants.{Frame, BadCheck, Touch, End, Failed, WrongRecord}

-- "frame bytes spaced": what stands between the parts of a line
abbrev pub blank : ℕ
blank = 32

-- "Lines end in a line feed"
abbrev pub line_feed : ℕ
line_feed = 10

-- "hex is capital": the digit of a number below 16, 0 to 9 and A to F
unfoldable pub hex_digit : ℕ → ℕ
hex_digit n = cond (ltb n 10) (48 + n) (55 + n)

-- "hex is capital": a byte as two digits
unfoldable pub hex_byte : ℕ → List ℕ
hex_byte b = hex_digit (b / 16) ∷ hex_digit (b % 16) ∷ []

-- "numbers are decimal": the digit of a number below 10
abbrev pub decimal_digit : ℕ → ℕ
decimal_digit n = 48 + n

-- "numbers are decimal": one, two or three digits, the first of several not 0; the numbers printed are below 256
unfoldable pub decimal : ℕ → List ℕ
decimal n =
    cond (ltb n 10) (decimal_digit n ∷ [])
    (cond (ltb n 100) (decimal_digit (n / 10) ∷ decimal_digit (n % 10) ∷ [])
    (decimal_digit (n / 100) ∷ decimal_digit (n / 10 % 10) ∷ decimal_digit (n % 10) ∷ []))

-- "frame bytes spaced": a blank before each byte
unfoldable pub spaced : List ℕ → List ℕ
spaced [] = []
spaced (b ∷ bytes) = blank ∷ (hex_byte b ++ spaced bytes)

-- "Lines end in a line feed": a letter, what stands behind it, the line feed
unfoldable pub lined : ℕ → List ℕ → List ℕ
lined letter rest = letter ∷ (rest ++ (line_feed ∷ []))

-- "Lines: `F cc r` ..; `B cc` ..; `T r` ..; .. `E pppp` ..; `X n` ..": each of them but O
unfoldable pub line_text : Line → List ℕ
-- "`F cc r` accepted command and number"
line_text (Frame command number) = lined 70 (blank ∷ (hex_byte command ++ (blank ∷ decimal number)))
-- "`B cc` bad check"
line_text (BadCheck command) = lined 66 (blank ∷ hex_byte command)
-- "`T r` contact or lift"
line_text (Touch number) = lined 84 (blank ∷ decimal number)
-- "at the end `E pppp` the page"
line_text (End page) = lined 69 (blank ∷ (hex_byte (high_byte page) ++ hex_byte (low_byte page)))
-- "`X n` instead, where start or trace fails"
line_text (Failed number) = lined 88 (blank ∷ decimal number)
-- "with the record's number from 0 after 13"
line_text (WrongRecord record-number) = lined 88 (blank ∷ (decimal 13 ++ (blank ∷ decimal record-number)))

-- "`O` and one frame written"; where none was written there is no line
unfoldable pub written_text : List ℕ → List ℕ
written_text [] = []
written_text (b ∷ bytes) = lined 79 (spaced (b ∷ bytes))
