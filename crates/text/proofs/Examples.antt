-- The lines of 01's printed output, and one of each other kind, by computation from the definitions.
use mathlib.Core.Path.{◌≡◌, refl}
use mathlib.Core.List.{[], ◌∷◌}
use Rattle.text.specs.declared.Line.TheVariants.{Frame, BadCheck, Touch, End, Failed, WrongRecord}
use Rattle.text.specs.Text.{hex_digit, hex_byte, decimal, spaced, lined, line_text, written_text}

-- F 81 0
pub command_line : line_text (Frame 0x81 0) ≡ 0x46 ∷ 0x20 ∷ 0x38 ∷ 0x31 ∷ 0x20 ∷ 0x30 ∷ 0x0A ∷ []
unfolding line_text lined hex_byte hex_digit decimal
command_line = refl

-- O 5A A5 06 81 00 01 10 28 44
pub reply_line : written_text (0x5A ∷ 0xA5 ∷ 0x06 ∷ 0x81 ∷ 0x00 ∷ 0x01 ∷ 0x10 ∷ 0x28 ∷ 0x44 ∷ [])
    ≡ 0x4F ∷ 0x20 ∷ 0x35 ∷ 0x41 ∷ 0x20 ∷ 0x41 ∷ 0x35 ∷ 0x20 ∷ 0x30 ∷ 0x36 ∷ 0x20 ∷ 0x38 ∷ 0x31 ∷ 0x20 ∷ 0x30 ∷ 0x30 ∷ 0x20 ∷ 0x30 ∷ 0x31
    ∷ 0x20 ∷ 0x31 ∷ 0x30 ∷ 0x20 ∷ 0x32 ∷ 0x38 ∷ 0x20 ∷ 0x34 ∷ 0x34 ∷ 0x0A ∷ []
unfolding written_text lined spaced hex_byte hex_digit
reply_line = refl

-- T 0
pub touch_line : line_text (Touch 0) ≡ 0x54 ∷ 0x20 ∷ 0x30 ∷ 0x0A ∷ []
unfolding line_text lined decimal
touch_line = refl

-- E 0000
pub page_line : line_text (End 0x0000) ≡ 0x45 ∷ 0x20 ∷ 0x30 ∷ 0x30 ∷ 0x30 ∷ 0x30 ∷ 0x0A ∷ []
unfolding line_text lined hex_byte hex_digit
page_line = refl

-- E A0FC
pub letters_line : line_text (End 0xA0FC) ≡ 0x45 ∷ 0x20 ∷ 0x41 ∷ 0x30 ∷ 0x46 ∷ 0x43 ∷ 0x0A ∷ []
unfolding line_text lined hex_byte hex_digit
letters_line = refl

-- B 82
pub bad_check_line : line_text (BadCheck 0x82) ≡ 0x42 ∷ 0x20 ∷ 0x38 ∷ 0x32 ∷ 0x0A ∷ []
unfolding line_text lined hex_byte hex_digit
bad_check_line = refl

-- X 15
pub trace_wrong_line : line_text (Failed 15) ≡ 0x58 ∷ 0x20 ∷ 0x31 ∷ 0x35 ∷ 0x0A ∷ []
unfolding line_text lined decimal
trace_wrong_line = refl

-- X 13 5
pub record_line : line_text (WrongRecord 5) ≡ 0x58 ∷ 0x20 ∷ 0x31 ∷ 0x33 ∷ 0x20 ∷ 0x35 ∷ 0x0A ∷ []
unfolding line_text lined decimal
record_line = refl

-- X 13 255, the longest line but for the frames written
pub longest_line : line_text (WrongRecord 255) ≡ 0x58 ∷ 0x20 ∷ 0x31 ∷ 0x33 ∷ 0x20 ∷ 0x32 ∷ 0x35 ∷ 0x35 ∷ 0x0A ∷ []
unfolding line_text lined decimal
longest_line = refl
