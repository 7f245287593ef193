-- How long the printed lines are.
use mathlib.Core.Path.{◌≡◌, refl, ap, ◌∙◌}
use mathlib.Core.Bool.{Bool, true, false, cond}
use mathlib.Core.List.{List, [], ◌∷◌}
use Prim.Native.Nat.{ℕ, suc, ◌+◌, ◌*◌, ◌/◌, ◌%◌, ◌≤◌, ◌<◌}
use native.Mathlib.Omega.{arith}
use lib.Dec.{ltb}
use lib.ListN.{length, length-append}
use Rattle.text.specs.declared.Line.{Line}
use Rattle.text.specs.declared.Line.TheVariants.{Frame, BadCheck, Touch, End, Failed, WrongRecord}
use Rattle.text.specs.Text.{hex_byte, decimal_digit, decimal, spaced, lined, line_text, written_text}

pub length_decimal_le : (n : ℕ) → length (decimal n) ≤ 3
unfolding decimal
length_decimal_le n = either (ltb n 10) (ltb n 100) where
  either : (a b : Bool)
      → length (cond a (decimal_digit n ∷ []) (cond b (decimal_digit (n / 10) ∷ decimal_digit (n % 10) ∷ []) (decimal_digit (n / 100) ∷ decimal_digit (n / 10 % 10) ∷ decimal_digit (n % 10) ∷ []))) ≤ 3
  either true b = omega arith
  either false true = omega arith
  either false false = omega arith

pub length_spaced : (bytes : List ℕ) → length (spaced bytes) ≡ 3 * length bytes
unfolding spaced hex_byte
length_spaced [] = refl
length_spaced (b ∷ bytes) =
    let three : suc (suc (suc (3 * length bytes))) ≡ 3 * suc (length bytes) = omega arith in
    ap (λ (n : ℕ). suc (suc (suc n))) (length_spaced bytes) ∙ three

pub length_lined : (letter : ℕ) (rest : List ℕ) → length (lined letter rest) ≡ 2 + length rest
unfolding lined
length_lined letter rest = simp length-append (omega arith)

pub line_text_length_le : (line : Line) → length (line_text line) ≤ 10
unfolding line_text lined hex_byte
line_text_length_le (Frame command number) = simp length-append (omega (arith, length_decimal_le number))
line_text_length_le (BadCheck command) = omega arith
line_text_length_le (Touch number) = simp length-append (omega (arith, length_decimal_le number))
line_text_length_le (End page) = omega arith
line_text_length_le (Failed number) = simp length-append (omega (arith, length_decimal_le number))
line_text_length_le (WrongRecord number) = simp length-append (omega (arith, length_decimal_le number, length_decimal_le 13))

-- a frame that was written
pub written_text_length : (frame : List ℕ) → 0 < length frame → length (written_text frame) ≡ 2 + 3 * length frame
unfolding written_text
written_text_length [] some = absurd (omega arith)
written_text_length (b ∷ bytes) some = length_lined 79 (spaced (b ∷ bytes)) ∙ ap (λ (n : ℕ). 2 + n) (length_spaced (b ∷ bytes))

pub written_text_length_le : (frame : List ℕ) → length (written_text frame) ≤ 2 + 3 * length frame
unfolding written_text
written_text_length_le [] = omega arith
written_text_length_le (b ∷ bytes) = omega (arith, length_lined 79 (spaced (b ∷ bytes)), length_spaced (b ∷ bytes))
