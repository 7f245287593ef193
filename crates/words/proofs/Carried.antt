-- Laws of `words_of` and `bytes_of`: what bytes carry, and what carries words.
use mathlib.Core.Path.{◌≡◌, refl, ap, ap₂, ◌∙◌}
use mathlib.Core.List.{List, [], ◌∷◌, ◌++◌}
use Prim.Native.Nat.{ℕ, zero, suc, ◌+◌, ◌*◌, ◌/◌, ◌%◌, ◌<◌}
use native.Mathlib.Omega.{arith}
use lib.ListN.{length, get_or}
use Rattle.wire.specs.Bytes.{Bytes}
use Rattle.wire.specs.ByteOrder.{word, word_at, high_byte, low_byte}
use Rattle.wire.proofs.Below.{Below, word_some}
use Rattle.words.specs.Words.{words_of, bytes_of}

pub length_words_of : (bytes : List ℕ) → length (words_of bytes) ≡ length bytes / 2
unfolding words_of
length_words_of [] = refl
length_words_of (high ∷ []) = refl
length_words_of (high ∷ low ∷ bytes) =
    let half : suc (length bytes / 2) ≡ suc (suc (length bytes)) / 2 = omega arith in
    ap suc (length_words_of bytes) ∙ half

pub words_of_at : (bytes : List ℕ) (i : ℕ) → i < length (words_of bytes) → get_or (words_of bytes) i 0 ≡ word_at bytes (i * 2)
unfolding words_of
words_of_at [] i inside = absurd (omega arith)
words_of_at (high ∷ []) i inside = absurd (omega arith)
words_of_at (high ∷ low ∷ bytes) zero inside = refl
words_of_at (high ∷ low ∷ bytes) (suc i) inside =
    let place : suc i * 2 ≡ suc (suc (i * 2)) = omega arith in
    let next : suc (suc (i * 2)) + 1 ≡ suc (suc (i * 2 + 1)) = omega arith in
    rw (words_of_at bytes i (omega arith), place, next)

-- two bytes carry a 16-bit number
pub words_of_16_bit : (bytes : List ℕ) → Bytes bytes → Below 65536 (words_of bytes)
unfolding words_of
words_of_16_bit [] are i = word_some
words_of_16_bit (high ∷ []) are i = word_some
words_of_16_bit (high ∷ low ∷ bytes) are zero = omega (arith, are 0, are 1)
words_of_16_bit (high ∷ low ∷ bytes) are (suc i) = words_of_16_bit bytes (λ j. are (suc (suc j))) i

pub length_bytes_of : (words : List ℕ) → length (bytes_of words) ≡ length words + length words
unfolding bytes_of
length_bytes_of [] = refl
length_bytes_of (w ∷ words) =
    let two : suc (suc (length words + length words)) ≡ suc (length words) + suc (length words) = omega arith in
    ap (λ (n : ℕ). suc (suc n)) (length_bytes_of words) ∙ two

pub bytes_of_append : (a b : List ℕ) → bytes_of (a ++ b) ≡ bytes_of a ++ bytes_of b
unfolding bytes_of
bytes_of_append [] b = refl
bytes_of_append (w ∷ a) b = ap (λ (rest : List ℕ). high_byte w ∷ low_byte w ∷ rest) (bytes_of_append a b)

-- what carries words carries these words
pub words_of_bytes_of : (words : List ℕ) → words_of (bytes_of words) ≡ words
unfolding words_of bytes_of
words_of_bytes_of [] = refl
words_of_bytes_of (w ∷ words) =
    let whole : word (high_byte w) (low_byte w) ≡ w = omega arith in
    ap₂ (λ (v : ℕ) (rest : List ℕ). v ∷ rest) whole (words_of_bytes_of words)

-- and an even number of bytes is carried back as it came
pub bytes_of_words_of : (bytes : List ℕ) → Bytes bytes → length bytes % 2 ≡ 0 → bytes_of (words_of bytes) ≡ bytes
unfolding words_of bytes_of
bytes_of_words_of [] are even = refl
bytes_of_words_of (high ∷ []) are even = absurd (omega arith)
bytes_of_words_of (high ∷ low ∷ bytes) are even =
    let small : low < 256 = are 1 in
    let first : high_byte (word high low) ≡ high = omega arith in
    let second : low_byte (word high low) ≡ low = omega arith in
    let rest : bytes_of (words_of bytes) ≡ bytes = bytes_of_words_of bytes (λ i. are (suc (suc i))) (omega arith) in
    rw (first, second, rest)
