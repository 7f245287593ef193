-- Laws of `padded`: bytes at the front of an array, zeros behind them.
use mathlib.Core.Path.{◌≡◌, sym, ap, ◌∙◌}
use mathlib.Core.List.{List, [], ◌∷◌, ◌++◌, append_assoc}
use Prim.Native.Nat.{ℕ, zero, suc, ◌-◌, ◌≤◌, ◌<◌}
use native.Mathlib.Nat.{sub-zero}
use native.Mathlib.Omega.{arith}
use lib.ListN.{length, take, drop, set, replicate, length-append, length-replicate}
use native.Mathlib.Numerals.{add-one}
use lib.Seq.{take_at, drop_at, set_split, drop-drop, take-nil, take-length}
use Rattle.line.specs.State.{padded}

pub drop_take : (k n : ℕ) (l : List ℕ) → drop k (take n l) ≡ take (n - k) (drop k l)
drop_take zero n l = ap (λ (m : ℕ). take m l) (sym (sub-zero n))
drop_take (suc k) n [] = ap (drop (suc k)) (take-nil n) ∙ sym (take-nil (n - suc k))
drop_take (suc k) zero (x ∷ l) = ap (λ (m : ℕ). take m (drop k l)) none
  where
    none : ◌≡◌ {A = ℕ} 0 (0 - suc k)
    none = omega arith
drop_take (suc k) (suc n) (x ∷ l) = drop_take k n l ∙ ap (λ (m : ℕ). take m (drop k l)) less
  where
    less : n - k ≡ suc n - suc k
    less = omega arith

pub length_padded : (size : ℕ) (xs : List ℕ) → length xs ≤ size → length (padded size xs) ≡ size
unfolding padded
length_padded size xs fits = simp (length-append, length-replicate) (omega arith)

pub take_padded : (size n : ℕ) (xs : List ℕ) → length xs ≡ n → take n (padded size xs) ≡ xs
unfolding padded
take_padded size n xs is = take_at xs (replicate (size - length xs) 0) n is

drop_zeros : (k n : ℕ) → drop {A = ℕ} k (replicate n 0) ≡ replicate (n - k) 0
drop_zeros zero n = ap (λ (m : ℕ). replicate m 0) (sym (sub-zero n))
drop_zeros (suc k) zero = ap (λ (m : ℕ). replicate m 0) z
  where
    z : ◌≡◌ {A = ℕ} 0 (0 - suc k)
    z = omega arith
drop_zeros (suc k) (suc n) = drop_zeros k n ∙ ap (λ (m : ℕ). replicate m 0) z
  where
    z : n - k ≡ suc n - suc k
    z = omega arith

pub drop_padded : (size n : ℕ) (xs : List ℕ) → length xs ≡ n → drop n (padded size xs) ≡ replicate (size - n) 0
unfolding padded
drop_padded size n xs is = drop_at xs (replicate (size - length xs) 0) n is ∙ ap (λ (m : ℕ). replicate (size - m) 0) is

padded_joined : (size : ℕ) (xs ys : List ℕ) → padded size (xs ++ ys) ≡ xs ++ (ys ++ replicate (size - length (xs ++ ys)) 0)
unfolding padded
padded_joined size xs ys = append_assoc xs ys (replicate (size - length (xs ++ ys)) 0)

add_one_drop : (size n : ℕ) (xs : List ℕ) → drop (suc n) (padded size xs) ≡ drop 1 (drop n (padded size xs))
add_one_drop size n xs = sym (drop-drop 1 n (padded size xs) ∙ ap (λ (k : ℕ). drop k (padded size xs)) (add-one n))

-- bytes copied into the front of an empty array
pub copied_empty : (size : ℕ) (xs out to : List ℕ) → out ≡ padded size [] → to ≡ xs ++ drop (length xs) out → to ≡ padded size xs
unfolding padded
copied_empty size xs out to empty is =
    let z : size - 0 - length xs ≡ size - length xs = omega arith in
    is ∙ rw (empty, drop_zeros (length xs) (size - 0), z)

-- bytes laid over the front of an empty array
pub laid_empty : (size : ℕ) (xs out to : List ℕ) → out ≡ padded size [] → to ≡ take (length xs) xs ++ drop (length xs) out → to ≡ padded size xs
laid_empty size xs out to empty is = copied_empty size xs out to empty (is ∙ rw (take-length xs))

-- bytes laid behind those that an array holds
pub laid_behind : (size n : ℕ) (xs ys : List ℕ) → length xs ≡ n
    → take n (padded size xs) ++ (ys ++ drop (length ys) (drop n (padded size xs))) ≡ padded size (xs ++ ys)
laid_behind size n xs ys is =
    let z : size - n - length ys ≡ size - length (xs ++ ys) = simp length-append (omega arith) in
    rw (take_padded size n xs is, drop_padded size n xs is, drop_zeros (length ys) (size - n), z) (sym (padded_joined size xs ys))

-- one byte stored right behind those that an array holds
pub set_behind : (size n b : ℕ) (xs : List ℕ) → length xs ≡ n → n < size → set (padded size xs) n b ≡ padded size (xs ++ (b ∷ []))
set_behind size n b xs is room =
    let inside : n < length (padded size xs) = omega (arith, length_padded size xs (omega arith)) in
    set_split (padded size xs) n b inside
    ∙ rw (add_one_drop size n xs) (laid_behind size n xs (b ∷ []) is)

-- zeros hold nothing
pub zeros_empty : (size : ℕ) (out : List ℕ) → out ≡ replicate size 0 → out ≡ padded size []
unfolding padded
zeros_empty size out is = is ∙ ap (λ (n : ℕ). replicate n 0) (sym (sub-zero size))
