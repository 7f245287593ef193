-- Lists of numbers below a bound: bytes, and 16-bit numbers.
use mathlib.Core.List.{List, [], ◌∷◌, ◌++◌}
use Prim.Native.Nat.{ℕ, zero, suc, ◌+◌, ◌<◌}
use native.Mathlib.Omega.{arith}
use lib.ListN.{length, get_or, set, take, drop, replicate, take-append-drop}
use lib.Seq.{get_or-drop}
use Rattle.wire.specs.Room.{laid_at}

-- numbers below a bound: bytes are below 256, words below 65,536
abbrev pub Below : ℕ → List ℕ → Type 0
Below b xs = (i : ℕ) → get_or xs i 0 < b

module _ (b : ℕ) (some : 0 < b) where
  pub below_front : (xs ys : List ℕ) → Below b (xs ++ ys) → Below b xs
  below_front [] ys are i = some
  below_front (x ∷ xs) ys are zero = are 0
  below_front (x ∷ xs) ys are (suc i) = below_front xs ys (λ j. are (suc j)) i

  pub below_take : (n : ℕ) (xs : List ℕ) → Below b xs → Below b (take n xs)
  below_take n xs are = below_front (take n xs) (drop n xs) (λ i. rw (take-append-drop n xs) (are i))

  pub below_drop : (n : ℕ) (xs : List ℕ) → Below b xs → Below b (drop n xs)
  below_drop n xs are i = rw (get_or-drop n xs i 0) (are (n + i))

  pub below_behind : (xs ys : List ℕ) → Below b (xs ++ ys) → Below b ys
  below_behind [] ys are = are
  below_behind (x ∷ xs) ys are = below_behind xs ys (λ i. are (suc i))

  pub below_append : (xs ys : List ℕ) → Below b xs → Below b ys → Below b (xs ++ ys)
  below_append [] ys left right i = right i
  below_append (x ∷ xs) ys left right zero = left 0
  below_append (x ∷ xs) ys left right (suc i) = below_append xs ys (λ j. left (suc j)) right i

  pub below_set : (xs : List ℕ) (k v : ℕ) → Below b xs → v < b → Below b (set xs k v)
  below_set [] k v are is i = some
  below_set (x ∷ xs) zero v are is zero = is
  below_set (x ∷ xs) zero v are is (suc i) = are (suc i)
  below_set (x ∷ xs) (suc k) v are is zero = are 0
  below_set (x ∷ xs) (suc k) v are is (suc i) = below_set xs k v (λ j. are (suc j)) is i

  pub below_laid : (at : ℕ) (run old : List ℕ) → Below b run → Below b old → Below b (laid_at at run old)
  unfolding laid_at
  below_laid at run old new are =
      below_append (take at old) (run ++ drop (at + length run) old) (below_take at old are)
      (below_append run (drop (at + length run) old) new (below_drop (at + length run) old are))

  pub below_zeros : (n : ℕ) → Below b (replicate n 0)
  below_zeros zero i = some
  below_zeros (suc n) zero = some
  below_zeros (suc n) (suc i) = below_zeros n i

pub byte_some : 0 < 256
byte_some = omega arith

pub word_some : 0 < 65536
word_some = omega arith
