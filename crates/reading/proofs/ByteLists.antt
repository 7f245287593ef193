-- Lists whose elements are bytes.
use mathlib.Core.Path.{◌≡◌, refl, sym}
use mathlib.Core.Bool.{Bool, true, false, ◌&&◌}
use mathlib.Core.List.{List, [], ◌∷◌, ◌++◌}
use Prim.Native.Nat.{ℕ, zero, suc, ◌+◌, ◌<◌}
use native.Mathlib.Omega.{arith}
use borrow.Author.Tests.{ltb-true}
use lib.Dec.{ltb}
use lib.ListN.{get_or, take, drop}
use lib.Seq.{get_or-drop}
use Rattle.wire.specs.Bytes.{Bytes}
use Rattle.reading.proofs.Stable.{true_is_not_false}

pub bytes_nil : Bytes []
bytes_nil i = omega arith

pub bytes_cons : (x : ℕ) (xs : List ℕ) → x < 256 → Bytes xs → (i : ℕ) → get_or (x ∷ xs) i 0 < 256
bytes_cons x xs is are zero = is
bytes_cons x xs is are (suc i) = are i

pub bytes_append : (xs ys : List ℕ) → Bytes xs → Bytes ys → (i : ℕ) → get_or (xs ++ ys) i 0 < 256
bytes_append [] ys left right i = right i
bytes_append (x ∷ xs) ys left right zero = left 0
bytes_append (x ∷ xs) ys left right (suc i) = bytes_append xs ys (λ j. left (suc j)) right i

pub bytes_drop : (n : ℕ) (xs : List ℕ) → Bytes xs → Bytes (drop n xs)
bytes_drop n xs are i = rw (get_or-drop n xs i 0) (are (n + i))

pub bytes_take : (n : ℕ) (xs : List ℕ) → Bytes xs → Bytes (take n xs)
bytes_take zero xs are = bytes_nil
bytes_take (suc n) [] are = bytes_nil
bytes_take (suc n) (x ∷ xs) are = bytes_cons x (take n xs) (are 0) (bytes_take n xs (λ i. are (suc i)))

-- as a test that computes
unfoldable pub all_bytes : List ℕ → Bool
all_bytes [] = true
all_bytes (x ∷ xs) = ltb x 256 && all_bytes xs

pub tested_bytes : (xs : List ℕ) → all_bytes xs ≡ true → Bytes xs
unfolding all_bytes
tested_bytes [] tested = bytes_nil
tested_bytes (x ∷ xs) tested = go (ltb x 256) refl (tested_bytes xs) tested
  where
    go : (b : Bool) → ltb x 256 ≡ b → (all_bytes xs ≡ true → Bytes xs) → (b && all_bytes xs) ≡ true → Bytes (x ∷ xs)
    go true is rest tested = bytes_cons x xs (ltb-true x 256 is) (rest tested)
    go false is rest tested = true_is_not_false (sym tested)
