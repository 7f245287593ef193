-- Bytes that decide nothing: below the length at which the frame at the front is whole, whatever comes, the front waits.
use mathlib.Core.Path.{◌≡◌, refl}
use mathlib.Core.Bool.{Bool, true, false, cond}
use mathlib.Core.List.{List, [], ◌∷◌, ◌++◌, append_assoc}
use Prim.Native.Nat.{ℕ, ◌+◌, ◌<◌}
use native.Mathlib.Omega.{arith}
use borrow.Author.Tests.{ltb-true, lt-ltb}
use lib.Dec.{eqb, ltb}
use lib.ListN.{length, get_or, take}
use Rattle.frame.specs.Frame.{least_length}
use Rattle.reading.specs.Place.{Rules, pass, wait, cut_short, decided_by_check, after_header, behind, look}
use Rattle.reading.specs.Moves.{is_pass}
use Rattle.line.specs.Inner.{decided_at}

-- while fewer than w bytes are held, with these in front, the front waits
unfoldable pub Blind : Rules → List ℕ → ℕ → Type 0
Blind rules xs w = (ys : List ℕ) → length (xs ++ ys) < w → look rules false (xs ++ ys) ≡ wait

pub blind_nothing : (rules : Rules) (xs : List ℕ) → Blind rules xs 0
unfolding Blind
blind_nothing rules xs ys below = absurd (omega arith)

pub blind_more : (rules : Rules) (xs ys : List ℕ) (w : ℕ) → Blind rules xs w → Blind rules (xs ++ ys) w
unfolding Blind
blind_more rules xs ys w blind zs below = rw append_assoc (blind (ys ++ zs) (rw append_assoc at below))

pub blind_here : (rules : Rules) (xs ys : List ℕ) (w : ℕ) → Blind rules xs w → length (xs ++ ys) < w → look rules false (xs ++ ys) ≡ wait
unfolding Blind
blind_here rules xs ys w blind below = blind ys below

-- behind the header the length byte has come, and is not too small
blind_length : (checking : Bool) (l : ℕ) (xs ys : List ℕ) → is_pass (after_header checking false (l ∷ xs)) ≡ false → length (xs ++ ys) < l
    → after_header checking false (l ∷ (xs ++ ys)) ≡ wait
unfolding after_header cut_short is_pass
blind_length checking l xs ys stands short = go (ltb l (least_length checking)) stands
  where
    go : (b : Bool) → is_pass (cond b pass (cond (ltb (length xs) l) wait (decided_by_check checking (take l xs)))) ≡ false
        → cond b pass (cond (ltb (length (xs ++ ys)) l) wait (decided_by_check checking (take l (xs ++ ys)))) ≡ wait
    go true is = cc
    go false is = rw (lt-ltb (length (xs ++ ys)) l short)

blind_behind : (checking : Bool) (header xs ys : List ℕ) → is_pass (behind checking false header xs) ≡ false → length header < length xs
    → length (xs ++ ys) < length header + 1 + get_or xs (length header) 0 → behind checking false header (xs ++ ys) ≡ wait
unfolding behind is_pass
blind_behind checking [] [] ys stands long short = absurd (omega arith)
blind_behind checking [] (x ∷ xs) ys stands long short = blind_length checking x xs ys stands (omega arith)
blind_behind checking (h ∷ header) [] ys stands long short = absurd (omega arith)
blind_behind checking (h ∷ header) (x ∷ xs) ys stands long short =
    go (eqb x h) (λ stands. blind_behind checking header xs ys stands (omega arith) (omega arith)) stands
  where
    go : (b : Bool) → (is_pass (behind checking false header xs) ≡ false → behind checking false header (xs ++ ys) ≡ wait)
        → is_pass (cond b (behind checking false header xs) pass) ≡ false → cond b (behind checking false header (xs ++ ys)) pass ≡ wait
    go true ih is = ih is
    go false ih is = cc

-- bytes whose front is not passed over decide nothing before they are as long as its frame
pub blind_whole : (rules : Rules) (xs : List ℕ) → is_pass (look rules false xs) ≡ false → Blind rules xs (decided_at rules.header xs)
unfolding Blind decided_at look
blind_whole rules xs stands ys below = go (ltb (length rules.header) (length xs)) refl below
  where
    go : (b : Bool) → ltb (length rules.header) (length xs) ≡ b
        → length (xs ++ ys) < cond b (length rules.header + 1 + get_or xs (length rules.header) 0) 0
        → behind rules.checking false rules.header (xs ++ ys) ≡ wait
    go true is below = blind_behind rules.checking rules.header xs ys stands (ltb-true (length rules.header) (length xs) is) below
    go false is below = absurd (omega arith)
