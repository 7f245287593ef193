-- Where reading waits: never in a closed stretch, and with few bytes only.
use mathlib.Core.Path.{◌≡◌, refl, sym, ◌∙◌}
use mathlib.Core.Bool.{Bool, true, false, cond}
use mathlib.Core.List.{List, [], ◌∷◌}
use Prim.Native.Nat.{ℕ, suc, ◌≤◌, ◌<◌}
use native.Mathlib.Omega.{arith}
use borrow.Author.Tests.{ltb-true}
use lib.Dec.{eqb, ltb}
use lib.ListN.{length, take}
use Rattle.wire.specs.Bytes.{Bytes}
use Rattle.frame.specs.Frame.{least_length, right_check}
use Rattle.reading.specs.Place.{Rules, pass, wait, bad, accepted, cut_short, decided_by_check, after_header, behind, look, is_wait}
use Rattle.reading.specs.Demand3.{one_less_than_longest}
use Rattle.reading.proofs.Stable.{true_is_not_false}

-- where there is no byte
pub look_nil : (rules : Rules) (closed : Bool) → look rules closed [] ≡ cut_short closed
unfolding look
look_nil rules closed = nothing rules.header
  where
    nothing : (header : List ℕ) → behind rules.checking closed header [] ≡ cut_short closed
    nothing [] = unfold behind after_header in refl
    nothing (h ∷ header) = unfold behind in refl

check_decides : (checking : Bool) (body : List ℕ) → is_wait (decided_by_check checking body) ≡ false
unfolding decided_by_check is_wait
check_decides checking body = either (right_check checking body)
  where
    either : (b : Bool) → is_wait (cond b (accepted body) (bad body)) ≡ false
    either true = refl
    either false = refl

after_header_closed : (checking : Bool) (xs : List ℕ) → is_wait (after_header checking true xs) ≡ false
unfolding after_header is_wait cut_short
after_header_closed checking [] = refl
after_header_closed checking (l ∷ xs) = go (ltb l (least_length checking)) (ltb (length xs) l)
  where
    go : (a b : Bool) → is_wait (cond a pass (cond b pass (decided_by_check checking (take l xs)))) ≡ false
    go true b = refl
    go false true = refl
    go false false = check_decides checking (take l xs)

behind_closed : (checking : Bool) (header xs : List ℕ) → is_wait (behind checking true header xs) ≡ false
unfolding behind is_wait cut_short
behind_closed checking [] xs = after_header_closed checking xs
behind_closed checking (h ∷ header) [] = refl
behind_closed checking (h ∷ header) (x ∷ xs) = go (eqb x h) (behind_closed checking header xs)
  where
    go : (b : Bool) → is_wait (behind checking true header xs) ≡ false → is_wait (cond b (behind checking true header xs) pass) ≡ false
    go true rest = rest
    go false rest = refl

-- "in an open stretch wait; in a closed one go to p+1"
pub closed_goes_on : (rules : Rules) (xs : List ℕ) → is_wait (look rules true xs) ≡ false
unfolding look
closed_goes_on rules xs = behind_closed rules.checking rules.header xs

after_header_short : (checking : Bool) (xs : List ℕ) → Bytes xs → is_wait (after_header checking false xs) ≡ true → length xs ≤ 255
unfolding after_header is_wait cut_short
after_header_short checking [] are waits = omega arith
after_header_short checking (l ∷ xs) are waits = go (ltb l (least_length checking)) (ltb (length xs) l) refl waits
  where
    go : (a b : Bool) → ltb (length xs) l ≡ b → is_wait (cond a pass (cond b wait (decided_by_check checking (take l xs)))) ≡ true → suc (length xs) ≤ 255
    go true b is waits = true_is_not_false (sym waits)
    go false true is waits =
        let few : length xs < l = ltb-true (length xs) l is in
        let byte : l < 256 = are 0 in
        omega arith
    go false false is waits = true_is_not_false (sym waits ∙ check_decides checking (take l xs))

behind_short : (checking : Bool) (header xs : List ℕ) → Bytes xs → is_wait (behind checking false header xs) ≡ true → length xs ≤ one_less_than_longest header
unfolding behind is_wait cut_short
behind_short checking [] xs are waits = let h = after_header_short checking xs are waits in omega arith
behind_short checking (h ∷ header) [] are waits = omega arith
behind_short checking (h ∷ header) (x ∷ xs) are waits = go (eqb x h) (behind_short checking header xs (λ i. are (suc i))) waits
  where
    go : (b : Bool) → (is_wait (behind checking false header xs) ≡ true → length xs ≤ one_less_than_longest header)
        → is_wait (cond b (behind checking false header xs) pass) ≡ true → suc (length xs) ≤ one_less_than_longest (h ∷ header)
    go true rest waits = let h : length xs ≤ one_less_than_longest header = rest waits in omega arith
    go false rest waits = true_is_not_false (sym waits)

-- "a frame has 3 + L bytes, at most 258": what waits is shorter than the longest frame
pub waits_short : (rules : Rules) (xs : List ℕ) → Bytes xs → is_wait (look rules false xs) ≡ true → length xs ≤ one_less_than_longest rules.header
unfolding look
waits_short rules xs are waits = behind_short rules.checking rules.header xs are waits

-- so a place with as many bytes behind it as the longest frame has is decided, whether the stretch is closed or open
pub long_goes_on : (rules : Rules) (closed : Bool) (xs : List ℕ) → Bytes xs → one_less_than_longest rules.header < length xs
    → is_wait (look rules closed xs) ≡ false
long_goes_on rules true xs are long = closed_goes_on rules xs
long_goes_on rules false xs are long = go (is_wait (look rules false xs)) refl
  where
    go : (b : Bool) → is_wait (look rules false xs) ≡ b → b ≡ false
    go true waits = let short : length xs ≤ one_less_than_longest rules.header = waits_short rules xs are waits in absurd (omega arith)
    go false waits = refl
