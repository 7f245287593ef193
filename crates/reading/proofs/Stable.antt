-- A place that is decided stays decided: bytes that follow, or a mark, change only "wait".
use mathlib.Core.Path.{◌≡◌, refl, sym, ap, ◌∙◌}
use mathlib.Core.Bool.{Bool, true, false, cond}
use mathlib.Core.List.{List, [], ◌∷◌, ◌++◌, append-nil}
use Prim.Native.Nat.{ℕ, ◌≤◌}
use native.Mathlib.Omega.{arith}
use borrow.Author.Tests.{ltb-false, le-ltb}
use lib.Dec.{eqb, ltb}
use lib.ListN.{length, take, length-append}
use lib.Seq.{take-append-le}
use Rattle.frame.specs.Frame.{least_length}
use Rattle.reading.specs.Place.{Rules, pass, wait, cut_short, decided_by_check, after_header, behind, look, is_wait}
pub use Rattle.wire.proofs.Truths.{never}

-- what a false equation of two answers proves
pub true_is_not_false : {A : Type 0} → true ≡ false → A
true_is_not_false e = cc

after_header_stable : (checking closed : Bool) (xs ys : List ℕ) → is_wait (after_header checking false xs) ≡ false
    → after_header checking closed (xs ++ ys) ≡ after_header checking false xs
unfolding after_header is_wait cut_short
after_header_stable checking closed [] ys decided = true_is_not_false decided
after_header_stable checking closed (l ∷ xs) ys decided = below (ltb l (least_length checking)) decided
  where
    whole : (b : Bool) → ltb (length xs) l ≡ b → is_wait (cond b wait (decided_by_check checking (take l xs))) ≡ false
        → cond (ltb (length (xs ++ ys)) l) (cut_short closed) (decided_by_check checking (take l (xs ++ ys))) ≡ cond b wait (decided_by_check checking (take l xs))
    whole true is decided = true_is_not_false decided
    whole false is decided =
        let enough : l ≤ length xs = ltb-false (length xs) l is in
        let still : l ≤ length (xs ++ ys) = simp length-append (omega arith) in
        rw (le-ltb (length (xs ++ ys)) l still, take-append-le l xs ys enough)

    below : (b : Bool) → is_wait (cond b pass (cond (ltb (length xs) l) wait (decided_by_check checking (take l xs)))) ≡ false
        → cond b pass (cond (ltb (length (xs ++ ys)) l) (cut_short closed) (decided_by_check checking (take l (xs ++ ys))))
        ≡ cond b pass (cond (ltb (length xs) l) wait (decided_by_check checking (take l xs)))
    below true decided = refl
    below false decided = whole (ltb (length xs) l) refl decided

behind_stable : (checking closed : Bool) (header xs ys : List ℕ) → is_wait (behind checking false header xs) ≡ false
    → behind checking closed header (xs ++ ys) ≡ behind checking false header xs
unfolding behind is_wait cut_short
behind_stable checking closed [] xs ys decided = after_header_stable checking closed xs ys decided
behind_stable checking closed (h ∷ header) [] ys decided = true_is_not_false decided
behind_stable checking closed (h ∷ header) (x ∷ xs) ys decided = here (eqb x h) (behind_stable checking closed header xs ys) decided
  where
    here : (b : Bool) → (is_wait (behind checking false header xs) ≡ false → behind checking closed header (xs ++ ys) ≡ behind checking false header xs)
        → is_wait (cond b (behind checking false header xs) pass) ≡ false
        → cond b (behind checking closed header (xs ++ ys)) pass ≡ cond b (behind checking false header xs) pass
    here true rest decided = rest decided
    here false rest decided = refl

-- 01, "Reading the line": of the four bullets only "wait" speaks of where the stretch ends
pub stable : (rules : Rules) (closed : Bool) (xs ys : List ℕ) → is_wait (look rules false xs) ≡ false
    → look rules closed (xs ++ ys) ≡ look rules false xs
unfolding look
stable rules closed xs ys decided = behind_stable rules.checking closed rules.header xs ys decided

-- and so when a mark closes the stretch where it ends
pub stable_closed : (rules : Rules) (xs : List ℕ) → is_wait (look rules false xs) ≡ false → look rules true xs ≡ look rules false xs
stable_closed rules xs decided = ap (look rules true) (sym (append-nil xs)) ∙ stable rules true xs [] decided
