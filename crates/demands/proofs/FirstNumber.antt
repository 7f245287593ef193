-- "Given exactly when": the first number of a printed list is given under its condition, and no other.
use mathlib.Core.Path.{◌≡◌, refl, ap, ◌∙◌}
use mathlib.Core.Bool.{Bool, true, false, cond, not}
use mathlib.Core.List.{List, [], ◌∷◌, ◌++◌}
use Prim.Native.Nat.{ℕ, ◌<◌}
use native.Mathlib.Omega.{arith}
use borrow.Author.Tests.{not-true}
use Rattle.wire.specs.Numbers.{first_said}
use Rattle.wire.proofs.Truths.{and_left, and_right}
use Rattle.demands.specs.Demand1.{Condition, first_number, none_holds, GivenUnder}

-- "Given exactly when": the first number of a list is given under its condition, and a number under whose condition it is given is the first
pub first_given : (cs : List Condition) → 0 < first_number cs → GivenUnder cs (first_number cs)
unfolding first_said none_holds
first_given [] above = absurd (omega arith)
first_given (c ∷ cs) above = go c.holds refl above (first_given cs)
  where
    go : (b : Bool) → c.holds ≡ b → 0 < cond b c.said (first_number cs) → (0 < first_number cs → GivenUnder cs (first_number cs))
        → GivenUnder (c ∷ cs) (cond b c.said (first_number cs))
    go true is above further =
        record { before = []; condition = c; behind = cs; place = refl; number = refl; holds = is; none_before = refl }
    go false is above further =
        let rest = further above in
        record {
          before = c ∷ rest.before;
          condition = rest.condition;
          behind = rest.behind;
          place = ap (λ (l : List Condition). c ∷ l) rest.place;
          number = rest.number;
          holds = rest.holds;
          none_before = rw (is, rest.none_before);
        }

skipped : (before rest : List Condition) → none_holds before ≡ true → first_number (before ++ rest) ≡ first_number rest
unfolding first_said none_holds
skipped [] rest none = refl
skipped (c ∷ before) rest none =
    let off : c.holds ≡ false = not-true c.holds (and_left (not c.holds) (none_holds before) none) in
    rw off (skipped before rest (and_right (not c.holds) (none_holds before) none))

pub given_is_first : (cs : List Condition) (n : ℕ) → GivenUnder cs n → first_number cs ≡ n
unfolding first_said
given_is_first cs n under =
    ap first_number under.place
    ∙ skipped under.before (under.condition ∷ under.behind) under.none_before
    ∙ rw under.holds under.number
