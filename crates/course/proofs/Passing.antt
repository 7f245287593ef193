-- Laws of what is passed over at the front of a stretch: how many bytes, and the steps that go past them.
use mathlib.Core.Path.{◌≡◌, refl, sym, ap, ◌∙◌}
use mathlib.Core.Bool.{Bool, true, false}
use mathlib.Core.List.{List, [], ◌∷◌}
use Prim.Native.Nat.{ℕ, suc, ◌≤◌}
use native.Mathlib.Omega.{arith}
use lib.ListN.{length, drop}
use Rattle.reading.specs.Place.{Rules, Seen, pass, wait, bad, accepted, look, report_of, is_wait}
use Rattle.reading.specs.Moves.{is_pass, passes}
use Rattle.reading.proofs.Stable.{true_is_not_false}
use Rattle.course.specs.Course.{stride, seen_along, reports_in, gone_past}
use Rattle.course.specs.Steps.{passing}
use Rattle.course.proofs.Course.{Walks, seen_nil, seen_stays, seen_goes, place_walks, walks_nowhere, walks_further}

pub is_a_pass : (seen : Seen) → is_pass seen ≡ true → seen ≡ pass
unfolding is_pass
is_a_pass pass is = refl
is_a_pass wait is = true_is_not_false (sym is)
is_a_pass (bad body) is = true_is_not_false (sym is)
is_a_pass (accepted body) is = true_is_not_false (sym is)

-- what passes over reports nothing
pub passing_reports : (rules : Rules) (these : List Seen) → reports_in rules (passing these) ≡ []
unfolding passing reports_in report_of is_pass
passing_reports rules [] = refl
passing_reports rules (pass ∷ later) = passing_reports rules later
passing_reports rules (wait ∷ later) = refl
passing_reports rules (bad body ∷ later) = refl
passing_reports rules (accepted body ∷ later) = refl

module _ (rules : Rules) (closed : Bool) where
  -- the steps that pass over bytes of these, before one reports or the course ends
  abbrev pub passing_of : List ℕ → List Seen
  passing_of xs = passing (seen_along rules closed xs)

  pub passing_nil : passing_of [] ≡ []
  unfolding passing
  passing_nil = ap passing (seen_nil rules closed)

  pub passing_more : (x : ℕ) (xs : List ℕ) → is_pass (look rules closed (x ∷ xs)) ≡ true → passing_of (x ∷ xs) ≡ pass ∷ passing_of xs
  unfolding passing is_pass is_wait stride
  passing_more x xs is = ap passing (seen_goes rules closed x xs pass (is_a_pass (look rules closed (x ∷ xs)) is) refl)

  pub passing_none : (x : ℕ) (xs : List ℕ) → is_pass (look rules closed (x ∷ xs)) ≡ false → passing_of (x ∷ xs) ≡ []
  unfolding passing
  passing_none x xs stops = go (is_wait seen) refl
    where
      seen : Seen
      seen = look rules closed (x ∷ xs)

      go : (b : Bool) → is_wait (look rules closed (x ∷ xs)) ≡ b → passing (seen_along rules closed (x ∷ xs)) ≡ []
      go true waits = ap passing (seen_stays rules closed (x ∷ xs) waits)
      go false decided = ap passing (seen_goes rules closed x xs (look rules closed (x ∷ xs)) refl decided) ∙ rw stops

  passes_more : (x : ℕ) (xs : List ℕ) → is_pass (look rules closed (x ∷ xs)) ≡ true → passes rules closed (x ∷ xs) ≡ suc (passes rules closed xs)
  unfolding passes
  passes_more x xs is = rw is

  passes_none : (x : ℕ) (xs : List ℕ) → is_pass (look rules closed (x ∷ xs)) ≡ false → passes rules closed (x ∷ xs) ≡ 0
  unfolding passes
  passes_none x xs stops = rw stops

  -- "go to p+1, nothing reported": what the reading passes over at the front is what these steps go past
  pub passes_gone : (xs : List ℕ) → passes rules closed xs ≡ gone_past rules (passing_of xs)
  unfolding gone_past
  passes_gone [] = unfold passes in rw passing_nil
  passes_gone (x ∷ xs) = go (is_pass (look rules closed (x ∷ xs))) refl (passes_gone xs)
    where
      go : (b : Bool) → is_pass (look rules closed (x ∷ xs)) ≡ b → passes rules closed xs ≡ gone_past rules (passing_of xs)
          → passes rules closed (x ∷ xs) ≡ gone_past rules (passing_of (x ∷ xs))
      go true is rest = unfold stride in rw (passes_more x xs is, passing_more x xs is) (omega arith)
      go false is rest = rw (passes_none x xs is, passing_none x xs is)

  pub passes_within : (xs : List ℕ) → passes rules closed xs ≤ length xs
  passes_within [] = unfold passes in omega arith
  passes_within (x ∷ xs) = go (is_pass (look rules closed (x ∷ xs))) refl (passes_within xs)
    where
      go : (b : Bool) → is_pass (look rules closed (x ∷ xs)) ≡ b → passes rules closed xs ≤ length xs → passes rules closed (x ∷ xs) ≤ length (x ∷ xs)
      go true is rest = rw (passes_more x xs is) (omega arith)
      go false is rest = rw (passes_none x xs is) (omega arith)

  -- what is left once all that is passed over has been
  abbrev pub left_of : List ℕ → List ℕ
  left_of xs = drop (passes rules closed xs) xs

  -- passing over is a part of the course, and what is left goes on as these
  pub passing_walks : (xs : List ℕ) → Walks rules closed xs (passing_of xs) (left_of xs)
  passing_walks [] = unfold passes in rw passing_nil (walks_nowhere rules closed [])
  passing_walks (x ∷ xs) = go (is_pass (look rules closed (x ∷ xs))) refl (passing_walks xs)
    where
      go : (b : Bool) → is_pass (look rules closed (x ∷ xs)) ≡ b → Walks rules closed xs (passing_of xs) (left_of xs)
          → Walks rules closed (x ∷ xs) (passing_of (x ∷ xs)) (left_of (x ∷ xs))
      go true is rest =
          let here : Walks rules closed (x ∷ xs) (pass ∷ []) xs =
          unfold is_wait stride in place_walks rules closed x xs pass (is_a_pass (look rules closed (x ∷ xs)) is) refl in
          rw (passing_more x xs is, passes_more x xs is) (walks_further rules closed here rest)
      go false is rest = rw (passing_none x xs is, passes_none x xs is) (walks_nowhere rules closed (x ∷ xs))
