-- Laws of `settling`: the steps that it makes pass over and report nothing, and the course of a line goes on from what is kept then.
use mathlib.Core.Path.{◌≡◌, refl, sym, ap, ◌∙◌}
use mathlib.Core.Bool.{Bool, true, false}
use mathlib.Core.List.{List, [], ◌∷◌, ◌++◌}
use Prim.Native.Nat.{ℕ}
use lib.ListN.{drop}
use Rattle.reading.specs.Place.{Rules, Seen}
use Rattle.reading.specs.Line.{Input}
use Rattle.reading.specs.Moves.{still_closed, settled}
use Rattle.reading.specs.Run.{closing}
use Rattle.course.specs.Course.{seen_along, reports_in, gone_past}
use Rattle.course.specs.Lines.{line_seen, seen_on}
use Rattle.course.specs.Steps.{settling}
use Rattle.course.proofs.Course.{seen_nil}
use Rattle.course.proofs.Lines.{line_walks}
use Rattle.course.proofs.Passing.{passing_reports, passes_gone, passing_of, left_of, passing_walks}

module _ (rules : Rules) (closed : Bool) where
  -- a closed stretch that is gone through is as no stretch at all
  over_reads : (c : Bool) (ys : List ℕ) (line : List Input) → line_seen rules ys (closing (still_closed c ys) line) ≡ line_seen rules ys (closing c line)
  unfolding still_closed closing line_seen
  over_reads false ys line = refl
  over_reads true [] line = rw (seen_nil rules true)
  over_reads true (y ∷ ys) line = refl

  -- settling makes the steps that pass over, and the course of a line goes on from what is kept then
  pub settling_onward : (xs : List ℕ) (line : List Input)
      → line_seen rules xs (closing closed line) ≡ (settling rules closed xs).steps ++ seen_on rules (settled rules closed xs) line
  unfolding seen_on settled settling
  settling_onward xs line =
      let made = passing_of rules closed xs in
      line_walks rules closed made xs (left_of rules closed xs) line (passing_walks rules closed xs)
      ∙ ap (λ (l : List Seen). made ++ l) (sym (over_reads closed (left_of rules closed xs) line))

  -- which report nothing
  pub settling_reports : (xs : List ℕ) → reports_in rules (settling rules closed xs).steps ≡ []
  unfolding settling
  settling_reports xs = passing_reports rules (seen_along rules closed xs)

  -- settling goes past as many bytes as its steps do
  pub settled_bytes : (xs : List ℕ) → (settled rules closed xs).bytes ≡ drop (gone_past rules (settling rules closed xs).steps) xs
  unfolding settled settling
  settled_bytes xs = ap (λ (n : ℕ). drop n xs) (passes_gone rules closed xs)
