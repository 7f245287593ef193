-- Reading on: the steps that were made stand, and reading goes on from the bytes held.
use mathlib.Core.Path.{◌≡◌, sym, ap, ◌∙◌}
use mathlib.Core.Bool.{Bool, false}
use mathlib.Core.List.{List, [], ◌∷◌, ◌++◌, append_assoc}
use Prim.Native.Nat.{ℕ}
use lib.ListN.{drop}
use lib.Seq.{drop-append-le}
use Rattle.reading.specs.Place.{Rules, Seen, look, is_wait}
use Rattle.reading.specs.Stretch.{held_of}
use Rattle.reading.proofs.Stable.{stable}
use Rattle.course.specs.Course.{stride, seen_along, held_after}
use Rattle.course.proofs.Course.{Walks, seen_nil, held_nil, seen_stays, held_stays, place_walks, walks_nowhere, walks_further, Through, over, stays, goes, through, gone_inside}
use Rattle.course.proofs.ReadOff.{course_holds}

module _ (rules : Rules) (closed : Bool) where
  -- a place that is decided, with bytes behind
  still_walks : (x : ℕ) (xs ys : List ℕ) (seen : Seen) → look rules false (x ∷ xs) ≡ seen → is_wait seen ≡ false
      → Walks rules closed (x ∷ (xs ++ ys)) (seen ∷ []) (drop (stride rules seen) (x ∷ xs) ++ ys)
  still_walks x xs ys seen is decided =
      let still : look rules closed (x ∷ (xs ++ ys)) ≡ seen = stable rules closed (x ∷ xs) ys (ap is_wait is ∙ decided) ∙ is in
      rw (drop-append-le (stride rules seen) (x ∷ xs) ys (gone_inside rules false x xs seen is)) at (place_walks rules closed x (xs ++ ys) seen still decided)

  along : (xs ys : List ℕ) → Through rules false xs → Walks rules closed (xs ++ ys) (seen_along rules false xs) (held_after rules false xs ++ ys)
  along [] ys over = rw (seen_nil rules false, held_nil rules false) (walks_nowhere rules closed ys)
  along xs ys (stays waits) = rw (seen_stays rules false xs waits, held_stays rules false xs waits) (walks_nowhere rules closed (xs ++ ys))
  along (x ∷ xs) ys (goes seen is decided rest) =
      let open-here = place_walks rules false x xs seen is decided in
      rw (open-here.along, open-here.left)
      (walks_further rules closed (still_walks x xs ys seen is decided) (along (drop (stride rules seen) (x ∷ xs)) ys rest))

  -- bytes that follow, and a mark or none behind them: the steps so far, then those of what is held and the bytes that follow
  appended : (xs ys : List ℕ) → Walks rules closed (xs ++ ys) (seen_along rules false xs) (held_after rules false xs ++ ys)
  appended xs ys = along xs ys (through rules false xs)

  pub seen_append : (xs ys : List ℕ) → seen_along rules closed (xs ++ ys) ≡ seen_along rules false xs ++ seen_along rules closed (held_of rules xs ++ ys)
  seen_append xs ys = rw (sym (course_holds rules xs)) (appended xs ys).along

  -- so stretches of which one goes on as the other do so with any bytes behind them
  pub walks_append : (xs : List ℕ) (these : List Seen) (ys more : List ℕ) → Walks rules false xs these ys → Walks rules closed (xs ++ more) these (ys ++ more)
  walks_append xs these ys more open-stretch =
      let first = appended xs more in
      let second = appended ys more in
      record {
        along = first.along
            ∙ rw (open-stretch.along, open-stretch.left, append_assoc these (seen_along rules false ys) (seen_along rules closed (held_after rules false ys ++ more)))
            (ap (λ (l : List Seen). these ++ l) (sym second.along));
        left = first.left ∙ rw (open-stretch.left) (sym second.left);
      }

-- what is held makes no step yet
no_step_along : (rules : Rules) (xs : List ℕ) → Through rules false xs → seen_along rules false (held_after rules false xs) ≡ []
no_step_along rules [] over = rw (held_nil rules false) (seen_nil rules false)
no_step_along rules xs (stays waits) = rw (held_stays rules false xs waits) (seen_stays rules false xs waits)
no_step_along rules (x ∷ xs) (goes seen is decided rest) =
    rw (place_walks rules false x xs seen is decided).left (no_step_along rules (drop (stride rules seen) (x ∷ xs)) rest)

pub held_no_step : (rules : Rules) (xs : List ℕ) → seen_along rules false (held_of rules xs) ≡ []
held_no_step rules xs = rw (sym (course_holds rules xs)) (no_step_along rules xs (through rules false xs))
