-- The places of a course: each is where what is seen there stands, they follow from what is seen, and the course can be taken up at any of them.
use mathlib.Core.Path.{◌≡◌, refl, sym, ap, ◌∙◌}
use mathlib.Core.Bool.{Bool, true, false, cond}
use mathlib.Core.List.Memᴰ
use mathlib.Core.List.{List, [], ◌∷◌, ◌++◌, map, append_assoc, Memᴰ}
use mathlib.Core.Logic.{◌⊎◌, inl, inr}
use Prim.Native.Nat.{ℕ, ◌+◌}
use native.Mathlib.Omega.{arith}
use lib.ListN.{drop}
use lib.Seq.{drop-drop}
use Rattle.reading.specs.Place.{Rules, Seen, look, report_of}
use Rattle.reading.specs.Stretch.{Placed, placed_at, held_of}
use Rattle.reading.specs.Moves.{is_report}
use Rattle.course.specs.Course.{stride, Step, step_at, course_from, course, seen_along, gone_past, placed_in, first_report, next_report}
use Rattle.reading.proofs.Moves.{no_report}
use Rattle.course.proofs.Course.{seen_nil, seen_stays, seen_goes, course_nil, course_stays, course_goes, Through, over, stays, goes, through}
use Rattle.course.proofs.Appending.{seen_append}

-- steps one behind the other from a place p on, by what is seen in them
unfoldable pub steps_from : Rules → ℕ → List Seen → List Step
steps_from rules p [] = []
steps_from rules p (seen ∷ later) = step_at p seen ∷ steps_from rules (p + stride rules seen) later

steps_append : (rules : Rules) (p : ℕ) (these later : List Seen)
    → steps_from rules p (these ++ later) ≡ steps_from rules p these ++ steps_from rules (p + gone_past rules these) later
unfolding steps_from gone_past
steps_append rules p [] later = let here : p + 0 ≡ p = omega arith in rw here
steps_append rules p (seen ∷ these) later =
    let on : p + stride rules seen + gone_past rules these ≡ p + (stride rules seen + gone_past rules these) = omega arith in
    ap (λ (l : List Step). step_at p seen ∷ l) (steps_append rules (p + stride rules seen) these later ∙ rw on)

module _ (rules : Rules) (closed : Bool) where
  steps_along : (p : ℕ) (xs : List ℕ) → Through rules closed xs → course_from rules closed p p xs ≡ steps_from rules p (seen_along rules closed xs)
  unfolding steps_from
  steps_along p [] over = rw (course_nil rules closed p p, seen_nil rules closed)
  steps_along p xs (stays waits) = rw (course_stays rules closed p xs waits, seen_stays rules closed xs waits)
  steps_along p (x ∷ xs) (goes seen is decided rest) =
      rw (course_goes rules closed p x xs seen is decided, seen_goes rules closed x xs seen is decided)
      (ap (λ (l : List Step). step_at p seen ∷ l) (steps_along (p + stride rules seen) (drop (stride rules seen) (x ∷ xs)) rest))

  -- "go to p+1", "go to p+3+L": the places follow from what is seen
  pub places_follow : (p : ℕ) (xs : List ℕ) → course_from rules closed p p xs ≡ steps_from rules p (seen_along rules closed xs)
  places_follow p xs = steps_along p xs (through rules closed xs)

  from_along : (xs : List ℕ) (before later : List Seen) → Through rules closed xs → seen_along rules closed xs ≡ before ++ later
      → later ≡ seen_along rules closed (drop (gone_past rules before) xs)
  unfolding gone_past
  from_along xs [] later way is = sym is
  from_along [] (seen ∷ before) later over is = cc (sym (seen_nil rules closed) ∙ is)
  from_along xs (seen ∷ before) later (stays waits) is = cc (sym (seen_stays rules closed xs waits) ∙ is)
  from_along (x ∷ xs) (seen ∷ before) later (goes here at_x decided rest) is =
      let both : here ∷ seen_along rules closed (drop (stride rules here) (x ∷ xs)) ≡ seen ∷ (before ++ later) =
      sym (seen_goes rules closed x xs here at_x decided) ∙ is in
      let same : seen ≡ here = cc in
      from_along (drop (stride rules here) (x ∷ xs)) before later rest (ap (drop 1) both)
      ∙ ap (seen_along rules closed) (drop-drop (gone_past rules before) (stride rules here) (x ∷ xs))
      ∙ ap (λ (s : Seen). seen_along rules closed (drop (stride rules s + gone_past rules before) (x ∷ xs))) (sym same)

  -- the course from a place on: some of the steps lead to a place, and the others are the course from there on
  pub course_from_place : (xs : List ℕ) (before later : List Seen) → seen_along rules closed xs ≡ before ++ later
      → course rules closed xs
      ≡ steps_from rules 0 before ++ course_from rules closed (gone_past rules before) (gone_past rules before) (drop (gone_past rules before) xs)
  unfolding course
  course_from_place xs before later is =
      let q = gone_past rules before in
      let from_zero : 0 + q ≡ q = omega arith in
      places_follow 0 xs
      ∙ ap (steps_from rules 0) is
      ∙ steps_append rules 0 before later
      ∙ rw from_zero (ap (λ (l : List Step). steps_from rules 0 before ++ l)
      (ap (steps_from rules q) (from_along xs before later (through rules closed xs) is) ∙ sym (places_follow q (drop q xs))))

-- appending: the steps of an open stretch stand, with their places, and the course goes on at the waiting place with what is held and what follows
pub course_append : (rules : Rules) (closed : Bool) (xs ys : List ℕ) → (q : ℕ) → q ≡ gone_past rules (seen_along rules false xs)
    → course rules closed (xs ++ ys) ≡ course rules false xs ++ course_from rules closed q q (held_of rules xs ++ ys)
unfolding course
course_append rules closed xs ys q is =
    let steps = seen_along rules false xs in
    let from_zero : 0 + gone_past rules steps ≡ q = omega arith in
    places_follow rules closed 0 (xs ++ ys)
    ∙ ap (steps_from rules 0) (seen_append rules closed xs ys)
    ∙ steps_append rules 0 steps (seen_along rules closed (held_of rules xs ++ ys))
    ∙ rw (from_zero, places_follow rules false 0 xs, places_follow rules closed q (held_of rules xs ++ ys))

placed_append : (rules : Rules) (these later : List Step) → placed_in rules (these ++ later) ≡ placed_in rules these ++ placed_in rules later
unfolding placed_in
placed_append rules [] later = refl
placed_append rules (step ∷ these) later =
    let here = map (placed_at step.place) (report_of rules step.seen) in
    ap (λ (l : List Placed). here ++ l) (placed_append rules these later) ∙ sym (append_assoc here (placed_in rules these) (placed_in rules later))

-- the course from the place that a step at p goes to; xs are the bytes from p on
abbrev course_behind : Rules → Bool → (p : ℕ) → Seen → List ℕ → List Step
course_behind rules closed p seen xs = course_from rules closed (p + stride rules seen) (p + stride rules seen) (drop (stride rules seen) xs)

-- a step stands k bytes into these, p being the first one's place, and what is seen in it stands there
abbrev Stands : Rules → Bool → ℕ → List ℕ → Step → Type 0
Stands rules closed p xs step = (k : ℕ) × (step.place ≡ p + k) × (look rules closed (drop k xs) ≡ step.seen)

stands_along : (rules : Rules) (closed : Bool) (p : ℕ) (xs : List ℕ) (step : Step) → Through rules closed xs → Memᴰ step (course_from rules closed p p xs)
    → Stands rules closed p xs step
stands_along rules closed p [] step over member = absurd (Memᴰ.not-nil (rw (course_nil rules closed p p) at member))
stands_along rules closed p xs step (stays waits) member = absurd (Memᴰ.not-nil (rw (course_stays rules closed p xs waits) at member))
stands_along rules closed p (x ∷ xs) step (goes seen is decided rest) member =
    go (stands_along rules closed (p + stride rules seen) (drop (stride rules seen) (x ∷ xs)) step rest)
    (Memᴰ.cases_cons (rw (course_goes rules closed p x xs seen is decided) at member))
  where
    go : (Memᴰ step (course_behind rules closed p seen (x ∷ xs)) → Stands rules closed (p + stride rules seen) (drop (stride rules seen) (x ∷ xs)) step) → (step ≡ step_at p seen) ⊎ Memᴰ step (course_behind rules closed p seen (x ∷ xs))
        → Stands rules closed p (x ∷ xs) step
    go stands_behind (inl here) =
        let at : step.place ≡ p = ap (λ (s : Step). s.place) here in
        (0, omega arith, is ∙ sym (ap (λ (s : Step). s.seen) here))
    go stands_behind (inr later) =
        let stands = stands_behind later in
        let at : step.place ≡ p + stride rules seen + stands.0 = stands.1 in
        (stride rules seen + stands.0, omega arith, ap (look rules closed) (sym (drop-drop stands.0 (stride rules seen) (x ∷ xs))) ∙ stands.2)

-- "At a place p": what a step has seen is what stands at its place, counted from the stretch's first byte
pub seen_is_there : (rules : Rules) (closed : Bool) (xs : List ℕ) (step : Step) → Memᴰ step (course rules closed xs)
    → look rules closed (drop step.place xs) ≡ step.seen
unfolding course
seen_is_there rules closed xs step member =
    let stands = stands_along rules closed 0 xs step (through rules closed xs) member in
    let at : step.place ≡ stands.0 = omega (arith, stands.1) in
    rw at stands.2

-- the next report from a place p on: none where the course from there reports nothing
module _ (rules : Rules) (closed : Bool) where
  none_along : (steps : List Step) → first_report steps ≡ [] → placed_in rules steps ≡ []
  unfolding first_report placed_in
  none_along [] none = refl
  none_along (step ∷ later) none = go (is_report step.seen) refl none (none_along later)
    where
      go : (b : Bool) → is_report step.seen ≡ b → cond b (step ∷ []) (first_report later) ≡ [] → (first_report later ≡ [] → placed_in rules later ≡ [])
          → map (placed_at step.place) (report_of rules step.seen) ++ placed_in rules later ≡ []
      go true is none rest = cc
      go false is none rest = rw (no_report rules step.seen is) (rest none)

  pub next_none : (p : ℕ) (xs : List ℕ) → next_report rules closed p xs ≡ [] → placed_in rules (course_from rules closed p p (drop p xs)) ≡ []
  unfolding next_report
  next_none p xs none = none_along (course_from rules closed p p (drop p xs)) none

  -- that report, and then those from the place that reading goes to behind it
  abbrev After : ℕ → List ℕ → Step → Type 0
  After p ys step =
      (k : ℕ) × (step.place + stride rules step.seen ≡ p + k)
      × (placed_in rules (course_from rules closed p p ys) ≡ placed_in rules (step ∷ []) ++ placed_in rules (course_from rules closed (p + k) (p + k) (drop k ys)))

  next_along : (p : ℕ) (ys : List ℕ) (step : Step) → Through rules closed ys → first_report (course_from rules closed p p ys) ≡ step ∷ [] → After p ys step
  unfolding first_report placed_in
  next_along p [] step over is = cc (ap first_report (sym (course_nil rules closed p p)) ∙ is)
  next_along p ys step (stays waits) is = cc (ap first_report (sym (course_stays rules closed p ys waits)) ∙ is)
  next_along p (y ∷ ys) step (goes seen at_y decided rest) is =
      go (is_report seen) refl (ap first_report (sym steps) ∙ is) (next_along (p + stride rules seen) (drop (stride rules seen) (y ∷ ys)) step rest)
    where
      steps : course_from rules closed p p (y ∷ ys)
          ≡ step_at p seen ∷ course_behind rules closed p seen (y ∷ ys)
      steps = course_goes rules closed p y ys seen at_y decided

      go : (b : Bool) → is_report seen ≡ b
          → cond b (step_at p seen ∷ [])
          (first_report (course_behind rules closed p seen (y ∷ ys))) ≡ step ∷ []
          → (first_report (course_behind rules closed p seen (y ∷ ys)) ≡ step ∷ []
          → After (p + stride rules seen) (drop (stride rules seen) (y ∷ ys)) step)
          → After p (y ∷ ys) step
      go true is first behind =
          let same : step ≡ step_at p seen = cc in
          let at : step.place + stride rules step.seen ≡ p + stride rules seen = ap (λ (s : Step). s.place + stride rules s.seen) same in
          (stride rules seen, at, ap (placed_in rules) steps ∙ placed_append rules (step_at p seen ∷ []) (course_behind rules closed p seen (y ∷ ys)) ∙ rw same)
      go false is first behind =
          let rest = behind first in
          let k = rest.0 in
          let at : step.place + stride rules step.seen ≡ p + stride rules seen + k = rest.1 in
          let on : p + stride rules seen + k ≡ p + (stride rules seen + k) = omega arith in (
            stride rules seen + k,
            at ∙ on,
            rw (steps, no_report rules seen is, ← on, ← drop-drop k (stride rules seen) (y ∷ ys)) rest.2,
          )

  pub next_some : (p : ℕ) (xs : List ℕ) (step : Step) (q : ℕ) → next_report rules closed p xs ≡ step ∷ [] → q ≡ step.place + stride rules step.seen
      → placed_in rules (course_from rules closed p p (drop p xs)) ≡ placed_in rules (step ∷ []) ++ placed_in rules (course_from rules closed q q (drop q xs))
  unfolding next_report
  next_some p xs step q is to =
      let after = next_along p (drop p xs) step (through rules closed (drop p xs)) is in
      let at : p + after.0 ≡ q = omega (arith, after.1) in
      after.2 ∙ rw (drop-drop after.0 p xs, at)
