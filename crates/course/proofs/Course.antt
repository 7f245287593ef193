-- The course from place to place: laws of it and of what is read off it, by which nobody else opens them.
use mathlib.Core.Path.{◌≡◌, refl, sym, ap, subst, ◌∙◌}
use mathlib.Core.Bool.{Bool, true, false, cond}
use mathlib.Core.List.{List, [], ◌∷◌, ◌++◌, map, append_assoc}
use Prim.Native.Nat.{ℕ, zero, suc, ◌+◌, ◌-◌, ◌≤◌, ◌<◌}
use native.Mathlib.Omega.{arith}
use borrow.Author.Tests.{lt-ltb, le-ltb, ltb-true, ltb-false}
use lib.Dec.{ltb}
use lib.ListN.{length, drop, length-append}
use lib.Seq.{drop-drop}
use Rattle.reading.specs.Place.{Rules, Seen, pass, wait, bad, accepted, Report, look, report_of, gone_by, is_wait}
use Rattle.reading.specs.Moves.{is_report}
use Rattle.reading.proofs.Stable.{true_is_not_false}
use Rattle.reading.proofs.Accepting.{accepted_begun}
use Rattle.course.specs.Course.{stride, Step, step_at, course_from, course, seen_in, seen_along, reports_in, gone_past, held_after}

-- "go to p+1", "go to p+3+L": a place that does not wait is gone past
pub goes_past : (rules : Rules) (seen : Seen) → is_wait seen ≡ false → 1 ≤ stride rules seen
unfolding is_wait stride
goes_past rules pass decided = omega arith
goes_past rules wait decided = true_is_not_false decided
goes_past rules (bad body) decided = omega arith
goes_past rules (accepted body) decided = omega arith

-- it is gone past with the bytes that reading counts as gone behind it
pub stride_is : (rules : Rules) (seen : Seen) → is_wait seen ≡ false → stride rules seen ≡ suc (gone_by rules seen)
unfolding is_wait stride gone_by
stride_is rules pass decided = refl
stride_is rules wait decided = true_is_not_false decided
stride_is rules (bad body) decided = refl
stride_is rules (accepted body) decided = omega arith

-- a step whose place is so many bytes further on
abbrev pub further : ℕ → Step → Step
further d step = step_at (d + step.place) step.seen

ltb_further : (d p q : ℕ) → ltb (d + p) (d + q) ≡ ltb p q
ltb_further d p q = go (ltb p q) refl
  where
    go : (b : Bool) → ltb p q ≡ b → ltb (d + p) (d + q) ≡ b
    go true is = let less : p < q = ltb-true p q is in lt-ltb (d + p) (d + q) (omega arith)
    go false is = let not_less : q ≤ p = ltb-false p q is in le-ltb (d + p) (d + q) (omega arith)

module _ (rules : Rules) (closed : Bool) where
  -- a place that is not reached yet is gone to
  course_skips : (k p next : ℕ) (xs : List ℕ) → next ≡ p + k → course_from rules closed p next xs ≡ course_from rules closed next next (drop k xs)
  unfolding course_from
  course_skips zero p next xs is = let here : p ≡ next = omega arith in ap (λ (n : ℕ). course_from rules closed n next xs) here
  course_skips (suc k) p next [] is = refl
  course_skips (suc k) p next (x ∷ xs) is =
      let before : p < next = omega arith in
      rw (lt-ltb p next before) (course_skips k (suc p) next xs (omega arith))

  -- where the count of places begins makes no other difference
  pub course_further : (d p next : ℕ) (xs : List ℕ) → course_from rules closed (d + p) (d + next) xs ≡ map (further d) (course_from rules closed p next xs)
  unfolding course_from
  course_further d p next [] = refl
  course_further d p next (x ∷ xs) =
      let seen = look rules closed (x ∷ xs) in
      let a : suc (d + p) ≡ d + suc p = omega arith in
      let b : d + p + stride rules seen ≡ d + (p + stride rules seen) = omega arith in
      rw (ltb_further d p next, a, b, course_further d (suc p) next xs, course_further d (suc p) (p + stride rules seen) xs) (go (ltb p next) (is_wait seen) seen)
    where
      go : (b w : Bool) (seen : Seen)
          → cond b (map (further d) (course_from rules closed (suc p) next xs))
          (cond w [] (step_at (d + p) seen ∷ map (further d) (course_from rules closed (suc p) (p + stride rules (look rules closed (x ∷ xs))) xs)))
          ≡ map (further d)
          (cond b (course_from rules closed (suc p) next xs) (cond w [] (step_at p seen ∷ course_from rules closed (suc p) (p + stride rules (look rules closed (x ∷ xs))) xs)))
      go true w seen = refl
      go false true seen = refl
      go false false seen = refl

  pub course_nil : (p next : ℕ) → course_from rules closed p next [] ≡ []
  unfolding course_from
  course_nil p next = refl

  pub seen_nil : seen_along rules closed [] ≡ []
  unfolding seen_along seen_in course course_from
  seen_nil = refl

  -- the course from a place on is the course of the bytes from there on, its places counted from the stretch's first byte
  seen_from : (p : ℕ) (xs : List ℕ) → seen_in (course_from rules closed p p xs) ≡ seen_along rules closed xs
  unfolding seen_along seen_in course
  seen_from p xs =
      let a : p + 0 ≡ p = omega arith in
      ap (λ (n : ℕ). seen_in (course_from rules closed n n xs)) (sym a) ∙ ap seen_in (course_further p 0 0 xs) ∙ unplaced (course_from rules closed 0 0 xs)
    where
      unplaced : (steps : List Step) → seen_in (map (further p) steps) ≡ seen_in steps
      unplaced [] = refl
      unplaced (step ∷ later) = ap (λ (l : List Seen). step.seen ∷ l) (unplaced later)

  -- "in an open stretch wait": no step from there
  pub course_stays : (p : ℕ) (xs : List ℕ) → is_wait (look rules closed xs) ≡ true → course_from rules closed p p xs ≡ []
  unfolding course_from
  course_stays p [] waits = refl
  course_stays p (x ∷ xs) waits = rw (le-ltb p p (omega arith), waits)

  pub seen_stays : (xs : List ℕ) → is_wait (look rules closed xs) ≡ true → seen_along rules closed xs ≡ []
  unfolding seen_along seen_in course
  seen_stays xs waits = ap seen_in (course_stays 0 xs waits)

  -- "go to p+1", "go to p+3+L": a step, and then the course from the place that it goes to
  pub course_goes : (p x : ℕ) (xs : List ℕ) (seen : Seen) → look rules closed (x ∷ xs) ≡ seen → is_wait seen ≡ false
      → course_from rules closed p p (x ∷ xs)
      ≡ step_at p seen ∷ course_from rules closed (p + stride rules seen) (p + stride rules seen) (drop (stride rules seen) (x ∷ xs))
  unfolding course_from
  course_goes p x xs seen is decided =
      let past : 1 ≤ stride rules seen = goes_past rules seen decided in
      let k : ℕ = stride rules seen - 1 in
      let a : stride rules seen ≡ suc k = omega arith in
      let b : p + stride rules seen ≡ suc p + k = omega arith in
      let same : drop (stride rules seen) (x ∷ xs) ≡ drop k xs = ap (λ (n : ℕ). drop n (x ∷ xs)) a in
      rw (le-ltb p p (omega arith), is, decided, same)
      (ap (λ (l : List Step). step_at p seen ∷ l) (course_skips k (suc p) (p + stride rules seen) xs b))

  pub course_steps : (p : ℕ) (xs : List ℕ) (seen : Seen) → 0 < length xs → look rules closed xs ≡ seen → is_wait seen ≡ false
      → course_from rules closed p p xs ≡ step_at p seen ∷ course_from rules closed (p + stride rules seen) (p + stride rules seen) (drop (stride rules seen) xs)
  course_steps p [] seen some is decided = absurd (omega arith)
  course_steps p (x ∷ xs) seen some is decided = course_goes p x xs seen is decided

  pub seen_goes : (x : ℕ) (xs : List ℕ) (seen : Seen) → look rules closed (x ∷ xs) ≡ seen → is_wait seen ≡ false
      → seen_along rules closed (x ∷ xs) ≡ seen ∷ seen_along rules closed (drop (stride rules seen) (x ∷ xs))
  seen_goes x xs seen is decided =
      unfold seen_along seen_in course in ap seen_in (course_goes 0 x xs seen is decided)
      ∙ ap (λ (l : List Seen). seen ∷ l) (seen_from (0 + stride rules seen) (drop (stride rules seen) (x ∷ xs)))

  -- what is read off two parts of a course
  pub reports_of : (these later : List Seen) → reports_in rules (these ++ later) ≡ reports_in rules these ++ reports_in rules later
  unfolding reports_in
  reports_of [] later = refl
  reports_of (seen ∷ these) later =
      ap (λ (l : List Report). report_of rules seen ++ l) (reports_of these later)
      ∙ sym (append_assoc (report_of rules seen) (reports_in rules these) (reports_in rules later))

  pub gone_of : (these later : List Seen) → gone_past rules (these ++ later) ≡ gone_past rules these + gone_past rules later
  unfolding gone_past
  gone_of [] later = omega arith
  gone_of (seen ∷ these) later = let rest = gone_of these later in omega arith

-- reading xs makes these steps and goes on at ys: the course, and what is left in the end
pub record Walks (rules : Rules) (closed : Bool) (xs : List ℕ) (these : List Seen) (ys : List ℕ) : Type 0 where
  pub along : seen_along rules closed xs ≡ these ++ seen_along rules closed ys
  pub left : held_after rules closed xs ≡ held_after rules closed ys

module _ (rules : Rules) (closed : Bool) where
  pub held_nil : held_after rules closed [] ≡ []
  unfolding held_after gone_past
  held_nil = ap (λ (these : List Seen). drop (gone_past rules these) []) (seen_nil rules closed)

  pub held_stays : (xs : List ℕ) → is_wait (look rules closed xs) ≡ true → held_after rules closed xs ≡ xs
  unfolding held_after gone_past
  held_stays xs waits = rw (seen_stays rules closed xs waits)

  held_goes : (x : ℕ) (xs : List ℕ) (seen : Seen) → look rules closed (x ∷ xs) ≡ seen → is_wait seen ≡ false
      → held_after rules closed (x ∷ xs) ≡ held_after rules closed (drop (stride rules seen) (x ∷ xs))
  unfolding held_after gone_past
  held_goes x xs seen is decided =
      let onward = drop (stride rules seen) (x ∷ xs) in
      rw (seen_goes rules closed x xs seen is decided) (sym (drop-drop (gone_past rules (seen_along rules closed onward)) (stride rules seen) (x ∷ xs)))

  -- one step
  pub place_walks : (x : ℕ) (xs : List ℕ) (seen : Seen) → look rules closed (x ∷ xs) ≡ seen → is_wait seen ≡ false
      → Walks rules closed (x ∷ xs) (seen ∷ []) (drop (stride rules seen) (x ∷ xs))
  place_walks x xs seen is decided = record { along = seen_goes rules closed x xs seen is decided; left = held_goes x xs seen is decided }

  pub step_walks : (xs : List ℕ) (seen : Seen) → 0 < length xs → look rules closed xs ≡ seen → is_wait seen ≡ false
      → Walks rules closed xs (seen ∷ []) (drop (stride rules seen) xs)
  step_walks [] seen some is decided = absurd (omega arith)
  step_walks (x ∷ xs) seen some is decided = place_walks x xs seen is decided

  pub walks_nowhere : (xs : List ℕ) → Walks rules closed xs [] xs
  walks_nowhere xs = record { along = refl; left = refl }

  -- from place to place, and so from the first to the last
  pub walks_further : {xs ys zs : List ℕ} {these later : List Seen} → Walks rules closed xs these ys → Walks rules closed ys later zs
      → Walks rules closed xs (these ++ later) zs
  walks_further {zs = zs} {these = these} {later = later} first second =
      record {
        along = first.along ∙ ap (λ (l : List Seen). these ++ l) second.along ∙ sym (append_assoc these later (seen_along rules closed zs));
        left = first.left ∙ second.left;
      }

-- every stretch is gone through: reading goes on until it waits or there are no more bytes
pub data Through (rules : Rules) (closed : Bool) : List ℕ → Type 0 where
  over : Through rules closed []
  stays : {xs : List ℕ} → is_wait (look rules closed xs) ≡ true → Through rules closed xs
  goes : {x : ℕ} {xs : List ℕ} (seen : Seen) → look rules closed (x ∷ xs) ≡ seen → is_wait seen ≡ false
      → Through rules closed (drop (stride rules seen) (x ∷ xs)) → Through rules closed (x ∷ xs)

module _ (rules : Rules) (closed : Bool) where
  through_from : (n : ℕ) (xs : List ℕ) → Through rules closed (drop n xs)
  through_from zero [] = over
  through_from (suc n) [] = over
  through_from (suc n) (x ∷ xs) = through_from n xs
  through_from zero (x ∷ xs) =
      go (look rules closed (x ∷ xs)) refl (is_wait (look rules closed (x ∷ xs))) refl (λ k. through_from k xs)
    where
      go : (seen : Seen) → look rules closed (x ∷ xs) ≡ seen → (b : Bool) → is_wait seen ≡ b → ((k : ℕ) → Through rules closed (drop k xs))
          → Through rules closed (x ∷ xs)
      go seen is true waits rest = stays (ap is_wait is ∙ waits)
      go seen is false decided rest =
          let past : 1 ≤ stride rules seen = goes_past rules seen decided in
          let a : stride rules seen ≡ suc (stride rules seen - 1) = omega arith in
          goes seen is decided (subst (λ (n : ℕ). Through rules closed (drop n (x ∷ xs))) (sym a) (rest (stride rules seen - 1)))

  pub through : (xs : List ℕ) → Through rules closed xs
  through xs = through_from 0 xs

-- a place has all the bytes that its step goes past
pub gone_inside : (rules : Rules) (closed : Bool) (x : ℕ) (xs : List ℕ) (seen : Seen) → look rules closed (x ∷ xs) ≡ seen
    → stride rules seen ≤ length (x ∷ xs)
unfolding stride
gone_inside rules closed x xs pass is = omega arith
gone_inside rules closed x xs wait is = omega arith
gone_inside rules closed x xs (bad body) is = omega arith
gone_inside rules closed x xs (accepted body) is =
    let begun = accepted_begun rules closed (x ∷ xs) body is in
    let long : length (x ∷ xs) ≡ length rules.header + suc (length body + length begun.rest) =
    ap length begun.parts ∙ simp length-append in
    omega arith
