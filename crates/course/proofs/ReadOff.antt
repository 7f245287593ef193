-- What is read off the course is what the reading says: reports, reports with their places, and what is held.
use mathlib.Core.Path.{◌≡◌, refl, sym, ap, ◌∙◌}
use mathlib.Core.Bool.{Bool, false}
use mathlib.Core.List.{List, [], ◌∷◌, ◌++◌, map}
use Prim.Native.Nat.{ℕ, zero, suc, ◌+◌}
use native.Mathlib.Omega.{arith}
use lib.ListN.{drop}
use Rattle.reading.specs.Place.{Rules, Seen, Report, look, report_of, gone_by, is_wait}
use Rattle.reading.specs.Stretch.{Placed, placed_at, read_from, reading, reports, held_from, held_of}
use Rattle.reading.proofs.Course.{GoesOn, reports_nil, held_nil, reports_stays, held_stays, place_goes_on}
use Rattle.course.specs.Course.{stride, course_from, course, seen_along, reports_in, reports_along, held_after, placed_in, placed_along}
use Rattle.course.proofs.Course as c
use Rattle.course.proofs.Course.{stride_is, seen_nil, seen_stays, seen_goes, course_nil, course_stays, course_goes, place_walks, Through, over, stays, goes, through}

module _ (rules : Rules) (closed : Bool) where
  -- one step of the reading: it goes as far as the step of the course
  step_goes_on : (x : ℕ) (xs : List ℕ) (seen : Seen) → look rules closed (x ∷ xs) ≡ seen → is_wait seen ≡ false
      → GoesOn rules closed (x ∷ xs) (report_of rules seen) (drop (stride rules seen) (x ∷ xs))
  step_goes_on x xs seen is decided = rw (stride_is rules seen decided) (place_goes_on rules closed (x ∷ xs) seen is decided)

  reports_off : (xs : List ℕ) → Through rules closed xs → reports_in rules (seen_along rules closed xs) ≡ reports rules closed xs
  unfolding reports_in
  reports_off [] over = rw (seen_nil rules closed, reports_nil rules closed)
  reports_off xs (stays waits) = rw (seen_stays rules closed xs waits, reports_stays rules closed xs waits)
  reports_off (x ∷ xs) (goes seen is decided rest) =
      rw (seen_goes rules closed x xs seen is decided)
      (ap (λ (l : List Report). report_of rules seen ++ l) (reports_off (drop (stride rules seen) (x ∷ xs)) rest)
      ∙ sym (step_goes_on x xs seen is decided).reported)

  -- the reports of the steps are those of the reading
  pub course_reports : (xs : List ℕ) → reports_along rules closed xs ≡ reports rules closed xs
  unfolding reports_along
  course_reports xs = reports_off xs (through rules closed xs)

  held_off : (xs : List ℕ) → Through rules closed xs → held_after rules closed xs ≡ held_from rules closed 0 xs
  held_off [] over = rw (c.held_nil rules closed, held_nil rules closed)
  held_off xs (stays waits) = rw (c.held_stays rules closed xs waits, held_stays rules closed xs waits)
  held_off (x ∷ xs) (goes seen is decided rest) =
      (place_walks rules closed x xs seen is decided).left
      ∙ held_off (drop (stride rules seen) (x ∷ xs)) rest
      ∙ sym (step_goes_on x xs seen is decided).left

  -- what the course leaves is what the reading holds
  pub course_leaves : (xs : List ℕ) → held_after rules closed xs ≡ held_from rules closed 0 xs
  course_leaves xs = held_off xs (through rules closed xs)

  -- bytes that belong to an accepted frame are gone past, with their places
  read_from_drop : (n p : ℕ) (xs : List ℕ) → read_from rules closed p n xs ≡ read_from rules closed (p + n) 0 (drop n xs)
  unfolding read_from
  read_from_drop zero p xs = let here : p + 0 ≡ p = omega arith in rw here
  read_from_drop (suc n) p [] = refl
  read_from_drop (suc n) p (x ∷ xs) = let on : suc p + n ≡ p + suc n = omega arith in read_from_drop n (suc p) xs ∙ rw on

  placed_off : (p : ℕ) (xs : List ℕ) → Through rules closed xs → placed_in rules (course_from rules closed p p xs) ≡ read_from rules closed p 0 xs
  unfolding placed_in read_from
  placed_off p [] over = rw (course_nil rules closed p p)
  placed_off p [] (stays waits) = rw (course_nil rules closed p p)
  placed_off p (x ∷ xs) (stays waits) = rw (course_stays rules closed p (x ∷ xs) waits, waits)
  placed_off p (x ∷ xs) (goes seen is decided rest) =
      let to = stride_is rules seen decided in
      let on : p + stride rules seen ≡ suc p + gone_by rules seen = omega arith in
      let behind_it : drop (stride rules seen) (x ∷ xs) ≡ drop (gone_by rules seen) xs = ap (λ (n : ℕ). drop n (x ∷ xs)) to in
      let later = placed_off (p + stride rules seen) (drop (stride rules seen) (x ∷ xs)) rest in
      rw (course_goes rules closed p x xs seen is decided, is, decided)
      (ap (λ (l : List Placed). map (placed_at p) (report_of rules seen) ++ l)
      (later ∙ rw (on, behind_it) (sym (read_from_drop (gone_by rules seen) (suc p) xs))))

  -- and so are the reports with their places
  pub course_placed : (xs : List ℕ) → placed_along rules closed xs ≡ reading rules closed xs
  unfolding placed_along course reading
  course_placed xs = placed_off 0 xs (through rules closed xs)

-- "otherwise the bytes from the waiting place on are held": what the course of an open stretch leaves
pub course_holds : (rules : Rules) (xs : List ℕ) → held_after rules false xs ≡ held_of rules xs
unfolding held_of
course_holds rules xs = course_leaves rules false xs
