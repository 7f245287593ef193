-- The course of a reading, from place to place: laws of `reports` and of what is held, by which nobody else opens them.
use mathlib.Core.Path.{◌≡◌, refl, sym, ap, ◌∙◌}
use mathlib.Core.Bool.{Bool, true, false}
use mathlib.Core.List.{List, [], ◌∷◌, ◌++◌, append_assoc}
use Prim.Native.Nat.{ℕ, zero, suc, ◌+◌, ◌≤◌}
use native.Mathlib.Omega.{arith}
use lib.ListN.{length, drop, length-append}
use Rattle.reading.specs.Place.{Rules, Seen, pass, wait, bad, accepted, Report, cut_short, look, report_of, gone_by, is_wait}
use Rattle.reading.specs.Stretch.{reports_from, reports, held_from}
use Rattle.reading.proofs.Stable.{true_is_not_false}
use Rattle.reading.proofs.Waiting.{look_nil}
use Rattle.reading.proofs.Accepting.{accepted_begun}

-- reading xs gives these reports and goes on at ys: what is reported, and what is held in the end
pub record GoesOn (rules : Rules) (closed : Bool) (xs : List ℕ) (these : List Report) (ys : List ℕ) : Type 0 where
  pub reported : reports rules closed xs ≡ these ++ reports rules closed ys
  pub left : held_from rules closed 0 xs ≡ held_from rules closed 0 ys

module _ (rules : Rules) (closed : Bool) where
  -- bytes that belong to an accepted frame are gone past
  reports_from_drop : (n : ℕ) (xs : List ℕ) → reports_from rules closed n xs ≡ reports_from rules closed 0 (drop n xs)
  unfolding reports_from
  reports_from_drop zero xs = refl
  reports_from_drop (suc n) [] = refl
  reports_from_drop (suc n) (x ∷ xs) = reports_from_drop n xs

  held_from_drop : (n : ℕ) (xs : List ℕ) → held_from rules closed n xs ≡ held_from rules closed 0 (drop n xs)
  unfolding held_from
  held_from_drop zero xs = refl
  held_from_drop (suc n) [] = refl
  held_from_drop (suc n) (x ∷ xs) = held_from_drop n xs

  pub reports_nil : reports rules closed [] ≡ []
  unfolding reports reports_from
  reports_nil = refl

  pub held_nil : held_from rules closed 0 [] ≡ []
  unfolding held_from
  held_nil = refl

  -- "wait"
  pub reports_stays : (xs : List ℕ) → is_wait (look rules closed xs) ≡ true → reports rules closed xs ≡ []
  unfolding reports reports_from
  reports_stays [] waits = refl
  reports_stays (x ∷ xs) waits = rw waits

  pub held_stays : (xs : List ℕ) → is_wait (look rules closed xs) ≡ true → held_from rules closed 0 xs ≡ xs
  unfolding held_from
  held_stays [] waits = refl
  held_stays (x ∷ xs) waits = rw waits

  -- where there is no byte left, only a closed stretch goes on, and reports nothing
  seen_nil : (seen : Seen) → look rules closed [] ≡ seen → is_wait seen ≡ false → seen ≡ pass
  unfolding is_wait cut_short
  seen_nil seen is decided = go closed (sym is ∙ look_nil rules closed)
    where
      go : (c : Bool) → seen ≡ cut_short c → seen ≡ pass
      go false e = true_is_not_false (sym (ap is_wait e) ∙ decided)
      go true e = e

  reports_goes : (xs : List ℕ) (seen : Seen) → look rules closed xs ≡ seen → is_wait seen ≡ false
      → reports rules closed xs ≡ report_of rules seen ++ reports rules closed (drop (suc (gone_by rules seen)) xs)
  unfolding reports reports_from report_of gone_by
  reports_goes [] seen is decided = rw (seen_nil seen is decided)
  reports_goes (x ∷ xs) seen is decided =
      rw (is, decided) (ap (λ (l : List Report). report_of rules seen ++ l) (reports_from_drop (gone_by rules seen) xs))

  held_goes : (xs : List ℕ) (seen : Seen) → look rules closed xs ≡ seen → is_wait seen ≡ false
      → held_from rules closed 0 xs ≡ held_from rules closed 0 (drop (suc (gone_by rules seen)) xs)
  unfolding held_from gone_by
  held_goes [] seen is decided = refl
  held_goes (x ∷ xs) seen is decided = rw (is, decided) (held_from_drop (gone_by rules seen) xs)

  -- "report .., go to .."
  pub place_goes_on : (xs : List ℕ) (seen : Seen) → look rules closed xs ≡ seen → is_wait seen ≡ false
      → GoesOn rules closed xs (report_of rules seen) (drop (suc (gone_by rules seen)) xs)
  place_goes_on xs seen is decided = record { reported = reports_goes xs seen is decided; left = held_goes xs seen is decided }

  pub stays_here : (xs : List ℕ) → GoesOn rules closed xs [] xs
  stays_here xs = record { reported = refl; left = refl }

  -- from place to place, and so from the first to the last
  pub goes_further : {xs ys zs : List ℕ} {these later : List Report} → GoesOn rules closed xs these ys → GoesOn rules closed ys later zs
      → GoesOn rules closed xs (these ++ later) zs
  goes_further {zs = zs} {these = these} {later = later} first second =
      record {
        reported = first.reported ∙ ap (λ (l : List Report). these ++ l) second.reported ∙ sym (append_assoc these later (reports rules closed zs));
        left = first.left ∙ second.left;
      }

-- every stretch has a course: reading goes on until it waits or there are no more bytes
pub data Course (rules : Rules) (closed : Bool) : List ℕ → Type 0 where
  over : Course rules closed []
  stays : {xs : List ℕ} → is_wait (look rules closed xs) ≡ true → Course rules closed xs
  goes : {xs : List ℕ} (seen : Seen) → look rules closed xs ≡ seen → is_wait seen ≡ false
      → Course rules closed (drop (suc (gone_by rules seen)) xs) → Course rules closed xs

module _ (rules : Rules) (closed : Bool) where
  course_from : (n : ℕ) (xs : List ℕ) → Course rules closed (drop n xs)
  course_from zero [] = over
  course_from (suc n) [] = over
  course_from (suc n) (x ∷ xs) = course_from n xs
  course_from zero (x ∷ xs) = go (is_wait (look rules closed (x ∷ xs))) refl (course_from (gone_by rules (look rules closed (x ∷ xs))) xs)
    where
      go : (b : Bool) → is_wait (look rules closed (x ∷ xs)) ≡ b → Course rules closed (drop (gone_by rules (look rules closed (x ∷ xs))) xs)
          → Course rules closed (x ∷ xs)
      go true waits rest = stays waits
      go false decided rest = goes (look rules closed (x ∷ xs)) refl decided rest

  pub course : (xs : List ℕ) → Course rules closed xs
  course xs = course_from 0 xs

-- an open place that is decided has all the bytes that are gone past
decided_some : (rules : Rules) (xs : List ℕ) (seen : Seen) → look rules false xs ≡ seen → is_wait seen ≡ false → 1 ≤ length xs
unfolding is_wait cut_short
decided_some rules [] seen is decided = true_is_not_false (sym (ap is_wait (look_nil rules false)) ∙ ap is_wait is ∙ decided)
decided_some rules (x ∷ xs) seen is decided = omega arith

pub gone_inside : (rules : Rules) (xs : List ℕ) (seen : Seen) → look rules false xs ≡ seen → is_wait seen ≡ false
    → suc (gone_by rules seen) ≤ length xs
unfolding gone_by is_wait
gone_inside rules xs pass is decided = decided_some rules xs pass is decided
gone_inside rules xs wait is decided = true_is_not_false decided
gone_inside rules xs (bad body) is decided = decided_some rules xs (bad body) is decided
gone_inside rules xs (accepted body) is decided =
    let begun = accepted_begun rules false xs body is in
    let long : length xs ≡ length rules.header + suc (length body + length begun.rest) =
    ap length begun.parts ∙ simp length-append in
    omega arith
