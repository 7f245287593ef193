-- What is passed over, what is inside accepted frames and what is held add up to all bytes.
use mathlib.Core.Path.{◌≡◌, sym}
use mathlib.Core.Bool.{Bool, false}
use mathlib.Core.List.{List, [], ◌∷◌}
use Prim.Native.Nat.{ℕ, ◌+◌, ◌-◌, ◌≤◌}
use native.Mathlib.Omega.{arith}
use lib.ListN.{length, drop, length-drop}
use Rattle.reading.specs.Place.{Rules, Seen, pass, wait, bad, accepted}
use Rattle.reading.specs.Stretch.{held_of}
use Rattle.course.specs.Course.{stride, seen_along, passed_in, inside_in, gone_past, held_after}
use Rattle.course.proofs.ReadOff.{course_holds}
use Rattle.course.proofs.Course.{seen_nil, seen_stays, seen_goes, Through, over, stays, goes, through, gone_inside}

-- "go to p+1": one byte passed over; "go to p+3+L": a whole frame
pub gone_parts : (rules : Rules) (these : List Seen) → gone_past rules these ≡ passed_in these + inside_in rules these
unfolding gone_past passed_in inside_in stride
gone_parts rules [] = omega arith
gone_parts rules (pass ∷ later) = let rest = gone_parts rules later in omega arith
gone_parts rules (wait ∷ later) = let rest = gone_parts rules later in omega arith
gone_parts rules (bad body ∷ later) = let rest = gone_parts rules later in omega arith
gone_parts rules (accepted body ∷ later) = let rest = gone_parts rules later in omega arith

module _ (rules : Rules) (closed : Bool) where
  within_along : (xs : List ℕ) → Through rules closed xs → gone_past rules (seen_along rules closed xs) ≤ length xs
  unfolding gone_past
  within_along [] over = rw (seen_nil rules closed) (omega arith)
  within_along xs (stays waits) = rw (seen_stays rules closed xs waits) (omega arith)
  within_along (x ∷ xs) (goes seen is decided rest) =
      let later : gone_past rules (seen_along rules closed (drop (stride rules seen) (x ∷ xs))) ≤ length (drop (stride rules seen) (x ∷ xs)) =
      within_along (drop (stride rules seen) (x ∷ xs)) rest in
      let here : stride rules seen ≤ length (x ∷ xs) = gone_inside rules closed x xs seen is in
      let long : length (drop (stride rules seen) (x ∷ xs)) ≡ length (x ∷ xs) - stride rules seen = length-drop (stride rules seen) (x ∷ xs) in
      rw (seen_goes rules closed x xs seen is decided) (omega arith)

  -- no step goes past the end of the stretch
  pub gone_within : (xs : List ℕ) → gone_past rules (seen_along rules closed xs) ≤ length xs
  gone_within xs = within_along xs (through rules closed xs)

  -- the bytes passed over, those inside accepted frames and those left are all bytes of the stretch
  pub all_bytes : (xs : List ℕ) → length xs ≡ passed_in (seen_along rules closed xs) + inside_in rules (seen_along rules closed xs) + length (held_after rules closed xs)
  unfolding held_after
  all_bytes xs =
      let within = gone_within xs in
      let parts = gone_parts rules (seen_along rules closed xs) in
      let long = length-drop (gone_past rules (seen_along rules closed xs)) xs in
      omega arith

-- of an open stretch: what is held is what the reading holds
pub all_bytes_held : (rules : Rules) (xs : List ℕ)
    → length xs ≡ passed_in (seen_along rules false xs) + inside_in rules (seen_along rules false xs) + length (held_of rules xs)
all_bytes_held rules xs = rw (sym (course_holds rules xs)) (all_bytes rules false xs)
