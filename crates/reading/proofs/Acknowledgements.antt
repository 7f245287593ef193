-- 02, §1: "With its 02 an acknowledgement is no good frame in demand 3.": whatever its header, command and verdict, and whatever follows it.
use mathlib.Core.Path.{◌≡◌, refl, sym, ap, ◌∙◌}
use mathlib.Core.Bool.{Bool, true}
use mathlib.Core.List.{List, [], ◌∷◌, ◌++◌, append_assoc}
use Prim.Native.Nat.{ℕ, suc}
use borrow.Author.Tests.{eq-eqb}
use lib.ListN.{drop}
use Rattle.wire.specs.ByteOrder.{low_byte, high_byte}
use Rattle.check_value.specs.CheckValue.{check_value}
use Rattle.frame.specs.Frame.{check_length, least_length, GoodFrame}
use Rattle.frame.specs.Acknowledgement.{acknowledgement_length, verdict, acknowledgement}
use Rattle.reading.specs.Place.{Rules, pass, after_header, behind, look, report_of, gone_by, is_wait}
use Rattle.reading.specs.Stretch.{read_from}
use Rattle.reading.proofs.Accepting.{good_accepted}
use Rattle.reading.proofs.Course.{GoesOn, place_goes_on}
use Rattle.reading.proofs.ReadBack.{rules_of}

-- "L is below its least value: go to p+1, nothing reported"
short_passed : (closed : Bool) (header xs : List ℕ) → behind true closed header (header ++ (acknowledgement_length ∷ xs)) ≡ pass
unfolding behind after_header acknowledgement_length least_length check_length
short_passed closed [] xs = refl
short_passed closed (h ∷ header) xs = rw (eq-eqb h h refl) (short_passed closed header xs)

-- a place that is passed over, p being its place in the stretch
pass_next : (rules : Rules) (closed : Bool) (p : ℕ) (xs : List ℕ) → look rules closed xs ≡ pass
    → read_from rules closed p 0 xs ≡ read_from rules closed (suc p) 0 (drop 1 xs)
unfolding read_from is_wait report_of gone_by
pass_next rules closed p [] is = refl
pass_next rules closed p (x ∷ xs) is = rw is

module _ (header : List ℕ) (command : ℕ) (accepted : Bool) where
  -- its bytes
  abbrev answer : List ℕ
  answer = acknowledgement header command accepted

  -- at its first byte, open or closed
  pub acknowledgement_passed : (closed : Bool) (more : List ℕ) → look (rules_of header true) closed (answer ++ more) ≡ pass
  unfolding look acknowledgement
  acknowledgement_passed closed more =
      let check = check_value (command ∷ verdict accepted ∷ []) in
      let rest = command ∷ verdict accepted ∷ low_byte check ∷ high_byte check ∷ [] in
      ap (behind true closed header) (append_assoc header (acknowledgement_length ∷ rest) more) ∙ short_passed closed header (rest ++ more)

  -- so no good frame begins there, "in it or reaching past it"
  pub acknowledgement_begins_none : (more frame rest : List ℕ) → answer ++ more ≡ frame ++ rest → GoodFrame true header frame → ⊥
  acknowledgement_begins_none more frame rest is good =
      let seen : pass ≡ _ =
      sym (acknowledgement_passed true more) ∙ ap (look (rules_of header true) true) is ∙ good_accepted (rules_of header true) true frame rest good in
      cc

  -- and it is none itself
  pub acknowledgement_no_good_frame : GoodFrame true header answer → ⊥
  acknowledgement_no_good_frame = acknowledgement_begins_none [] answer [] refl

  -- "go to p+1, nothing reported": at the place p where it begins, open or closed, with the places of all that is reported later
  pub acknowledgement_next_place : (closed : Bool) (p : ℕ) (more : List ℕ)
      → read_from (rules_of header true) closed p 0 (answer ++ more) ≡ read_from (rules_of header true) closed (suc p) 0 (drop 1 (answer ++ more))
  acknowledgement_next_place closed p more = pass_next (rules_of header true) closed p (answer ++ more) (acknowledgement_passed closed more)

  -- the same of the reports and of what is held
  pub acknowledgement_goes_on : (closed : Bool) (more : List ℕ) → GoesOn (rules_of header true) closed (answer ++ more) [] (drop 1 (answer ++ more))
  unfolding is_wait report_of gone_by
  acknowledgement_goes_on closed more = place_goes_on (rules_of header true) closed (answer ++ more) pass (acknowledgement_passed closed more) refl
