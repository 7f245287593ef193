-- Laws of `wrong_list`: exactly which lists are refused with 16.
use mathlib.Core.Path.{◌≡◌, refl, sym}
use mathlib.Core.Logic.{◌≢◌}
use mathlib.Core.Bool.{Bool, true, false, not, ◌||◌, true≢false}
use mathlib.Core.List.{List}
use Prim.Native.Nat.{ℕ, ◌≤◌, ◌<◌}
use native.Mathlib.Omega.{arith}
use borrow.Author.Tests.{ltb-true, ltb-false, eqb-true, eq-eqb, not-false}
use lib.Dec.{eqb, ltb}
use lib.ListN.{length}
use Rattle.wire.specs.Addresses.{word_count}
use Rattle.wire.proofs.Truths.{or_left, or_right}
use Rattle.watch.specs.Watched.{Watched, with_values, none_watched, entry_count, address_at, used_at}
use Rattle.watch.specs.Judge.{most_watched, some_below, is_past_end, share, is_wrong_at, wrong_lengths, wrong_list}
use Rattle.watch.proofs.Somes.{none_passes}

neither : (a b : Bool) → (a || b) ≡ false → (a ≡ false) × (b ≡ false)
neither a b is = (or_left a b is, or_right a b is)

good_three : (addresses uses values : ℕ) → wrong_lengths addresses uses values ≡ false
    → (addresses ≤ most_watched) × (uses ≡ addresses) × (values ≡ addresses)
unfolding wrong_lengths
good_three addresses uses values good =
    let both = neither (ltb most_watched addresses || not (eqb uses addresses)) (not (eqb values addresses)) good in
    let first = neither (ltb most_watched addresses) (not (eqb uses addresses)) both.0 in (
      ltb-false most_watched addresses first.0,
      eqb-true uses addresses (not-false (eqb uses addresses) first.1),
      eqb-true values addresses (not-false (eqb values addresses) both.1),
    )

-- what is known of a list that is not refused
module _ (w : Watched) (good : wrong_list w ≡ false) where
  parts : (wrong_lengths (length w.addresses) (length w.uses) (length w.values) ≡ false)
      × (some_below (is_wrong_at w.addresses w.uses) (entry_count w) ≡ false)
  unfolding wrong_list
  parts =
      neither
      (wrong_lengths (length w.addresses) (length w.uses) (length w.values))
      (some_below (is_wrong_at w.addresses w.uses) (entry_count w))
      good

  pub good_lengths :
      (length w.addresses ≤ 16) × (length w.uses ≡ length w.addresses) × (length w.values ≡ length w.addresses)
  good_lengths = good_three (length w.addresses) (length w.uses) (length w.values) parts.0

  entry : (i : ℕ) → i < entry_count w
      → (is_past_end w.addresses w.uses i ≡ false) × (some_below (share w.addresses w.uses i) i ≡ false)
  unfolding is_wrong_at
  entry i inside =
      neither
      (is_past_end w.addresses w.uses i)
      (some_below (share w.addresses w.uses i) i)
      (none_passes (is_wrong_at w.addresses w.uses) (entry_count w) i parts.1 inside)

  pub good_below : (i : ℕ) → i < entry_count w → used_at w.uses i ≡ true → address_at w.addresses i < word_count
  unfolding is_past_end
  good_below i inside used =
      let below = ltb (address_at w.addresses i) word_count in
      ltb-true (address_at w.addresses i) word_count (not-false below (rw used at (entry i inside).0))

  -- no entry in use shares its word with one before it
  alone : (i j : ℕ) → j < entry_count w → used_at w.uses i ≡ true → used_at w.uses j ≡ true
      → address_at w.addresses i ≡ address_at w.addresses j → i < j → ⊥
  unfolding share
  alone i j inside used-i used-j same before =
      let none = none_passes (share w.addresses w.uses j) j i (entry j inside).1 before in
      let equal = eq-eqb (address_at w.addresses j) (address_at w.addresses i) (sym same) in
      true≢false (rw (used-j, used-i, equal) at none)

  pub good_apart : (i j : ℕ) → i < entry_count w → j < entry_count w → used_at w.uses i ≡ true → used_at w.uses j ≡ true
      → address_at w.addresses i ≡ address_at w.addresses j → i ≡ j
  good_apart i j inside-i inside-j used-i used-j same =
      let not-before = alone i j inside-j used-i used-j same in
      let not_behind = alone j i inside-i used-j used-i (sym same) in
      omega (arith, not-before, not_behind)

-- and what is refused
module _ (w : Watched) where
  refused : (wrong_list w ≡ false → ⊥) → wrong_list w ≡ true
  refused not-Good = go (wrong_list w) refl
    where
      go : (b : Bool) → wrong_list w ≡ b → b ≡ true
      go true is = refl
      go false is = absurd (not-Good is)

  pub too_long_wrong : most_watched < entry_count w → wrong_list w ≡ true
  too_long_wrong long = refused (λ good. omega (arith, (good_lengths w good).0))

  pub uses_differ_wrong : length w.uses ≢ length w.addresses → wrong_list w ≡ true
  uses_differ_wrong differ = refused (λ good. differ (good_lengths w good).1)

  pub values_differ_wrong : length w.values ≢ length w.addresses → wrong_list w ≡ true
  values_differ_wrong differ = refused (λ good. differ (good_lengths w good).2)

  pub past_end_wrong : (i : ℕ) → i < entry_count w → used_at w.uses i ≡ true → word_count ≤ address_at w.addresses i → wrong_list w ≡ true
  past_end_wrong i inside used past = refused (λ good. omega (arith, good_below w good i inside used))

  pub shared_wrong : (i j : ℕ) → i < j → j < entry_count w → used_at w.uses i ≡ true → used_at w.uses j ≡ true
      → address_at w.addresses i ≡ address_at w.addresses j → wrong_list w ≡ true
  shared_wrong i j before inside used-i used-j same =
      refused (λ good. omega (arith, good_apart w good i j (omega arith) inside used-i used-j same))

-- other values, as many of them, are judged alike
pub judged_alike : (w : Watched) (values : List ℕ) → length values ≡ length w.values → wrong_list (with_values w values) ≡ wrong_list w
unfolding wrong_list
judged_alike w values long = rw long

-- a list of no entries is never refused
pub none_watched_good : wrong_list none_watched ≡ false
unfolding wrong_list wrong_lengths some_below
none_watched_good = refl
