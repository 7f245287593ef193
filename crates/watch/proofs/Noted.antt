-- Laws of `noted`: what a line write notes.
use mathlib.Core.Path.{◌≡◌, refl, ap, ◌∙◌}
use mathlib.Core.Bool.{Bool, true, false, cond}
use mathlib.Core.List.{List}
use mathlib.Core.Logic.{◌≢◌, ⊎_elim}
use Prim.Native.Nat.{ℕ, zero, suc, ◌+◌, ◌<◌}
use native.Mathlib.Omega.{arith}
use native.Mathlib.Numerals.{add-one}
use lib.ListN.{length, get_or, set, length-set}
use lib.Seq.{get_or-set_same, get_or-set_other}
use Rattle.words.specs.Words.{word_at_address}
use Rattle.watch.specs.Watched.{Watched, entry_count, address_at}
use Rattle.watch.specs.Noting.{is_noted, noted_below, noted}
use Rattle.watch.proofs.Places.{one_or_two, last_or_before}

-- one entry more
pub one_more : (words : List ℕ) (w : Watched) (first n i : ℕ) → noted_below words w first n (i + 1)
    ≡ (let before = noted_below words w first n i in
    cond (is_noted w.addresses w.uses first n i) (set before i (word_at_address words (address_at w.addresses i))) before)
unfolding noted_below
one_more words w first n i = rw (add-one i) refl

-- one entry gone through
module _ (values : List ℕ) (k word : ℕ) where
  length_kept : (shall : Bool) → length (cond shall (set values k word) values) ≡ length values
  length_kept true = length-set values k word
  length_kept false = refl

  other_kept : (shall : Bool) (i : ℕ) → i ≢ k → get_or (cond shall (set values k word) values) i 0 ≡ get_or values i 0
  other_kept true i other = get_or-set_other values k i word 0 other
  other_kept false i other = refl

module _ (words : List ℕ) (w : Watched) (first n : ℕ) where
  length_below : (k : ℕ) → length (noted_below words w first n k) ≡ length w.values
  unfolding noted_below
  length_below zero = refl
  length_below (suc k) =
      length_kept (noted_below words w first n k) k (word_at_address words (address_at w.addresses k)) (is_noted w.addresses w.uses first n k)
      ∙ length_below k

  pub length_noted : length (noted words w first n) ≡ length w.values
  unfolding noted
  length_noted = length_below (entry_count w)

  -- entry k gone through: its own place, and the others
  module _ (k : ℕ) where
    next_at : k < length w.values → is_noted w.addresses w.uses first n k ≡ true
        → get_or (noted_below words w first n (suc k)) k 0 ≡ word_at_address words (address_at w.addresses k)
    unfolding noted_below
    next_at inside is =
        rw is
        (get_or-set_same (noted_below words w first n k) k (word_at_address words (address_at w.addresses k)) 0 (rw (length_below k) inside))

    next_stays : is_noted w.addresses w.uses first n k ≡ false → noted_below words w first n (suc k) ≡ noted_below words w first n k
    unfolding noted_below
    next_stays is = rw is

    other_stays : (i : ℕ) → i ≢ k → get_or (noted_below words w first n (suc k)) i 0 ≡ get_or (noted_below words w first n k) i 0
    unfolding noted_below
    other_stays =
        other_kept (noted_below words w first n k) k (word_at_address words (address_at w.addresses k)) (is_noted w.addresses w.uses first n k)

  module _ (i : ℕ) where
    below_at : (k : ℕ) → i < k → i < length w.values → is_noted w.addresses w.uses first n i ≡ true
        → get_or (noted_below words w first n k) i 0 ≡ word_at_address words (address_at w.addresses i)
    below_at zero below inside is = absurd (omega arith)
    below_at (suc k) below inside is =
        ⊎_elim
        (λ same. rw (← same) (next_at i inside is))
        (λ before. other_stays k i (omega (arith, before)) ∙ below_at k before inside is)
        (last_or_before i k below)

    below_stays : (k : ℕ) → is_noted w.addresses w.uses first n i ≡ false → get_or (noted_below words w first n k) i 0 ≡ get_or w.values i 0
    unfolding noted_below
    below_stays zero is = refl
    below_stays (suc k) is =
        ⊎_elim
        (λ same. ap (λ (values : List ℕ). get_or values i 0) (next_stays k (rw same at is)))
        (λ other. other_stays k i other)
        (one_or_two i k)
        ∙ below_stays k is

    pub noted_at : i < entry_count w → i < length w.values → is_noted w.addresses w.uses first n i ≡ true
        → get_or (noted words w first n) i 0 ≡ word_at_address words (address_at w.addresses i)
    unfolding noted
    noted_at = below_at (entry_count w)

    pub unnoted_stays : is_noted w.addresses w.uses first n i ≡ false → get_or (noted words w first n) i 0 ≡ get_or w.values i 0
    unfolding noted
    unnoted_stays = below_stays (entry_count w)
