-- Neither adding nor clearing changes how long the area and the counts are.
use mathlib.Core.Path.{◌≡◌, refl, sym, ◌∙◌}
use mathlib.Core.Bool.{Bool, true, false, cond, not, ◌&&◌}
use mathlib.Core.List.{List, ◌++◌}
use Prim.Native.Nat.{ℕ, zero, suc, ◌+◌, ◌-◌, ◌*◌, ◌≤◌, ◌<◌}
use native.Mathlib.Omega.{arith}
use borrow.Author.Tests.{eqb-true}
use lib.Dec.{eqb, leb}
use lib.ListN.{length, set, length-set}
use Rattle.wire.proofs.LaidAt.{length_laid_at}
use Rattle.wire.proofs.Truths.{and_right}
use Rattle.curves.specs.declared.Counts.{Counts}
use Rattle.curves.specs.Area.{channel_count, channel_words, curve_words, counting, no_counts, held_by, latest, Drawn, draws, on_channel}
use Rattle.curves.specs.Rounds.{named, mode_of, numbers_for, wrong_rounds}
use Rattle.curves.specs.Adding.{added_to, added_from, added}
use Rattle.curves.specs.Clearing.{cleared}
use Rattle.curves.proofs.Latest.{latest_few}

-- the latest numbers of a channel lie inside the area
pub channel_fits : (d : Drawn) (n : ℕ) (new : List ℕ) → length d.area ≡ curve_words → n < channel_count
    → channel_words * n + length (latest (held_by d.counts n d.area ++ new)) ≤ length d.area
channel_fits d n new whole inside = omega (arith, latest_few (held_by d.counts n d.area ++ new))

module _ (content : List ℕ) where
  pub length_to : (d : Drawn) (n : ℕ) → length d.area ≡ curve_words → n < channel_count → length (added_to content n d).area ≡ length d.area
  unfolding added_to on_channel
  length_to d n whole inside = go (named (mode_of content) n)
    where
      numbers : List ℕ
      numbers = latest (held_by d.counts n d.area ++ numbers_for content n)

      go : (b : Bool) → length (cond b (on_channel n (numbers_for content n) d) d).area ≡ length d.area
      go true = length_laid_at d.area numbers (channel_words * n) (channel_fits d n (numbers_for content n) whole inside)
      go false = refl

  pub counts_to : (d : Drawn) (n : ℕ) → length (added_to content n d).counts.each ≡ length d.counts.each
  unfolding added_to on_channel
  counts_to d n = go (named (mode_of content) n)
    where
      go : (b : Bool) → length (cond b (on_channel n (numbers_for content n) d) d).counts.each ≡ length d.counts.each
      go true = length-set d.counts.each n (length (latest (held_by d.counts n d.area ++ numbers_for content n)))
      go false = refl

  length_from : (n left : ℕ) (d : Drawn) → length d.area ≡ curve_words → n + left ≤ channel_count → length (added_from content n left d).area ≡ length d.area
  unfolding added_from
  length_from n zero d whole inside = refl
  length_from n (suc left) d whole inside =
      let same = length_to d n whole (omega arith) in
      length_from (suc n) left (added_to content n d) (same ∙ whole) (omega arith) ∙ same

  counts_from : (n left : ℕ) (d : Drawn) → length (added_from content n left d).counts.each ≡ length d.counts.each
  unfolding added_from
  counts_from n zero d = refl
  counts_from n (suc left) d = counts_from (suc n) left (added_to content n d) ∙ counts_to d n

  module _ (counts : Counts) (area : List ℕ) where
    pub length_added : length (added counts content area).area ≡ length area
    unfolding added
    length_added = go (not (wrong_rounds content) && eqb (length area) curve_words) refl
      where
        go : (b : Bool) → (not (wrong_rounds content) && eqb (length area) curve_words) ≡ b
            → length (cond b (added_from content 0 channel_count (draws counts area)) (draws counts area)).area ≡ length area
        go true is =
            length_from 0 channel_count (draws counts area)
            (eqb-true (length area) curve_words (and_right (not (wrong_rounds content)) (eqb (length area) curve_words) is)) (omega arith)
        go false is = refl

    pub length_added_counts : length (added counts content area).counts.each ≡ length counts.each
    unfolding added
    length_added_counts = go (not (wrong_rounds content) && eqb (length area) curve_words)
      where
        go : (b : Bool) → length (cond b (added_from content 0 channel_count (draws counts area)) (draws counts area)).counts.each ≡ length counts.each
        go true = counts_from 0 channel_count (draws counts area)
        go false = refl

pub length_none : length no_counts.each ≡ channel_count
unfolding no_counts
length_none = refl

pub length_cleared : (value : ℕ) (counts : Counts) → length counts.each ≡ channel_count → length (cleared value counts).each ≡ length counts.each
unfolding cleared
length_cleared value counts long = go (eqb value 0x55) (leb 0x56 value && leb value 0x5D)
  where
    go : (all one : Bool) → length (cond all no_counts (cond one (counting (set counts.each (value - 0x56) 0)) counts)).each ≡ length counts.each
    go true one = length_none ∙ sym long
    go false true = length-set counts.each (value - 0x56) 0
    go false false = refl
