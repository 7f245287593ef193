-- What the data of an 0x84 does, seen from one channel: the others do not count.
use mathlib.Core.Path.{◌≡◌, refl, sym, ap, ap₂, ◌∙◌}
use mathlib.Core.Bool.{Bool, true, false, cond}
use mathlib.Core.List.{List, ◌++◌}
use Prim.Native.Nat.{ℕ, zero, suc, ◌+◌, ◌*◌, ◌≤◌, ◌<◌}
use native.Mathlib.Omega.{arith}
use borrow.Author.Tests.{eqb-true, eqb-false, eq-eqb, ltb-true, ltb-false}
use lib.Dec.{eqb, ltb}
use lib.ListN.{length, get_or, take, drop, length-take, length-drop}
use lib.Seq.{ext_get_or, get_or-take, get_or-drop, get_or-set_same, get_or-set_other, drop_at, take_at, length-take-le}
use Rattle.wire.specs.Room.{over, laid_at, Laid, lays}
use Rattle.wire.proofs.LaidAt.{laid_before, laid_behind, length_laid_at}
use Rattle.wire.proofs.Over.{length_over}
use Rattle.curves.specs.declared.Counts.{Counts}
use Rattle.curves.specs.Area.{channel_count, channel_words, curve_words, count_of, part_of, held_by, latest, Drawn, draws, on_channel}
use Rattle.curves.specs.Rounds.{named, mode_of, numbers_for, wrong_rounds}
use Rattle.curves.specs.Adding.{added_to, added_from, added}
use Rattle.curves.specs.Inner.{kept_in}
use Rattle.curves.proofs.Latest.{latest_few}
use Rattle.curves.proofs.InArea.{laid_part}
use Rattle.curves.proofs.Lengths.{channel_fits, length_to, counts_to}

-- a channel: how many numbers it has, and its part of the area
unfoldable pub channel_of : ℕ → Drawn → Laid
channel_of n d = lays (count_of d.counts n) (part_of n d.area)

-- what the data makes of it
unfoldable pub channel_after : (content : List ℕ) → ℕ → Laid → Laid
channel_after content n c = cond (named (mode_of content) n) (kept_in c.room (take c.count c.room ++ numbers_for content n)) c

-- eight counts and 8,192 words
pub record Sized (d : Drawn) : Type 0 where
  pub counts : length d.counts.each ≡ channel_count
  pub area : length d.area ≡ curve_words

same_part : (a b : List ℕ) (n : ℕ) → length a ≡ length b
    → ((i : ℕ) → i < channel_words → get_or a (channel_words * n + i) 0 ≡ get_or b (channel_words * n + i) 0) → part_of n a ≡ part_of n b
unfolding part_of
same_part a b n long same =
    let from = channel_words * n in
    ext_get_or 0 (take channel_words (drop from a)) (take channel_words (drop from b))
    (length-take channel_words (drop from a) ∙ rw (length-drop from a, long, ← length-drop from b) (sym (length-take channel_words (drop from b))))
    (λ i inside.
    let few : i < channel_words = omega (arith, length-take channel_words (drop from a)) in
    get_or-take channel_words (drop from a) i 0 few ∙ get_or-drop from a i 0 ∙ same i few
    ∙ sym (get_or-take channel_words (drop from b) i 0 few ∙ get_or-drop from b i 0))

module _ (d : Drawn) (sized : Sized d) (n : ℕ) (inside : n < channel_count) (new : List ℕ) where
  abbrev numbers : List ℕ
  numbers = latest (held_by d.counts n d.area ++ new)

  fits : channel_words * n + length numbers ≤ length d.area
  fits = channel_fits d n new sized.area inside

  other_words : (m i : ℕ) → (m ≡ n → ⊥) → i < channel_words
      → get_or (laid_at (channel_words * n) numbers d.area) (channel_words * m + i) 0 ≡ get_or d.area (channel_words * m + i) 0
  other_words m i other few = go (ltb m n) refl
    where
      go : (b : Bool) → ltb m n ≡ b → get_or (laid_at (channel_words * n) numbers d.area) (channel_words * m + i) 0 ≡ get_or d.area (channel_words * m + i) 0
      go true is = laid_before d.area numbers (channel_words * n) fits (channel_words * m + i) (omega (arith, ltb-true m n is))
      go false is =
          laid_behind d.area numbers (channel_words * n) fits (channel_words * m + i)
          (omega (arith, ltb-false m n is, latest_few (held_by d.counts n d.area ++ new)))

  other_channel : (m : ℕ) → (m ≡ n → ⊥) → channel_of m (on_channel n new d) ≡ channel_of m d
  unfolding channel_of on_channel count_of
  other_channel m other =
      ap₂ lays (get_or-set_other d.counts.each n m (length numbers) 0 other)
      (same_part (laid_at (channel_words * n) numbers d.area) d.area m (length_laid_at d.area numbers (channel_words * n) fits)
      (λ i few. other_words m i other few))

  own_channel : channel_of n (on_channel n new d) ≡ kept_in (part_of n d.area) (held_by d.counts n d.area ++ new)
  unfolding channel_of on_channel count_of kept_in part_of
  own_channel =
      let from = channel_words * n in
      let part = take channel_words (drop from d.area) in
      let whole : length part ≡ channel_words = length-take-le channel_words (drop from d.area) (simp length-drop (omega (arith, sized.area))) in
      let few : length numbers ≤ channel_words = latest_few (held_by d.counts n d.area ++ new) in
      let long : length (over numbers part) ≡ channel_words = length_over numbers part (omega arith) ∙ whole in
      let put : drop from (laid_at from numbers d.area) ≡ over numbers part ++ drop channel_words (drop from d.area) =
      ap (drop from) (sym (laid_part numbers d.area from channel_words few (omega (arith, sized.area))))
      ∙ drop_at (take from d.area) (over numbers part ++ drop channel_words (drop from d.area)) from (length-take-le from d.area (omega (arith, sized.area))) in
      ap₂ lays (get_or-set_same d.counts.each n (length numbers) 0 (omega (arith, sized.counts)))
      (rw put (take_at (over numbers part) (drop channel_words (drop from d.area)) channel_words long))

module _ (content : List ℕ) where
  module _ (d : Drawn) (sized : Sized d) (n : ℕ) (inside : n < channel_count) where
    sized_to : Sized (added_to content n d)
    sized_to = record { counts = counts_to content d n ∙ sized.counts; area = length_to content d n sized.area inside ∙ sized.area }

    other_to : (m : ℕ) → (m ≡ n → ⊥) → channel_of m (added_to content n d) ≡ channel_of m d
    unfolding added_to
    other_to m other = go (named (mode_of content) n)
      where
        go : (b : Bool) → channel_of m (cond b (on_channel n (numbers_for content n) d) d) ≡ channel_of m d
        go true = other_channel d sized n inside (numbers_for content n) m other
        go false = refl

    own_to : channel_of n (added_to content n d) ≡ channel_after content n (channel_of n d)
    unfolding added_to channel_after channel_of held_by
    own_to = go (named (mode_of content) n)
      where
        go : (b : Bool) → channel_of n (cond b (on_channel n (numbers_for content n) d) d)
            ≡ cond b (kept_in (part_of n d.area) (take (count_of d.counts n) (part_of n d.area) ++ numbers_for content n)) (channel_of n d)
        go true = own_channel d sized n inside (numbers_for content n)
        go false = refl

  -- channels below have been done
  below_from : (n left m : ℕ) (d : Drawn) → n + left ≤ channel_count → m < n → Sized d → channel_of m (added_from content n left d) ≡ channel_of m d
  unfolding added_from
  below_from n zero m d inside below sized = refl
  below_from n (suc left) m d inside below sized =
      below_from (suc n) left m (added_to content n d) (omega arith) (omega arith) (sized_to d sized n (omega arith))
      ∙ other_to d sized n (omega arith) m (λ same. omega arith)

  own_from : (n left m : ℕ) (d : Drawn) → n + left ≤ channel_count → n ≤ m → m < n + left → Sized d
      → channel_of m (added_from content n left d) ≡ channel_after content m (channel_of m d)
  unfolding added_from
  own_from n zero m d inside from below sized = absurd (omega arith)
  own_from n (suc left) m d inside from below sized =
      go (eqb m n) refl
      (below_from (suc n) left m (added_to content n d) (omega arith))
      (own_from (suc n) left m (added_to content n d) (omega arith))
    where
      next : Sized (added_to content n d)
      next = sized_to d sized n (omega arith)

      go : (b : Bool) → eqb m n ≡ b
          → (m < suc n → Sized (added_to content n d) → channel_of m (added_from content (suc n) left (added_to content n d)) ≡ channel_of m (added_to content n d))
          → (suc n ≤ m → m < suc n + left → Sized (added_to content n d)
          → channel_of m (added_from content (suc n) left (added_to content n d)) ≡ channel_after content m (channel_of m (added_to content n d)))
          → channel_of m (added_from content (suc n) left (added_to content n d)) ≡ channel_after content m (channel_of m d)
      go true is here later =
          let same : m ≡ n = eqb-true m n is in
          here (omega arith) next ∙ rw same (own_to d sized n (omega arith))
      go false is here later =
          let other : m ≡ n → ⊥ = eqb-false m n is in
          later (omega arith) (omega arith) next ∙ ap (channel_after content m) (other_to d sized n (omega arith) m other)

  module _ (counts : Counts) (area : List ℕ) (good : wrong_rounds content ≡ false) (long : length counts.each ≡ channel_count) (whole : length area ≡ curve_words) where
    -- each channel by itself, whatever the others are
    pub channel_added_lem : (n : ℕ) → n < channel_count → channel_of n (added counts content area) ≡ channel_after content n (channel_of n (draws counts area))
    unfolding added
    channel_added_lem n inside =
        rw (good, eq-eqb (length area) curve_words whole)
        (own_from 0 channel_count n (draws counts area) (omega arith) (omega arith) (omega arith) (record { counts = long; area = whole }))
