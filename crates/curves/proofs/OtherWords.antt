-- Only the named channels' words change, and "words past its count stay".
use mathlib.Core.Path.{◌≡◌, refl, sym, ap, ◌∙◌}
use mathlib.Core.Logic.{◌⊎◌, ⊎_elim}
use mathlib.Core.Bool.{Bool, true, false, cond, not}
use mathlib.Core.List.{List, ◌++◌}
use Prim.Native.Nat.{ℕ, ◌+◌, ◌*◌, ◌≤◌, ◌<◌}
use borrow.Author.Tests.{ne_eqb}
use lib.ListN.{length, get_or, take, drop}
use lib.Seq.{get_or-take, get_or-drop}
use Rattle.wire.specs.Room.{Laid}
use Rattle.wire.proofs.Over.{right_false}
use Rattle.wire.proofs.Truths.{never}
use Rattle.curves.specs.declared.Counts.{Counts}
use Rattle.curves.specs.Area.{channel_count, channel_words, curve_words, count_of, part_of, latest, draws}
use Rattle.curves.specs.Rounds.{named, mode_of, numbers_for, wrong_rounds}
use Rattle.curves.specs.Adding.{added}
use Rattle.curves.specs.Inner.{kept_in}
use Rattle.curves.proofs.Moving.{over_behind}
use Rattle.curves.proofs.OneChannel.{channel_of, channel_after, channel_added_lem}

-- a word of a channel's part
word_of : (area : List ℕ) (n i : ℕ) → i < channel_words → get_or (part_of n area) i 0 ≡ get_or area (channel_words * n + i) 0
unfolding part_of
word_of area n i few = get_or-take channel_words (drop (channel_words * n) area) i 0 few ∙ get_or-drop (channel_words * n) area i 0

-- a refused one leaves all as it stood
pub added_refused : (counts : Counts) (content area : List ℕ) → wrong_rounds content ≡ true → added counts content area ≡ draws counts area
unfolding added
added_refused counts content area bad = rw bad

-- and so does an area of the wrong length
pub added_wrong_area : (counts : Counts) (content area : List ℕ) → (length area ≡ curve_words → ⊥) → added counts content area ≡ draws counts area
unfolding added
added_wrong_area counts content area other = rw (ne_eqb (length area) curve_words other, right_false (not (wrong_rounds content)) false refl)

module _ (counts : Counts) (content area : List ℕ) (whole : length area ≡ curve_words) (long : length counts.each ≡ channel_count) (n : ℕ) (inside : n < channel_count) where
  pub words_stay : (i : ℕ) → i < channel_words → (named (mode_of content) n ≡ false) ⊎ (count_of (added counts content area).counts n ≤ i)
      → get_or (added counts content area).area (channel_words * n + i) 0 ≡ get_or area (channel_words * n + i) 0
  unfolding channel_after channel_of kept_in
  words_stay i few past = refused (wrong_rounds content) refl
    where
      part_stays : (b : Bool) → named (mode_of content) n ≡ b
          → channel_of n (added counts content area)
          ≡ cond b (kept_in (part_of n area) (take (count_of counts n) (part_of n area) ++ numbers_for content n)) (channel_of n (draws counts area))
          → get_or (part_of n (added counts content area).area) i 0 ≡ get_or (part_of n area) i 0
      part_stays false is e = ap (λ (l : Laid). get_or l.room i 0) e
      part_stays true is e =
          let numbers = latest (take (count_of counts n) (part_of n area) ++ numbers_for content n) in
          let count : count_of (added counts content area).counts n ≡ length numbers = ap (λ (l : Laid). l.count) e in
          ap (λ (l : Laid). get_or l.room i 0) e
          ∙ over_behind numbers (part_of n area) i (⊎_elim (λ not. never (cc)) (λ past. rw (← count) past) past)

      refused : (b : Bool) → wrong_rounds content ≡ b → get_or (added counts content area).area (channel_words * n + i) 0 ≡ get_or area (channel_words * n + i) 0
      refused true bad = rw (added_refused counts content area bad)
      refused false good =
          sym (word_of (added counts content area).area n i few)
          ∙ part_stays (named (mode_of content) n) refl (channel_added_lem content counts area good long whole n inside)
          ∙ word_of area n i few

  pub count_stays : named (mode_of content) n ≡ false → count_of (added counts content area).counts n ≡ count_of counts n
  unfolding channel_after channel_of
  count_stays not = refused (wrong_rounds content) refl
    where
      refused : (b : Bool) → wrong_rounds content ≡ b → count_of (added counts content area).counts n ≡ count_of counts n
      refused true bad = rw (added_refused counts content area bad)
      refused false good = rw not at (ap (λ (l : Laid). l.count) (channel_added_lem content counts area good long whole n inside))
