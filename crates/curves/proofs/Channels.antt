-- Laws of the loop over all channels.
use mathlib.Core.Path.{◌≡◌, sym, ◌∙◌}
use mathlib.Core.Bool.{true, false}
use mathlib.Core.List.{List, ◌∷◌}
use Prim.Native.Nat.{ℕ, suc, ◌+◌, ◌-◌, ◌/◌, ◌≤◌, ◌<◌}
use native.Mathlib.Omega.{arith}
use lib.ListN.{length}
use Rattle.words.proofs.Carried.{length_words_of}
use Rattle.curves.specs.declared.Numbers.{Numbers}
use Rattle.curves.specs.Area.{channel_count, Drawn, on_channel}
use Rattle.curves.specs.Rounds.{named, place_of, round_size, numbers_for}
use Rattle.curves.specs.Adding.{added_to, added_from}
use Rattle.curves.specs.Inner.{column}

module _ (mode : ℕ) (bytes : List ℕ) (n : ℕ) (before after : Drawn) where
  -- a channel that is named, and one that is not
  pub named_added : (numbers : Numbers) (place : ℕ) → numbers.bytes.now ≡ bytes → numbers.size ≡ round_size mode → numbers.rounds ≡ length bytes / 2 / round_size mode
      → place ≡ place_of mode n → named mode n ≡ true → after ≡ on_channel n (column numbers place) before → after ≡ added_to (mode ∷ bytes) n before
  unfolding added_to numbers_for
  named_added numbers place are is-size is-rounds is-place is e = rw (is, length_words_of bytes) (rw (are, is-size, is-rounds, is-place) at e)

  pub other_added : named mode n ≡ false → after ≡ before → after ≡ added_to (mode ∷ bytes) n before
  unfolding added_to
  other_added is e = rw is e

  -- one channel more
  pub channel_on : (whole : Drawn) → n < channel_count → after ≡ added_to (mode ∷ bytes) n before → whole ≡ added_from (mode ∷ bytes) n (channel_count - n) before
      → whole ≡ added_from (mode ∷ bytes) (n + 1) (channel_count - (n + 1)) after
  unfolding added_from
  channel_on whole more step inv =
      let left : channel_count - n ≡ suc (channel_count - (n + 1)) = omega arith in
      let next : n + 1 ≡ suc n = omega arith in
      inv ∙ rw (left, next, step)

pub channels_done : (mode : ℕ) (bytes : List ℕ) (n : ℕ) (whole before : Drawn) → channel_count ≤ n → whole ≡ added_from (mode ∷ bytes) n (channel_count - n) before → before ≡ whole
unfolding added_from
channels_done mode bytes n whole before all inv =
    let none : channel_count - n ≡ 0 = omega arith in
    sym (inv ∙ rw none)
