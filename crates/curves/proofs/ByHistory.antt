-- 02, §2: "Demand 2 covers channels by the whole history since the last clear, or the start where there was none": how adding and clearing go on with it.
use mathlib.Core.Path.{◌≡◌, refl, ap, ◌∙◌}
use mathlib.Core.Bool.{Bool, true, false, cond, ◌&&◌, ◌||◌}
use mathlib.Core.List.{List, [], ◌++◌, append-nil}
use Prim.Native.Nat.{ℕ, zero, suc, ◌+◌, ◌-◌, ◌≤◌, ◌<◌}
use native.Mathlib.Omega.{arith}
use borrow.Author.Tests.{eqb-true, eqb-false, le-leb, leb-true}
use lib.Dec.{eqb, leb}
use lib.ListN.{length, get_or, set, take, replicate}
use lib.Seq.{get_or-set_same, get_or-set_other}
use Rattle.wire.specs.Room.{Laid}
use Rattle.wire.proofs.Over.{take_over}
use Rattle.wire.proofs.Truths.{never, and_left, or_left, or_right}
use Rattle.curves.specs.declared.Counts.{Counts}
use Rattle.curves.specs.Area.{channel_count, curve_words, counting, no_counts, count_of, part_of, held_by, latest, draws}
use Rattle.curves.specs.Rounds.{named, mode_of, numbers_for, wrong_rounds}
use Rattle.curves.specs.Adding.{added}
use Rattle.curves.specs.Clearing.{cleared, clears}
use Rattle.curves.specs.History.{Holds}
use Rattle.curves.specs.Inner.{kept_in}
use Rattle.curves.proofs.Latest.{latest_latest}
use Rattle.curves.proofs.OneChannel.{channel_of, channel_after, channel_added_lem}

-- a channel without numbers
holds_nothing : (counts : Counts) (area : List ℕ) (n : ℕ) → count_of counts n ≡ 0 → Holds counts area n []
unfolding held_by latest
holds_nothing counts area n none = record { count = none; held = rw none }

zeros : (k n : ℕ) → ◌≡◌ {A = ℕ} (get_or (replicate k 0) n 0) 0
zeros zero n = refl
zeros (suc k) zero = refl
zeros (suc k) (suc n) = zeros k n

pub count_none : (n : ℕ) → count_of no_counts n ≡ 0
unfolding count_of no_counts
count_none n = zeros channel_count n

-- "or the start where there was none"
pub holds_none : (area : List ℕ) (n : ℕ) → Holds no_counts area n []
holds_none area n = holds_nothing no_counts area n (count_none n)

-- what a channel has, from how many and its part
holds_by : (counts : Counts) (area : List ℕ) (n : ℕ) (history : List ℕ) (c : Laid) → channel_of n (draws counts area) ≡ c
    → c.count ≡ length (latest history) → take c.count c.room ≡ latest history → Holds counts area n history
unfolding channel_of held_by
holds_by counts area n history c is count held = record { count = ap (λ (l : Laid). l.count) is ∙ count; held = ap (λ (l : Laid). take l.count l.room) is ∙ held }

module _ (content : List ℕ) (counts : Counts) (area : List ℕ) (n : ℕ) (history : List ℕ) where
  -- an 0x84 that is not refused goes on with every channel's history
  pub holds_added : length area ≡ curve_words → length counts.each ≡ channel_count → n < channel_count → wrong_rounds content ≡ false
      → Holds counts area n history
      → Holds (added counts content area).counts (added counts content area).area n (history ++ numbers_for content n)
  unfolding channel_after channel_of held_by numbers_for kept_in
  holds_added whole long inside good before =
      go (named (mode_of content) n) refl (channel_added_lem content counts area good long whole n inside)
    where
      next : List ℕ
      next = numbers_for content n

      go : (b : Bool) → named (mode_of content) n ≡ b
          → channel_of n (added counts content area) ≡ cond b (kept_in (part_of n area) (take (count_of counts n) (part_of n area) ++ next)) (channel_of n (draws counts area))
          → Holds (added counts content area).counts (added counts content area).area n (history ++ next)
      go true is e =
          let same : latest (take (count_of counts n) (part_of n area) ++ next) ≡ latest (history ++ next) = rw before.held (latest_latest history next) in
          holds_by (added counts content area).counts (added counts content area).area n (history ++ next) _ e
          (ap length same) (take_over (latest (take (count_of counts n) (part_of n area) ++ next)) (part_of n area) _ refl ∙ same)
      go false is e =
          let none : history ++ next ≡ history = rw is (append-nil history) in
          rw none (holds_by (added counts content area).counts (added counts content area).area n history _ e before.count before.held)

module _ (value : ℕ) (counts : Counts) (area : List ℕ) (n : ℕ) where
  -- "clears": the history begins anew
  pub holds_cleared : clears value n ≡ true → length counts.each ≡ channel_count → n < channel_count → Holds (cleared value counts) area n []
  unfolding clears cleared
  holds_cleared is long inside = go (eqb value 0x55) is
    where
      go : (all : Bool) → (all || eqb value (0x56 + n)) ≡ true
          → Holds (cond all no_counts (cond (leb 0x56 value && leb value 0x5D) (counting (set counts.each (value - 0x56) 0)) counts)) area n []
      go true is = holds_none area n
      go false is =
          let at : value ≡ 0x56 + n = eqb-true value (0x56 + n) is in
          let place : value - 0x56 ≡ n = omega arith in
          rw (le-leb 0x56 value (omega arith), le-leb value 0x5D (omega arith), place)
          (holds_nothing (counting (set counts.each n 0)) area n (unfold count_of in get_or-set_same counts.each n 0 0 (omega arith)))

  -- what is cleared elsewhere leaves its count
  pub count_left : clears value n ≡ false → count_of (cleared value counts) n ≡ count_of counts n
  unfolding clears cleared count_of
  count_left is = go (eqb value 0x55) (leb 0x56 value && leb value 0x5D) refl (or_left (eqb value 0x55) (eqb value (0x56 + n)) is)
    where
      go : (all one : Bool) → (leb 0x56 value && leb value 0x5D) ≡ one → all ≡ false
          → count_of (cond all no_counts (cond one (counting (set counts.each (value - 0x56) 0)) counts)) n ≡ count_of counts n
      go true one in_one not-all = never (cc)
      go false false in_one not-all = refl
      go false true in_one not-all =
          let other : value ≡ 0x56 + n → ⊥ = eqb-false value (0x56 + n) (or_right (eqb value 0x55) (eqb value (0x56 + n)) is) in
          let low : 0x56 ≤ value = leb-true 0x56 value (and_left (leb 0x56 value) (leb value 0x5D) in_one) in
          get_or-set_other counts.each (value - 0x56) n 0 0 (λ same. other (omega arith))

  -- and what it has
  pub holds_left : (history : List ℕ) → clears value n ≡ false → Holds counts area n history → Holds (cleared value counts) area n history
  unfolding held_by
  holds_left history is before =
      let same = count_left is in
      record { count = same ∙ before.count; held = rw same before.held }
