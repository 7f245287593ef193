-- No count passes 1,024, and no word of the area 16 bits.
use mathlib.Core.Bool.{Bool, true, false, cond, not, ◌&&◌}
use mathlib.Core.List.{List, [], ◌++◌}
use Prim.Native.Nat.{ℕ, zero, suc, ◌-◌, ◌*◌, ◌≤◌, ◌<◌}
use native.Mathlib.Omega.{arith}
use lib.Dec.{eqb, leb}
use lib.ListN.{length, get_or, set, take, drop}
use Rattle.wire.specs.Bytes.{Bytes}
use Rattle.words.proofs.Carried.{words_of_16_bit}
use Rattle.curves.specs.declared.Counts.{Counts}
use Rattle.curves.specs.Area.{channel_count, channel_words, curve_words, counting, no_counts, count_of, part_of, held_by, latest, Drawn, draws, on_channel}
use Rattle.curves.specs.Rounds.{named, mode_of, round_size, place_of, rounds_of, numbers_of, of_rounds, numbers_for, wrong_rounds}
use Rattle.curves.specs.Adding.{added_to, added_from, added}
use Rattle.curves.specs.Clearing.{cleared}
use Rattle.curves.proofs.Latest.{latest_few}
use Rattle.curves.proofs.ByHistory.{count_none}
use Rattle.wire.proofs.Below.{Below, below_take, below_drop, below_append, below_set, below_laid, word_some, byte_some}

-- what holds of the counts and the area, and is left so by every channel, is left so by all
module _ (P : Drawn → Type 0) (content : List ℕ) (keeps : (n : ℕ) (d : Drawn) → P d → P (on_channel n (numbers_for content n) d)) where
  kept_from : (n left : ℕ) (d : Drawn) → P d → P (added_from content n left d)
  unfolding added_from added_to
  kept_from n zero d is = is
  kept_from n (suc left) d is = kept_from (suc n) left (added_to content n d) (go (named (mode_of content) n))
    where
      go : (b : Bool) → P (cond b (on_channel n (numbers_for content n) d) d)
      go true = keeps n d is
      go false = is

  kept_added : (counts : Counts) (area : List ℕ) → P (draws counts area) → P (added counts content area)
  unfolding added
  kept_added counts area is = go (not (wrong_rounds content) && eqb (length area) curve_words)
    where
      go : (b : Bool) → P (cond b (added_from content 0 channel_count (draws counts area)) (draws counts area))
      go true = kept_from 0 channel_count (draws counts area) is
      go false = is

-- no count passes 1,024
abbrev pub Few : Counts → Type 0
Few counts = (n : ℕ) → count_of counts n ≤ channel_words

few_set : (each : List ℕ) (k v : ℕ) → Few (counting each) → v ≤ channel_words → Few (counting (set each k v))
unfolding count_of
few_set each k v are is n = omega (arith, below_set 1025 (omega arith) each k v (λ i. omega (arith, are i)) (omega arith) n)

pub few_added : (counts : Counts) (content area : List ℕ) → Few counts → Few (added counts content area).counts
few_added counts content area = kept_added (λ d. Few d.counts) content on counts area
  where
    on : (n : ℕ) (d : Drawn) → Few d.counts → Few (on_channel n (numbers_for content n) d).counts
    on n d are =
        unfold on_channel in
        few_set d.counts.each n _ are (latest_few (held_by d.counts n d.area ++ numbers_for content n))

pub few_none : Few no_counts
few_none n = omega (arith, count_none n)

pub few_cleared : (value : ℕ) (counts : Counts) → Few counts → Few (cleared value counts)
unfolding cleared
few_cleared value counts are = go (eqb value 0x55) (leb 0x56 value && leb value 0x5D)
  where
    go : (all one : Bool) → Few (cond all no_counts (cond one (counting (set counts.each (value - 0x56) 0)) counts))
    go true one = few_none
    go false true = few_set counts.each (value - 0x56) 0 are (omega arith)
    go false false = are

rounds_small : (size place rounds : ℕ) (numbers : List ℕ) → Below 65536 numbers → Below 65536 (of_rounds size place rounds numbers)
unfolding of_rounds
rounds_small size place zero numbers are i = word_some
rounds_small size place (suc rounds) numbers are zero = are place
rounds_small size place (suc rounds) numbers are (suc i) = rounds_small size place rounds (drop size numbers) (below_drop 65536 word_some size numbers are) i

pub numbers_small : (content : List ℕ) (n : ℕ) → Bytes content → (i : ℕ) → get_or (numbers_for content n) i 0 < 65536
unfolding numbers_for
numbers_small content n are = go (named (mode_of content) n)
  where
    go : (b : Bool) → Below 65536 (cond b (of_rounds (round_size (mode_of content)) (place_of (mode_of content) n) (rounds_of content) (numbers_of content)) [])
    go true = rounds_small _ _ _ (numbers_of content) (words_of_16_bit (drop 1 content) (below_drop 256 byte_some 1 content are))
    go false = λ i. word_some

pub area_small : (counts : Counts) (content area : List ℕ) → Bytes content → ((k : ℕ) → get_or area k 0 < 65536)
    → (k : ℕ) → get_or (added counts content area).area k 0 < 65536
area_small counts content area are = kept_added (λ d. Below 65536 d.area) content on counts area
  where
    on : (n : ℕ) (d : Drawn) → Below 65536 d.area → Below 65536 (on_channel n (numbers_for content n) d).area
    on n d small =
        unfold on_channel held_by part_of latest in
        let from = drop (channel_words * n) d.area in
        let held = take (count_of d.counts n) (take channel_words from) in
        let here : Below 65536 held =
        below_take 65536 word_some (count_of d.counts n) (take channel_words from)
        (below_take 65536 word_some channel_words from (below_drop 65536 word_some (channel_words * n) d.area small)) in
        let all = held ++ numbers_for content n in
        below_laid 65536 word_some (channel_words * n) (drop (length all - channel_words) all) d.area
        (below_drop 65536 word_some (length all - channel_words) all (below_append 65536 word_some held (numbers_for content n) here (numbers_small content n are)))
        small
