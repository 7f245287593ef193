-- 02, §2: "Add command 0x84": what its data does to the channels.
use Rattle.std.specs.Prelude.{ℕ, zero, suc, cond, not, ◌&&◌, List, eqb, length}
use Rattle.curves.specs.declared.Counts.{Counts}
use Rattle.curves.specs.Area.{channel_count, curve_words, Drawn, draws, on_channel}
use Rattle.curves.specs.Rounds.{named, mode_of, numbers_for, wrong_rounds}

-- "bit n for channel n": a channel that is named has its numbers added; another stays
unfoldable pub added_to : (content : List ℕ) → (n : ℕ) → Drawn → Drawn
added_to content n before = cond (named (mode_of content) n) (on_channel n (numbers_for content n) before) before

-- so many channels, from this one on
unfoldable pub added_from : (content : List ℕ) → (n left : ℕ) → Drawn → Drawn
added_from content n zero before = before
added_from content n (suc left) before = added_from content (suc n) left (added_to content n before)

-- what data that is not refused does to "Each of eight channels"; data that is, or an area of the wrong length, does nothing
unfoldable pub added : Counts → (content area : List ℕ) → Drawn
added counts content area =
    cond (not (wrong_rounds content) && eqb (length area) curve_words) (added_from content 0 channel_count (draws counts area)) (draws counts area)
