-- 02, §2: "Each of eight channels keeps its latest 1,024 numbers, oldest first, channel n from word 1,024n of 8,192 lent by the caller; words past its count
-- stay."
use Rattle.std.specs.Prelude.{ℕ, ◌*◌, ◌-◌, List, ◌++◌, length, get_or, take, drop, set, replicate}
use Rattle.wire.specs.Room.{laid_at}
use Rattle.curves.specs.declared.Counts.{Counts}

-- "eight channels"
abbrev pub channel_count : ℕ
channel_count = 8

-- "its latest 1,024 numbers"
abbrev pub channel_words : ℕ
channel_words = 1024

-- "8,192 lent by the caller"
abbrev pub curve_words : ℕ
curve_words = 8192

-- the counts that these numbers are
abbrev pub counting : List ℕ → Counts
counting each = record { each = each }

-- "or the start where there was none": no channel has a number
unfoldable pub no_counts : Counts
no_counts = counting (replicate channel_count 0)

-- how many numbers a channel has; past the last channel there is none
unfoldable pub count_of : Counts → ℕ → ℕ
count_of counts n = get_or counts.each n 0

-- "channel n from word 1,024n": its part of the area
unfoldable pub part_of : ℕ → List ℕ → List ℕ
part_of n area = take channel_words (drop (channel_words * n) area)

-- the numbers that a channel has, "oldest first": as many words of its part as its count says
unfoldable pub held_by : Counts → ℕ → List ℕ → List ℕ
held_by counts n area = take (count_of counts n) (part_of n area)

-- "keeps its latest 1,024 numbers": of these numbers, the last 1,024, or all where there are fewer
unfoldable pub latest : List ℕ → List ℕ
latest numbers = drop (length numbers - channel_words) numbers

-- the counts, and the area as it is left
pub record Drawn : Type 0 where
  pub counts : Counts
  pub area : List ℕ

-- builds one
abbrev pub draws : Counts → List ℕ → Drawn
draws counts area = record { counts = counts; area = area }

-- a channel with new numbers behind those that it has: it "keeps its latest 1,024 numbers, oldest first, channel n from word 1,024n"; "words past its count stay"
unfoldable pub on_channel : (n : ℕ) → (new : List ℕ) → Drawn → Drawn
on_channel n new before =
    let numbers = latest (held_by before.counts n before.area ++ new) in
    draws (counting (set before.counts.each n (length numbers))) (laid_at (channel_words * n) numbers before.area)
