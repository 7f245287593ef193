-- What bench/line adds up: the reports that 01's reading gives for the bytes.
use Rattle.std.specs.Prelude.{ℕ, ◌+◌, ◌%◌, ◌^◌, Bool, false, List, [], ◌∷◌, length, slice_index}
use Rattle.frame.specs.declared.Header.{Header}
use Rattle.reading.specs.Place.{Report, bad_check, accepted_frame}
use Rattle.reading.specs.Stretch.{reports}
use Rattle.place.specs.Looks.{rules_of}

-- "report a bad check with the command byte"; "report an accepted frame with its command and data": of an accepted frame 65,536, the command, how
-- much data there is and its first byte, 0 without data
unfoldable pub weight_of : Report → ℕ
weight_of (bad_check command) = command
weight_of (accepted_frame command content) = 65536 + command + length content + slice_index content 0

-- what all these reports add
unfoldable pub sum_of : List Report → ℕ
sum_of [] = 0
sum_of (report ∷ later) = weight_of report + sum_of later

-- what 64 bits hold of a number
abbrev pub wrapped : ℕ → ℕ
wrapped n = n % 2 ^ 64

-- "The reports asked for, in order, are those of the reading of all that was given": these bytes, in a stretch that is open
unfoldable pub bench_sum : Header → (checking : Bool) → (bytes : List ℕ) → ℕ
bench_sum header checking bytes = wrapped (sum_of (reports (rules_of header checking) false bytes))
