-- No public promise cites this file: what the private functions of this crate answer and leave, and what the private type of the numbers behind a mode byte has.
use Rattle.std.specs.Prelude.{ℕ, List, length}
use Rattle.wire.specs.Room.{over, Laid, lays}
use Rattle.words.specs.Words.{words_of}
use Rattle.curves.specs.declared.Numbers.{Numbers}
use Rattle.curves.specs.Area.{latest}
use Rattle.curves.specs.Rounds.{of_rounds}

-- the latest of these numbers over the front of a channel's part, and how many they are
unfoldable pub kept_in : (part numbers : List ℕ) → Laid
kept_in part numbers = lays (length (latest numbers)) (over (latest numbers) part)

-- "16-bit numbers in rounds": the numbers at one place of each round
abbrev pub column : Numbers → (place : ℕ) → List ℕ
column numbers place = of_rounds numbers.size place numbers.rounds (words_of numbers.bytes.now)
