-- What the program keeps for the panel from one call to the next, and lends it again at each. A further lent slice is a further field.
use Rattle.std.specs.Prelude.{ℕ, ◌≡◌, List, length, replicate}
use Rattle.wire.specs.Addresses.{word_count}
use Rattle.curves.specs.Area.{curve_words}
use Rattle.watch.specs.Watched.{none_watched}
use Rattle.commands.specs.Lent.{Lent, lending}

-- what is kept for the panel
pub record Memory : Type 0 where
  -- "28,672 variable words .., lent by the caller as 16-bit numbers"
  pub words : List ℕ
  -- 02, §2: "8,192 lent by the caller", the curve area
  pub curves : List ℕ

-- builds one
abbrev pub remembering : (words curves : List ℕ) → Memory
remembering words curves = record { words = words; curves = curves }

-- what a call of the panel is lent out of it, with a room for its reply; 02, §4: "the trace lends no entries"
abbrev pub lent_from : Memory → (room : List ℕ) → Lent
lent_from memory room = lending memory.words memory.curves room none_watched

-- the memory as that call leaves it
abbrev pub memory_of : Lent → Memory
memory_of lent = remembering lent.words lent.curves

-- "The words begin as 0." The curve area does so too
unfoldable pub new_memory : Memory
new_memory = remembering (replicate word_count 0) (replicate curve_words 0)

-- all of it is there: "28,672 variable words", and 02, §2, "8,192 lent by the caller"
pub record Whole (memory : Memory) : Type 0 where
  pub words : length memory.words ≡ word_count
  pub curves : length memory.curves ≡ curve_words
