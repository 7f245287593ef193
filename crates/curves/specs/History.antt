-- 02, §2: "Demand 2 covers channels by the whole history since the last clear, or the start where there was none".
use Rattle.std.specs.Prelude.{ℕ, ◌≡◌, List, length}
use Rattle.curves.specs.declared.Counts.{Counts}
use Rattle.curves.specs.Area.{count_of, held_by, latest}

-- a channel "by the whole history since the last clear": it has the latest 1,024 numbers of it, or all where there are fewer, "oldest first"
pub record Holds (counts : Counts) (area : List ℕ) (n : ℕ) (history : List ℕ) : Type 0 where
  pub count : count_of counts n ≡ length (latest history)
  pub held : held_by counts n area ≡ latest history
