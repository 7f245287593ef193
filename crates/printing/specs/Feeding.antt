-- The library called on an input: steps on any front part of what is left, with any room, and the end once nothing is left and no report waits, or no more after an X.
use Rattle.std.specs.Prelude.{Ok}
use Rattle.std.specs.Prelude.{ℕ, zero, suc, ◌+◌, ◌≤◌, ◌≡◌, true, false, cond, ◌||◌, List, [], ◌++◌, leb, length, take, drop}
use Rattle.frame.specs.Frame.{longest_frame}
use Rattle.telling.specs.Told.{least_text}
use Rattle.items.specs.Stages.{is_over}
use Rattle.trace.specs.State.{Held, holds, waits}
use Rattle.trace.specs.Steps.{Stepping, stepping}
use Rattle.trace.specs.Output.{Ending, ending}

-- one call of `step`
abbrev pub step_called : Held → List ℕ → List ℕ → Stepping
step_called held chunk room = stepping held chunk room

-- what is lent again at the next call
abbrev pub held_after : Stepping → Held
held_after s = holds s.stepped.trace s.table s.memory

-- the call of `end`
abbrev pub end_called : Held → List ℕ → Ending
end_called held room = ending held.trace held.table room

-- from what is held and the input that is left, the calls that are done write this text over the fronts of their rooms
pub data Fed : Held → List ℕ → List ℕ → Type 0 where
  by_step : (held : Held) (chunk rest room text : List ℕ) → (step_called held chunk room).stepped.answer ≡ Ok tt
      → Fed (held_after (step_called held chunk room)) (drop (step_called held chunk room).stepped.used chunk ++ rest) text
      → Fed held (chunk ++ rest) (take (step_called held chunk room).stepped.count (step_called held chunk room).room ++ text)
  by_end : (held : Held) (room : List ℕ) → waits held.trace ≡ false → (end_called held room).ended.answer ≡ Ok tt
      → Fed held [] (take (end_called held room).ended.count (end_called held room).room)
  -- "and the program stops": what is left need not be read
  by_stop : (held : Held) (left : List ℕ) → is_over held.trace.stage ≡ true → Fed held left []

-- a caller: how many bytes it hands over behind the first, and the room it lends, whatever is held and left
pub record Caller : Type 0 where
  pub more : Held → List ℕ → ℕ
  pub room : Held → List ℕ → List ℕ
  pub lent : (held : Held) (left : List ℕ) → least_text ≤ length (room held left)

-- calls that are enough for each byte of the input: one that takes it, and one for each byte that may be kept
abbrev pub calls_each : ℕ
calls_each = longest_frame + 1

-- what its calls write, at most n of them: steps while a report waits or input is left, and then the end
unfoldable pub calls : Caller → ℕ → Held → List ℕ → List ℕ
calls caller zero held left = []
calls caller (suc n) held left =
    let room = caller.room held left in
    let s = step_called held (take (suc (caller.more held left)) left) room in
    let e = end_called held room in
    cond (waits held.trace || leb 1 (length left))
    (take s.stepped.count s.room ++ calls caller n (held_after s) (drop s.stepped.used left))
    (take e.ended.count e.room)
