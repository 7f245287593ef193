-- What one step of the library does, on every trace: it hands over one report, or takes a run of line bytes, or takes one byte.
use Rattle.std.specs.Prelude.{Result, Ok, Err}
use Rattle.trace.specs.declared.LentError.{LentError}
use Rattle.std.specs.Prelude.{ℕ, ◌*◌, cond, not, ◌&&◌, List, [], ◌∷◌, eqb, length}
use Rattle.wire.specs.Numbers.{Said, says, ◌when◌, first_said}
use Rattle.wire.specs.Room.{over}
use Rattle.panel.specs.Inputs.{fed_bytes}
use Rattle.items.specs.Runs.{line_run}
use Rattle.telling.specs.Memory.{Memory}
use Rattle.trace.specs.declared.Trace.{Trace}
use Rattle.trace.specs.declared.LentError.TheVariants.{NotLent}
use Rattle.trace.specs.declared.Stepped.{Stepped}
use Rattle.trace.specs.declared.Took.{Took}
use Rattle.items.specs.Stages.{is_started}
use Rattle.trace.specs.State.{Held, Shown, shows, with_panel, with_trace, waits, is_lent}
use Rattle.trace.specs.Events.{took_byte, report_shown}

-- "0: done"; "14: words lent aren't 28,672"; 02, §2: "14 also for a curve area of the wrong length"; and the same number where the table or the room for text
-- is too small, of which neither speaks
unfoldable pub number_of_step : Result Unit LentError → ℕ
number_of_step (Ok tt) = 0
number_of_step (Err NotLent) = 14

-- and what is named beside it: how much of the input was taken, and how many bytes of text were written
unfoldable pub step_said : Result Unit LentError → (used count : ℕ) → Said
step_said (Ok tt) used count = says (number_of_step (Ok tt)) (used ∷ count ∷ [])
step_said (Err NotLent) used count = says (number_of_step (Err NotLent)) []

-- how much of the input a step took, and what it shows
pub record Step : Type 0 where
  pub used : ℕ
  pub shown : Shown

-- builds one
abbrev pub takes : ℕ → Shown → Step
takes used shown = record { used = used; shown = shown }

-- what a run does is told by the panel's own fold
unfoldable pub ran_bytes : Trace → List ℕ → Took
ran_bytes trace bytes =
    let fed = fed_bytes trace.panel bytes in
    record { trace = with_panel trace fed.panel; used = fed.used * 2; count = 0 }

-- the first byte of the input, if there is one
unfoldable pub took_one : Held → List ℕ → Step
took_one held [] = takes 0 (shows held [])
took_one held (b ∷ input) = takes 1 (took_byte held b)

-- the longest run of line bytes that is given to the panel at once
abbrev pub longest_run : ℕ
longest_run = 256

-- a run of line bytes, if there is one, else one byte
unfoldable pub took_lines : Held → List ℕ → Step
took_lines held input =
    let bytes = line_run longest_run input in
    let ran = ran_bytes held.trace bytes in
    cond (eqb (length bytes) 0) (took_one held input) (takes ran.used (shows (with_trace held ran.trace) []))

-- between two items of a panel that is started, line bytes go in a run; all else byte by byte
unfoldable pub took_input : Held → List ℕ → Step
took_input held input = cond (is_started held.trace.stage && eqb held.trace.have 0) (took_lines held input) (took_one held input)

-- "Reports are asked for after each event until 'nothing'."
unfoldable pub step : Held → List ℕ → Step
step held input = cond (waits held.trace) (takes 0 (report_shown held)) (took_input held input)

-- what a call answers, and what is lent as it leaves it
pub record Stepping : Type 0 where
  pub stepped : Stepped
  pub table : List ℕ
  pub memory : Memory
  pub room : List ℕ

-- builds one
abbrev pub steps : Stepped → List ℕ → Memory → List ℕ → Stepping
steps stepped table memory room = record { stepped = stepped; table = table; memory = memory; room = room }

-- what a step leaves, with its text over the front of the room
abbrev pub step_done : Step → List ℕ → Stepping
step_done s room =
    let shown = s.shown in
    steps
    (record { answer = Ok tt; used = s.used; count = length shown.text; trace = shown.held.trace })
    shown.held.table shown.held.memory (over shown.text room)

-- "otherwise a refusal changes nothing"
unfoldable pub stepping : Held → List ℕ → List ℕ → Stepping
stepping held input room =
    cond (is_lent held room) (step_done (step held input) room)
    (steps (record { answer = Err NotLent; used = 0; count = 0; trace = held.trace }) held.table held.memory room)

-- "14: words lent aren't 28,672, or reply .. room below 265"; 02, §2: "14 also for a curve area of the wrong length"; the table and the lines of a report are
-- lent here too
unfoldable pub said_of_step : Held → List ℕ → List ℕ → Said
said_of_step held input room =
    let s = step held input in
    first_said ((says 14 [] when not (is_lent held room)) ∷ []) (says 0 (s.used ∷ length s.shown.text ∷ []))
