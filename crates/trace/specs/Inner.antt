-- No public promise cites this file: what private functions of the code leave, for their contracts. Text is laid over the room that is lent for it.
use Rattle.std.specs.Prelude.{Option, None, Some, Ok, Err}
use Rattle.std.specs.Prelude.{ℕ, ◌+◌, Bool, true, false, cond, not, ◌&&◌, List, [], ◌∷◌, eqb, leb, length, set}
use Rattle.wire.specs.ByteOrder.{byte_at}
use Rattle.wire.specs.Room.{over}
use Rattle.registers.specs.Touched.{page_of}
use Rattle.panel.specs.declared.Panel.{Panel}
use Rattle.panel.specs.Answers.{StartAnswer}
use Rattle.panel.specs.declared.StartError.TheVariants as start_error
use Rattle.text.specs.declared.Line.{Line}
use Rattle.text.specs.declared.Line.TheVariants as line
use Rattle.telling.specs.Memory.{Memory}
use Rattle.telling.specs.declared.PanelPrinted.{PanelPrinted}
use Rattle.telling.specs.Told.{Told}
use Rattle.trace.specs.declared.Trace.{Trace}
use Rattle.trace.specs.declared.TracePrinted.{TracePrinted}
use Rattle.trace.specs.declared.Took.{Took}
use Rattle.trace.specs.declared.AtFront.{AtFront}
use Rattle.trace.specs.declared.AtFront.TheVariants.{Waits, Ran, First}
use Rattle.trace.specs.declared.Found.{Found}
use Rattle.trace.specs.declared.Comes.{Comes}
use Rattle.trace.specs.declared.Comes.TheVariants.{Quiet, Wrong, Met, Happens}
use Rattle.trace.specs.declared.Judged.{Judged}
use Rattle.items.specs.declared.Stage.{Stage}
use Rattle.items.specs.declared.Stage.TheVariants.{Bare, Ready, Started, Over}
use Rattle.items.specs.Items.{no_item, body_length, setup_in}
use Rattle.items.specs.Stages.{is_started, is_over, may_come}
use Rattle.items.specs.Records.{table_of}
use Rattle.items.specs.Runs.{line_run}
use Rattle.trace.specs.State.{holds, Shown, shows, with_panel, with_setup, gathering, idle, waits}
use Rattle.trace.specs.Events.{started_by, took_byte, report_shown}
use Rattle.trace.specs.Steps.{Step, takes, longest_run, ran_bytes}

-- what an event or a report leaves, and its text over the room
pub record EventLeft : Type 0 where
  pub printed : TracePrinted
  pub memory : Memory
  pub room : List ℕ

abbrev pub leaves_event : TracePrinted → Memory → List ℕ → EventLeft
leaves_event printed memory room = record { printed = printed; memory = memory; room = room }

abbrev pub event_printing : Trace → Told → List ℕ → EventLeft
event_printing trace told room =
    leaves_event (record { trace = with_panel trace told.panel; count = length told.text }) told.memory (over told.text room)

-- what a byte of the input leaves, the table included
pub record ByteLeft : Type 0 where
  pub printed : TracePrinted
  pub table : List ℕ
  pub memory : Memory
  pub room : List ℕ

abbrev pub leaves_byte : TracePrinted → List ℕ → Memory → List ℕ → ByteLeft
leaves_byte printed table memory room = record { printed = printed; table = table; memory = memory; room = room }

abbrev pub byte_printing : Shown → List ℕ → ByteLeft
byte_printing shown room =
    leaves_byte (record { trace = shown.held.trace; count = length shown.text }) shown.held.table shown.held.memory (over shown.text room)

-- what a step leaves
pub record StepLeft : Type 0 where
  pub took : Took
  pub table : List ℕ
  pub memory : Memory
  pub room : List ℕ

abbrev pub leaves_step : Took → List ℕ → Memory → List ℕ → StepLeft
leaves_step took table memory room = record { took = took; table = table; memory = memory; room = room }

abbrev pub step_printing : Step → List ℕ → StepLeft
step_printing s room =
    let shown = s.shown in
    leaves_step
    (record { trace = shown.held.trace; used = s.used; count = length shown.text })
    shown.held.table shown.held.memory (over shown.text room)

-- the trace behind what was told of its panel
abbrev pub after_told : Trace → PanelPrinted → TracePrinted
after_told trace done = record { trace = with_panel trace done.panel; count = done.count }

-- what prints nothing
abbrev pub quietly : Trace → TracePrinted
quietly trace = record { trace = trace; count = 0 }

-- ---- The start

-- the record that a start names, 0 where it names none
unfoldable pub named : StartAnswer → ℕ
named (Ok tt) = 0
named (Err start_error.WrongSetup) = 0
named (Err start_error.NotRecords) = 0
named (Err (start_error.WrongRecord i)) = i

-- the last line of a trace whose start is answered so
unfoldable pub last_line : StartAnswer → Panel → Line
last_line (Ok tt) panel = line.End (page_of panel.registers)
last_line (Err start_error.WrongSetup) panel = line.Failed 11
last_line (Err start_error.NotRecords) panel = line.Failed 12
last_line (Err (start_error.WrongRecord i)) panel = line.WrongRecord i

-- what a step took that printed this
abbrev pub taking_so : TracePrinted → (used : ℕ) → Took
taking_so done used = record { trace = done.trace; used = used; count = done.count }

-- ---- What is to be done, found before anything lent is touched

-- line bytes go in a run: the panel is started, and no item is begun
abbrev pub goes_in_runs : Trace → Bool
goes_in_runs trace = is_started trace.stage && eqb trace.have 0

-- what a step finds at the front of the input
abbrev pub finds : AtFront → Trace → Found
finds front trace = record { front = front; trace = trace }

-- a run that took so much of the input
abbrev pub ran_found : (used : ℕ) → Trace → Found
ran_found used trace = finds (Ran used) trace

-- the first byte, if there is one
unfoldable pub first_byte : Trace → List ℕ → Found
first_byte trace [] = ran_found 0 trace
first_byte trace (b ∷ input) = finds (First b) trace

-- a run of line bytes, if there is one, else one byte
unfoldable pub first_lines : Trace → List ℕ → Found
first_lines trace input =
    let bytes = line_run longest_run input in
    let ran = ran_bytes trace bytes in
    cond (eqb (length bytes) 0) (first_byte trace input) (ran_found ran.used ran.trace)

-- a report that waits; else line bytes as a run where they go so, and one byte where they do not
unfoldable pub found : Trace → List ℕ → Found
found trace input = cond (waits trace) (finds Waits trace) (cond (goes_in_runs trace) (first_lines trace input) (first_byte trace input))

-- what a step does with what it finds
unfoldable pub front_step : List ℕ → Memory → AtFront → Trace → Step
front_step table memory Waits next = takes 0 (report_shown (holds next table memory))
front_step table memory (Ran used) next = takes used (shows (holds next table memory) [])
front_step table memory (First b) next = takes 1 (took_byte (holds next table memory) b)

abbrev pub found_step : List ℕ → Memory → Found → Step
found_step table memory f = front_step table memory f.front f.trace

-- what a byte comes to
abbrev pub judges : Comes → Trace → Judged
judges comes trace = record { comes = comes; trace = trace }

-- a byte that prints nothing
abbrev pub quiet_judged : Trace → Judged
quiet_judged trace = judges Quiet trace

-- an item that is whole
unfoldable pub whole_judged : Trace → List ℕ → Judged
whole_judged trace item =
    cond (eqb (byte_at item 0) 0) (quiet_judged (with_setup trace (setup_in item))) (judges (cond (eqb (byte_at item 0) 5) (Met item) (Happens item)) trace)

-- an item that has one byte more
unfoldable pub growing : Trace → List ℕ → Judged
growing trace item = cond (leb (body_length (byte_at item 0)) trace.have) (whole_judged (idle trace) item) (quiet_judged (gathering trace item (trace.have + 1)))

-- one byte of the input
unfoldable pub byte_judged : Trace → ℕ → Judged
byte_judged trace b =
    cond (is_over trace.stage) (quiet_judged trace)
    (cond (eqb trace.have 0 && not (may_come trace.stage b)) (judges Wrong trace) (growing trace (set trace.item trace.have b)))

-- the last line of a trace that had a setup
unfoldable pub page_or_refusal : Trace → List ℕ → Line
page_or_refusal trace table =
    let begun = started_by trace (table_of trace.records table) in
    last_line begun.answer begun.panel

-- the last line by how far the input has come
unfoldable pub last_at : Stage → Trace → List ℕ → Option Line
last_at Bare trace table = Some (line.Failed 15)
last_at Ready trace table = Some (page_or_refusal trace table)
last_at Started trace table = Some (page_or_refusal trace table)
last_at Over trace table = None

-- what the end of the input prints
unfoldable pub last_of : Trace → List ℕ → Option Line
last_of trace table = cond (eqb trace.have 0) (last_at trace.stage trace table) (Some (line.Failed 15))
