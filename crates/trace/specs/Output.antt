-- What the trace program prints for an input.
use Rattle.std.specs.Prelude.{Result, Ok, Err}
use Rattle.trace.specs.declared.LentError.{LentError}
use Rattle.std.specs.Prelude.{ℕ, zero, suc, cond, not, ◌&&◌, List, [], ◌∷◌, ◌++◌, eqb, leb, length, replicate}
use Rattle.wire.specs.Numbers.{Said, says, ◌when◌, first_said}
use Rattle.wire.specs.Room.{over}
use Rattle.frame.specs.Frame.{longest_frame}
use Rattle.registers.specs.Touched.{page_of}
use Rattle.panel.specs.declared.Panel.{Panel}
use Rattle.panel.specs.Answers.{StartAnswer}
use Rattle.panel.specs.declared.StartError.TheVariants as start_error
use Rattle.text.specs.declared.Line.TheVariants as line
use Rattle.text.specs.Text.{line_text}
use Rattle.telling.specs.Memory.{new_memory}
use Rattle.telling.specs.Told.{least_text}
use Rattle.items.specs.declared.Stage.{Stage}
use Rattle.items.specs.declared.Stage.TheVariants.{Bare, Ready, Started, Over}
use Rattle.trace.specs.declared.Trace.{Trace}
use Rattle.trace.specs.declared.Ended.{Ended}
use Rattle.trace.specs.declared.LentError.TheVariants.{NotLent}
use Rattle.items.specs.Records.{table_bytes, table_of}
use Rattle.trace.specs.State.{Held, holds, Shown, shows, following, new_trace, waits}
use Rattle.trace.specs.Lines.{refusal_text, wrong_text}
use Rattle.trace.specs.Events.{started_by, took_byte, report_shown}
use Rattle.trace.specs.Steps.{number_of_step}

-- "Reports are asked for after each event until 'nothing'." Each leaves fewer of the at most 258 bytes kept, so 258 are enough.
unfoldable pub all_reports : ℕ → Held → Shown
all_reports zero held = shows held []
all_reports (suc n) held =
    let one = report_shown held in
    cond (waits held.trace) (following one.text (all_reports n one.held)) (shows held [])

-- "at the end `E pppp` the page"; "`X n` instead, where start .. fails"
unfoldable pub end_answered : StartAnswer → Panel → List ℕ
end_answered (Ok tt) panel = line_text (line.End (page_of panel.registers))
end_answered (Err start_error.WrongSetup) panel = refusal_text (Err start_error.WrongSetup)
end_answered (Err start_error.NotRecords) panel = refusal_text (Err start_error.NotRecords)
end_answered (Err (start_error.WrongRecord i)) panel = refusal_text (Err (start_error.WrongRecord i))

-- "Start is made at the first whole event or, without one, at the end of input": the end of an input that may end there
unfoldable pub end_started : Trace → List ℕ → List ℕ
end_started trace table =
    let begun = started_by trace (table_of trace.records table) in
    end_answered begun.answer begun.panel

-- "else 15, as for .. no setup"; and nothing where the program has stopped
unfoldable pub end_at : Stage → Trace → List ℕ → List ℕ
end_at Bare trace table = wrong_text
end_at Ready trace table = end_started trace table
end_at Started trace table = end_started trace table
end_at Over trace table = []

-- "else 15, as for a cut record": what the end of the input prints
unfoldable pub end_text : Trace → List ℕ → List ℕ
end_text trace table = cond (eqb trace.have 0) (end_at trace.stage trace table) wrong_text

-- what the end of the input answers, and the room as it leaves it
pub record Ending : Type 0 where
  pub ended : Ended
  pub room : List ℕ

-- builds one
abbrev pub ends : Ended → List ℕ → Ending
ends ended room = record { ended = ended; room = room }

-- the end of the input, its text over the front of the room; with too little lent nothing is done
unfoldable pub ending : Trace → List ℕ → List ℕ → Ending
ending trace table room =
    let text = end_text trace table in
    cond (leb table_bytes (length table) && leb least_text (length room)) (ends (record { answer = Ok tt; count = length text }) (over text room))
    (ends (record { answer = Err NotLent; count = 0 }) room)

-- "0: done", "14: words lent aren't 28,672 ..": the number of what the end answers, and beside 0 how many bytes of text were written
unfoldable pub end_said : Result Unit LentError → (count : ℕ) → Said
end_said (Ok tt) count = says (number_of_step (Ok tt)) (count ∷ [])
end_said (Err NotLent) count = says (number_of_step (Err NotLent)) []

-- "The first number in order whose condition holds is given", 14 or else 0: of the end of the input
unfoldable pub said_of_end : Trace → List ℕ → List ℕ → Said
said_of_end trace table room =
    first_said ((says 14 [] when not (leb table_bytes (length table) && leb least_text (length room))) ∷ []) (says 0 (length (end_text trace table) ∷ []))

-- "Reports are asked for after each event until 'nothing'."; "at the end `E pppp` the page": the text for what is left of the input. They are asked for after
-- each byte: where no event ends with it, none waits
unfoldable pub input_text : Held → List ℕ → List ℕ
input_text held [] = end_text held.trace held.table
input_text held (b ∷ input) =
    let one = took_byte held b in
    let all = all_reports longest_frame one.held in
    one.text ++ (all.text ++ input_text all.held input)

-- "The words begin as 0.": nothing met yet, and the memory of a new panel
unfoldable pub new_held : Held
new_held = holds new_trace (replicate table_bytes 0) new_memory

-- "The panel program reads standard input": all that is printed for one
unfoldable pub trace_output : List ℕ → List ℕ
trace_output input = input_text new_held input
