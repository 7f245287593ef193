-- 01, "The trace program": the lines for a report.
use Rattle.std.specs.Prelude.{None, Some, Ok, Err}
use Rattle.std.specs.Prelude.{ℕ, List, [], ◌++◌, take, drop}
use Rattle.commands.specs.Outcome as Outcome
use Rattle.panel.specs.Answers.{AskAnswer}
use Rattle.panel.specs.declared.Handed.TheVariants as handed
use Rattle.panel.specs.declared.LentError.TheVariants as lent_error
use Rattle.text.specs.declared.Line.TheVariants as line
use Rattle.text.specs.Text.{line_text, written_text}

-- "`O` and one frame written, an acknowledgement on a line of its own before the reply"
unfoldable pub frames_text : (acknowledged replied : ℕ) → List ℕ → List ℕ
frames_text acknowledged replied room = written_text (take acknowledged room) ++ written_text (take replied (drop acknowledged room))

-- "`F cc r` accepted command and number; `B cc` bad check"; "F or B precedes O". "Nothing" has no line, nor has an ask that is refused.
unfoldable pub report_text : AskAnswer → List ℕ → List ℕ
report_text (Err lent_error.NotLent) room = []
report_text (Err lent_error.WrongList) room = []
report_text (Ok None) room = []
report_text (Ok (Some (handed.BadCheck command acknowledged))) room = line_text (line.BadCheck command) ++ frames_text acknowledged 0 room
report_text (Ok (Some (handed.Accepted command count outcome acknowledged replied))) room =
    line_text (line.Frame command (Outcome.number_of_outcome outcome)) ++ frames_text acknowledged replied room
