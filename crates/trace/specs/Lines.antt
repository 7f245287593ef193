-- 01, "The trace program": the line for a start that is refused, and for a wrong trace.
use Rattle.std.specs.Prelude.{Ok, Err}
use Rattle.std.specs.Prelude.{ℕ, List, []}
use Rattle.panel.specs.Answers.{StartAnswer}
use Rattle.panel.specs.declared.StartError.TheVariants as start_error
use Rattle.panel.specs.Numbers.{start_number}
use Rattle.text.specs.declared.Line.TheVariants as line
use Rattle.text.specs.Text.{line_text}

-- "`X n` instead, where start or trace fails, with the record's number from 0 after 13"
unfoldable pub refusal_text : StartAnswer → List ℕ
refusal_text (Ok tt) = []
refusal_text (Err start_error.WrongSetup) = line_text (line.Failed (start_number (Err start_error.WrongSetup)))
refusal_text (Err start_error.NotRecords) = line_text (line.Failed (start_number (Err start_error.NotRecords)))
refusal_text (Err (start_error.WrongRecord i)) = line_text (line.WrongRecord i)

-- "15 trace wrong"
unfoldable pub wrong_text : List ℕ
wrong_text = line_text (line.Failed 15)
