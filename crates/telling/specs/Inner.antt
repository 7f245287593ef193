-- No public promise cites this file: what private functions of the code write and how much of it, for their contracts; no rule of 01 stands here.
use Rattle.std.specs.Prelude.{None, Some, Ok, Err}
use Rattle.std.specs.Prelude.{ℕ, ◌+◌, ◌*◌, List, length}
use Rattle.wire.specs.Room.{over, Laid, lays}
use Rattle.frame.specs.Frame.{longest_frame}
use Rattle.panel.specs.Answers.{AskAnswer}
use Rattle.panel.specs.declared.Handed.TheVariants as handed
use Rattle.panel.specs.declared.Panel.{Panel}
use Rattle.telling.specs.declared.PanelPrinted.{PanelPrinted}
use Rattle.panel.specs.declared.LentError.TheVariants as lent_error

-- text laid over the front of a room, and its length
abbrev pub prints : List ℕ → List ℕ → Laid
prints text room = lays (length text) (over text room)

-- an event that has no line
abbrev pub quietly : Panel → PanelPrinted
quietly panel = record { panel = panel; count = 0 }

-- ---- How long it is at most

-- an acknowledgement
abbrev pub acknowledgement_bytes : ℕ
acknowledgement_bytes = 7

-- a line, other than that of a frame written
abbrev pub longest_line : ℕ
longest_line = 10

-- the line of a frame of n bytes: the letter, a blank and two digits for each byte, the line feed
abbrev pub written_bytes : ℕ → ℕ
written_bytes n = 2 + 3 * n

-- the lines of an acknowledgement and a reply
abbrev pub frames_bytes : ℕ
frames_bytes = written_bytes acknowledgement_bytes + written_bytes longest_frame

-- how long an acknowledgement and a reply were written
unfoldable pub acknowledged_by : AskAnswer → ℕ
acknowledged_by (Err lent_error.NotLent) = 0
acknowledged_by (Err lent_error.WrongList) = 0
acknowledged_by (Ok None) = 0
acknowledged_by (Ok (Some (handed.BadCheck command acknowledged))) = acknowledged
acknowledged_by (Ok (Some (handed.Accepted command count outcome acknowledged replied))) = acknowledged

unfoldable pub replied_by : AskAnswer → ℕ
replied_by (Err lent_error.NotLent) = 0
replied_by (Err lent_error.WrongList) = 0
replied_by (Ok None) = 0
replied_by (Ok (Some (handed.BadCheck command acknowledged))) = 0
replied_by (Ok (Some (handed.Accepted command count outcome acknowledged replied))) = replied
