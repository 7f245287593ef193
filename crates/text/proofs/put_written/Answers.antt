-- `text::put_written` meets its contract.
use Rattle.text.proofs.Laying.{no_frame, written_no_room, written_laid}
use Rattle.text.proofs.put_written.Goals as goal

pub returns-then-is_empty : goal.returns-then-is_empty
returns-then-is_empty c = search no_frame

pub returns-then-saturating_sub-frame : goal.returns-then-saturating_sub-frame
returns-then-saturating_sub-frame c = search written_no_room

pub returns : goal.returns
returns c = search written_laid
