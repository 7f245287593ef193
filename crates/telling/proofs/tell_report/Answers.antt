-- `telling::tell_report` meets its contract.
use Rattle.telling.proofs.Telling.{not_told, told_in}
use Rattle.telling.proofs.tell_report.Goals as goal

pub returns-then-room-lt-LEAST_TEXT : goal.returns-then-room-lt-LEAST_TEXT
returns-then-room-lt-LEAST_TEXT c = search not_told

pub returns : goal.returns
returns c = search told_in
