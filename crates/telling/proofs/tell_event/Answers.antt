-- `telling::tell_event` meets its contract.
use Rattle.telling.proofs.Telling.{not_told, event_told}
use Rattle.telling.proofs.tell_event.Goals as goal

pub returns-then-room-lt-LEAST_TEXT : goal.returns-then-room-lt-LEAST_TEXT
returns-then-room-lt-LEAST_TEXT c = search not_told

pub returns : goal.returns
returns c = search event_told
