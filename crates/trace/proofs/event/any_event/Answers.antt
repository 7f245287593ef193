-- `trace::event::any_event` meets its contract.
use Rattle.trace.proofs.Events.{named_below, event_told, event_refused}
use Rattle.trace.proofs.event.any_event.Goals as goal

pub returns-in-Ok : goal.returns-in-Ok
returns-in-Ok c = search event_told

pub last_line-requires : goal.last_line-requires
last_line-requires c = search named_below

pub returns-in-Err : goal.returns-in-Err
returns-in-Err c = search event_refused
