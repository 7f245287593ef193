-- `trace::event::started_event` meets its contract.
use Rattle.trace.proofs.Events.{event_left}
use Rattle.trace.proofs.event.started_event.Goals as goal

pub returns : goal.returns
returns c = search event_left
