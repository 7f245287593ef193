-- `trace::byte::whole` meets its contract.
use Rattle.trace.proofs.Taking.{setup_whole, record_whole, event_whole, other_whole}
use Rattle.trace.proofs.byte.whole.Goals as goal

pub returns-in_default : goal.returns-in_default
returns-in_default c = search (other_whole, c.in_default.ensures.1)

pub returns-in-Setup : goal.returns-in-Setup
returns-in-Setup c = search (setup_whole, c.in-Ok.ensures)

pub returns-in-Record : goal.returns-in-Record
returns-in-Record c = search (record_whole, c.in-Ok.ensures)

pub returns-in_default-kind : goal.returns-in_default-kind
returns-in_default-kind c = search (event_whole, c.in-Ok.ensures)
