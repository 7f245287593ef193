-- `trace::byte::take_byte` meets its contract.
use Rattle.trace.proofs.Taking.{quiet_taken, wrong_taken, record_taken, event_taken}
use Rattle.trace.proofs.byte.take_byte.Goals as goal

pub returns-in-Quiet : goal.returns-in-Quiet
returns-in-Quiet c = search quiet_taken

pub returns-in-Wrong : goal.returns-in-Wrong
returns-in-Wrong c = search wrong_taken

pub returns-in-Met : goal.returns-in-Met
returns-in-Met c = search record_taken

pub returns-in-Happens : goal.returns-in-Happens
returns-in-Happens c = search event_taken
