-- `trace::Trace::begin` meets its contract.
use Rattle.trace.proofs.Events.{begun_before, begun_now}
use Rattle.trace.proofs.Trace.begin.Goals as goal

pub returns-then-is_started : goal.returns-then-is_started
returns-then-is_started c = search begun_before

pub returns : goal.returns
returns c = search begun_now
