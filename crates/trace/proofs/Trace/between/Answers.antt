-- `trace::Trace::between` meets its contract.
use Rattle.trace.proofs.Taking.{item_ended}
use Rattle.trace.proofs.Trace.between.Goals as goal

pub returns : goal.returns
returns c = search item_ended
