-- `trace::byte::grow` meets its contract.
use Rattle.trace.proofs.Taking.{item_whole, item_grows}
use Rattle.trace.proofs.byte.grow.Goals as goal

pub returns-then-body_length-trace : goal.returns-then-body_length-trace
returns-then-body_length-trace c = search item_whole

pub returns : goal.returns
returns c = search item_grows
