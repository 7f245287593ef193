-- `trace::last::page_or_refusal` meets its contract.
use Rattle.trace.proofs.Events.{named_below}
use Rattle.trace.proofs.Ending.{page_said}
use Rattle.trace.proofs.last.page_or_refusal.Goals as goal

pub last_line-requires : goal.last_line-requires
last_line-requires c = search named_below

pub returns : goal.returns
returns c = search page_said
