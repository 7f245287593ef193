-- `trace::last::print_end` meets its contract.
use Rattle.trace.proofs.Ending.{nothing_printed, last_printed}
use Rattle.trace.proofs.last.print_end.Goals as goal

pub returns-in-None : goal.returns-in-None
returns-in-None c = search nothing_printed

pub returns-in-Some : goal.returns-in-Some
returns-in-Some c = search last_printed
