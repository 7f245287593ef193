-- `trace::lines::stop` meets its contract.
use borrow.Author.Rules.{rules}
use Rattle.telling.proofs.Printing.{line_printed}
use Rattle.trace.proofs.lines.stop.Goals as goal

pub returns : goal.returns
returns c = (search rules, search line_printed)
