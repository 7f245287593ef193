-- `line::ask::report_on` meets its contract.
use Rattle.line.proofs.Fronts.{told_good}
use Rattle.line.proofs.ask.report_on.Goals as goal

pub returns-in-Good : goal.returns-in-Good
returns-in-Good c = search told_good
