-- `line::ask::hand_report` meets its contract.
use Rattle.line.proofs.Handing.{report_handed}
use Rattle.line.proofs.Asking.{body_inside}
use borrow.Author.Rules.{rules}
use Rattle.line.proofs.ask.hand_report.Goals as goal

pub slice_bounds-report_on-end : goal.slice_bounds-report_on-end
slice_bounds-report_on-end c = search (rules, body_inside)

pub returns : goal.returns
returns c = search report_handed
