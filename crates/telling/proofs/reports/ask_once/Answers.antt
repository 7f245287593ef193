-- `telling::reports::ask_once` meets its contract.
use borrow.Author.Rules.{rules}
use Rattle.telling.proofs.Bounds.{acknowledgement_brief, reply_brief}
use Rattle.telling.proofs.Telling.{report_printed}
use Rattle.telling.proofs.reports.ask_once.Goals as goal

pub print_report-count-requires : goal.print_report-count-requires
print_report-count-requires c = search (rules, acknowledgement_brief, reply_brief)

pub returns : goal.returns
returns c = search report_printed
