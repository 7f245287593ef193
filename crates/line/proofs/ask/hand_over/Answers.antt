-- `line::ask::hand_over` meets its contract.
use Rattle.line.proofs.Handing.{nothing_handed_asked, report_handed_asked}
use Rattle.line.proofs.Asking.{frame_held, held_fits}
use borrow.Author.Rules.{rules}
use Rattle.line.proofs.ask.hand_over.Goals as goal

pub returns-then-k-reader : goal.returns-then-k-reader
returns-then-k-reader c = search nothing_handed_asked

pub hand_report-requires : goal.hand_report-requires
hand_report-requires c = (search rules, search frame_held, search held_fits, search rules, search rules)

pub returns : goal.returns
returns c = search report_handed_asked
