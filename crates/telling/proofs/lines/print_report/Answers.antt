-- `telling::lines::print_report` meets its contract.
use borrow.Author.Rules.{rules}
use Rattle.telling.proofs.Printing.{bad_short, accepted_short, accepted_brief, refused_printed, nothing_printed, bad_printed, accepted_printed}
use Rattle.telling.proofs.lines.print_report.Goals as goal

pub print_both-requires : goal.print_both-requires
print_both-requires c = search (rules, bad_short)

pub print_both-requires-in-Accepted : goal.print_both-requires-in-Accepted
print_both-requires-in-Accepted c = search (rules, accepted_short, accepted_brief)

pub returns-in_default : goal.returns-in_default
returns-in_default c = search refused_printed

pub returns-in_default-handed : goal.returns-in_default-handed
returns-in_default-handed c = search nothing_printed

pub returns-in-BadCheck : goal.returns-in-BadCheck
returns-in-BadCheck c = search bad_printed

pub returns-in-Accepted : goal.returns-in-Accepted
returns-in-Accepted c = search accepted_printed
