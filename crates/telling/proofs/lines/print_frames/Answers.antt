-- `telling::lines::print_frames` meets its contract.
use borrow.Author.Rules.{rules}
use Rattle.telling.proofs.Printing.{part_long, frames_printed}
use Rattle.telling.proofs.lines.print_frames.Goals as goal

pub print_reply-m-requires : goal.print_reply-m-requires
print_reply-m-requires c = search (rules, part_long)

pub returns : goal.returns
returns c = (search frames_printed, search rules)
