-- `telling::lines::print_both` meets its contract.
use borrow.Author.Rules.{rules}
use Rattle.telling.proofs.Printing.{part_long, line_and_frames}
use Rattle.telling.proofs.lines.print_both.Goals as goal

pub print_frames-m-requires : goal.print_frames-m-requires
print_frames-m-requires c = search (rules, part_long)

pub returns : goal.returns
returns c = search line_and_frames
