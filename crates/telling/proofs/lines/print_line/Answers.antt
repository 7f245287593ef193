-- `telling::lines::print_line` meets its contract.
use Rattle.telling.proofs.Printing.{line_printed, line_count}
use Rattle.telling.proofs.lines.print_line.Goals as goal

pub returns : goal.returns
returns c = (search line_printed, search line_count)
