-- `telling::lines::print_acknowledgement` meets its contract.
use Rattle.telling.proofs.Printing.{acknowledgement_printed, acknowledgement_count}
use Rattle.telling.proofs.lines.print_acknowledgement.Goals as goal

pub returns : goal.returns
returns c = (search acknowledgement_printed, search acknowledgement_count)
