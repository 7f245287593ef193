-- `telling::lines::print_reply` meets its contract.
use Rattle.telling.proofs.Printing.{reply_printed, reply_count}
use Rattle.telling.proofs.lines.print_reply.Goals as goal

pub returns : goal.returns
returns c = (search reply_printed, search reply_count)
