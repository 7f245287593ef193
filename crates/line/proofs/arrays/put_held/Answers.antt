-- `line::arrays::put_held` meets its contract.
use Rattle.line.proofs.Handing.{nothing_over}
use Rattle.line.proofs.arrays.put_held.Goals as goal

pub returns-else-from-to : goal.returns-else-from-to
returns-else-from-to c = search nothing_over
