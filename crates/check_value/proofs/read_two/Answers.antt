-- `check_value::read_two` meets its contract.
use Rattle.check_value.proofs.Formula.{two_read}
use Rattle.check_value.proofs.read_two.Goals as goal

pub returns : goal.returns
returns c = search two_read
