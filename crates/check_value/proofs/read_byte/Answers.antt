-- `check_value::read_byte` meets its contract.
use Rattle.check_value.proofs.Formula.{byte_read}
use Rattle.check_value.proofs.read_byte.Goals as goal

pub returns : goal.returns
returns c = search byte_read
