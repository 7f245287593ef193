-- `line::inputs::empty` meets its contract.
use Rattle.line.proofs.Giving.{empty_is}
use Rattle.line.proofs.inputs.empty.Goals as goal

pub returns : goal.returns
returns c = search empty_is
