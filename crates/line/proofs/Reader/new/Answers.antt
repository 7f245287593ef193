-- `line::Reader::new` meets its contract.
use Rattle.line.proofs.Giving.{new_is}
use Rattle.line.proofs.Reader.new.Goals as goal

pub returns : goal.returns
returns c = search new_is
