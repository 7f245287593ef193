-- `line::Reader::none` meets its contract.
use Rattle.line.proofs.Giving.{none_is}
use Rattle.line.proofs.Reader.none.Goals as goal

pub returns : goal.returns
returns c = search none_is
