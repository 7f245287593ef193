-- `curves::Numbers::at` meets its contract.
use Rattle.curves.proofs.Laying.{number_at}
use Rattle.curves.proofs.Numbers.at.Goals as goal

pub returns : goal.returns
returns c = search number_at
