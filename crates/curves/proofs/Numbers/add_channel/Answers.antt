-- `curves::Numbers::add_channel` meets its contract.
use Rattle.curves.proofs.InArea.{part_back}
use Rattle.curves.proofs.Numbers.add_channel.Goals as goal

pub returns : goal.returns
returns c = search part_back
