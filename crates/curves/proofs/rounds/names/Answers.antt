-- `curves::rounds::names` meets its contract.
use Rattle.curves.proofs.Naming.{bit_named}
use Rattle.curves.proofs.rounds.names.Goals as goal

pub returns : goal.returns
returns c = search bit_named
