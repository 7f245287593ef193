-- `registers::Registers::start` meets its contract.
use Rattle.registers.proofs.Runs.{started}
use Rattle.registers.proofs.Registers.start.Goals as goal

pub returns : goal.returns
returns c = search started
