-- `registers::Registers::moment` meets its contract.
use Rattle.std.proofs.Common.{◌∙◌}
use Rattle.registers.proofs.Clocking.{moment_seen}
use Rattle.registers.proofs.Registers.moment.Goals as goal

pub returns : goal.returns
returns c = c.moment_in.ensures ∙ moment_seen c.args.self
