-- `registers::Registers::write` meets its contract.
use Rattle.registers.proofs.Copying.{run_refused, run_on, run_written}
use Rattle.registers.proofs.Registers.write.Goals as goal

pub returns-then-passes_end : goal.returns-then-passes_end
returns-then-passes_end c = search run_refused

pub loop-i-preserved : goal.loop-i-preserved
loop-i-preserved c = search run_on

pub returns : goal.returns
returns c = search run_written
