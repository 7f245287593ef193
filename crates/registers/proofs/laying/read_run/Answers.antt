-- `registers::laying::read_run` meets its contract.
use mathlib.Core.Path.{refl}
use borrow.Author.Rules.{rules}
use Rattle.registers.specs.Table.{register_run}
use Rattle.registers.proofs.Copying.{read_more}
use Rattle.registers.proofs.laying.read_run.Goals as goal

pub loop-i-init : goal.loop-i-init
unfolding register_run
loop-i-init c = refl

pub loop-i-preserved : goal.loop-i-preserved
loop-i-preserved c = search (rules, read_more)
