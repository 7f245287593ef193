-- `registers::Run::is_writable` meets its contract: its items are the run's registers.
use Rattle.std.proofs.Common.{rules, arith, ◌∙◌, ◌+◌, length}
use borrow.Author.Tests.{tests}
use Rattle.std.proofs.lemmas.Iterator.{YieldsList-from_range}
use Rattle.std.proofs.lemmas.Iterator.Search.{all_from_yields_List}
use Rattle.registers.specs.Table.{writable}
use Rattle.registers.proofs.Runs.{all_of_run}
use Rattle.registers.proofs.Run.is_writable.Goals as goal

pub returns : goal.returns
returns c =
    all_from_yields_List writable _ _ _ c.all.ensures.ran (YieldsList-from_range c.args.self.address.0 (c.args.self.address.0 + length c.args.self.bytes.now) (length c.args.self.bytes.now) c.registers.ensures (omega arith)) (λ x b q k. search (rules, tests))
    ∙ all_of_run c.args.self.address.0 (length c.args.self.bytes.now)
