-- `watch::WatchList::shares_before` meets its contract.
use mathlib.Core.Path.{◌∙◌, refl}
use native.Mathlib.Omega.{arith}
use Rattle.std.proofs.Common.{rules, tests}
use Rattle.std.proofs.lemmas.Iterator.{YieldsList-from_range}
use Rattle.std.proofs.lemmas.Iterator.Search.{any_from_yields_List}
use Rattle.watch.specs.Judge.{share}
use Rattle.watch.proofs.Somes.{some_in_range}
use Rattle.watch.proofs.WatchList.shares_before.Goals as goal

pub returns : goal.returns
returns c =
    any_from_yields_List (share c.args.self.now.addresses.now c.args.self.now.uses.now c.args.i) _ _ _ c.any.ensures.ran (YieldsList-from_range 0 c.args.i c.args.i refl (omega arith)) (λ x b q k. search (rules, tests))
    ∙ some_in_range (share c.args.self.now.addresses.now c.args.self.now.uses.now c.args.i) c.args.i
