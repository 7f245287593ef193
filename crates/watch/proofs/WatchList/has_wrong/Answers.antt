-- `watch::WatchList::has_wrong` meets its contract.
use mathlib.Core.Path.{◌∙◌, refl}
use native.Mathlib.Omega.{arith}
use lib.ListN.{length}
use Rattle.std.proofs.Common.{rules, tests}
use Rattle.std.proofs.lemmas.Iterator.{YieldsList-from_range}
use Rattle.std.proofs.lemmas.Iterator.Search.{any_from_yields_List}
use Rattle.watch.specs.Judge.{is_wrong_at}
use Rattle.watch.proofs.Somes.{some_in_range}
use Rattle.watch.proofs.WatchList.has_wrong.Goals as goal

pub returns : goal.returns
returns c =
    any_from_yields_List (is_wrong_at c.args.self.now.addresses.now c.args.self.now.uses.now) _ _ _ c.any.ensures.ran (YieldsList-from_range 0 (length c.args.self.now.addresses.now) (length c.args.self.now.addresses.now) refl (omega arith)) (λ x b q k. search (rules, tests))
    ∙ some_in_range (is_wrong_at c.args.self.now.addresses.now c.args.self.now.uses.now) (length c.args.self.now.addresses.now)
