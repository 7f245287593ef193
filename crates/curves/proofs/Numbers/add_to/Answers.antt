-- `curves::Numbers::add_to` meets its contract.
use native.Mathlib.Omega.{arith}
use mathlib.Core.Path.{◌≡◌}
use Prim.Native.Nat.{◌+◌, ◌-◌}
use lib.ListN.{length}
use Rattle.curves.specs.Area.{channel_words}
use Rattle.curves.specs.Inner.{column}
use Rattle.curves.proofs.Laying.{length_of_rounds}
use Rattle.curves.proofs.Keeping.{kept}
use Rattle.curves.proofs.Numbers.add_to.Goals as goal

pub returns : goal.returns
returns c =
    let numbers = c.args.self.now in
    let new = column numbers c.args.place in
    let long : length new ≡ numbers.rounds = length_of_rounds _ _ _ _ in
    let gone : c.saturating_sub-gone.result ≡ c.min-held.result + length new - channel_words = omega (arith, long) in
    rw long at (kept c.args.part.now new c.args.count _ _ _ (omega arith) (omega arith) gone c.min-old.ensures _ _ c.move_down.ensures c.lay.ensures)
