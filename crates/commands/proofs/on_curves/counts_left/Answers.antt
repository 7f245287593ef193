-- `commands::on_curves::counts_left` meets its contract.
use Rattle.std.proofs.Common.{arith, ◌≡◌, ℕ, ◌<◌, List, [], ◌∷◌, length, refl}
use Rattle.registers.specs.Run.{covers, clear_value}
use Rattle.curves.specs.declared.Counts.{Counts}
use Rattle.curves.specs.Clearing.{cleared}
use Rattle.commands.specs.Effect.{counts_left}
use Rattle.commands.proofs.on_curves.counts_left.Goals as goal

-- data without an address clears nothing
none_cleared : (counts : Counts) (content : List ℕ) → length content < 1 → counts ≡ counts_left counts content
unfolding counts_left clear_value covers cleared
none_cleared counts [] short = refl
none_cleared counts (address ∷ bytes) short = absurd (omega arith)

pub returns-in_default : goal.returns-in_default
returns-in_default c = none_cleared c.args.counts c.args.content.now c.in_default.len_below
