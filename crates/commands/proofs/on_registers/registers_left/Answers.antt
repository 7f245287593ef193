-- `commands::on_registers::registers_left` meets its contract.
use Rattle.std.proofs.Common.{arith, ◌≡◌, ℕ, ◌<◌, List, [], ◌∷◌, length, refl}
use Rattle.wire.specs.Room.{laid_at}
use Rattle.registers.specs.declared.Registers.{Registers}
use Rattle.registers.specs.Run.{read_each, reads_as, registers_after}
use Rattle.commands.specs.Effect.{registers_left}
use Rattle.commands.proofs.on_registers.registers_left.Goals as goal

-- data of no bytes writes nothing
none_left : (registers : Registers) (content : List ℕ) → length content < 1 → registers ≡ registers_left registers content
unfolding registers_left registers_after reads_as read_each laid_at
none_left registers [] short = refl
none_left registers (address ∷ bytes) short = absurd (omega arith)

pub returns-in_default : goal.returns-in_default
returns-in_default c = none_left c.args.registers c.args.content.now c.in_default.len_below
