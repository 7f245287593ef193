-- `commands::on_registers::read` meets its contract.
use Rattle.std.proofs.Common.{rules, arith, ◌≡◌, ◌+◌, ◌&&◌, length, leb, refl}
use Rattle.wire.specs.Room.{lays, laid}
use Rattle.wire.specs.Addresses.{register_count}
use Rattle.registers.specs.Table.{holding, register_run}
use Rattle.registers.proofs.Copying.{length_run}
use Rattle.commands.specs.Reply.{registers_reply}
use Rattle.commands.proofs.Replies.{registers_run}
use Rattle.commands.proofs.Reading.{registers_read}
use Rattle.commands.proofs.on_registers.read.Goals as goal

pub returns-in-Ok : goal.returns-in-Ok
unfolding registers_reply
returns-in-Ok c =
    let registers = holding c.args.registers.now in
    let a = c.in-Ok.address.0 in
    let n = c.in-Ok.n in
    let run = register_run registers a n in
    let laid =
    c.reply-replied.ensures 0x81 (registers_reply registers a n) run refl (omega (arith, length_run registers a n))
    (λ part left count long gave.
    let read : lays count left.now ≡ laid (leb (a + n) register_count && leb n (length part.now)) run part.now = search rules in
    registers_run registers a n count part.now left.now c.in-Ok.ensures.fits.0 (omega arith) read) in
    registers_read c.args.fixed c.args.content.now c.args.room.now _ a n _ _ c.answer.ensures registers c.in-Ok.ensures.outcome c.in-Ok.ensures.parts.0
    c.in-Ok.ensures.parts.1 laid
