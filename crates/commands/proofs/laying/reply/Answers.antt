-- `commands::laying::reply` meets its contract.
use Rattle.std.proofs.Common.{arith}
use Rattle.frame.proofs.Writers.{length_most}
use Rattle.commands.proofs.Replies.{head_no_room, head_and_run}
use Rattle.commands.proofs.laying.reply.Goals as goal

pub overflow_add-size : goal.overflow_add-size
overflow_add-size g c = omega (arith, length_most c.args.fixed.checking)

pub overflow_add-size-2 : goal.overflow_add-size-2
overflow_add-size-2 g c = omega (arith, length_most c.args.fixed.checking)

pub overflow_add-at-2 : goal.overflow_add-at-2
overflow_add-at-2 g c = omega (arith, length_most c.args.fixed.checking)

pub returns-then-room-at : goal.returns-then-room-at
returns-then-room-at g c command payload run is-payload is-run lays =
    head_no_room _ _ c.args.head run command payload _ _ _ _ _ c.length-at.ensures.value c.check_length.ensures.value (omega arith) is-run is-payload c.if-room-at.true

pub returns : goal.returns
returns g c command payload run is-payload is-run lays =
    head_and_run _ _ c.args.head run command payload _ _ _ _ _ c.length-at.ensures.value c.check_length.ensures.value (omega arith) is-run is-payload
    c.copy_from_slice.new.self c.lay.new.arg2 _ _ c.requires.fits c.if-room-at.false c.copy_from_slice.ensures.after (lays _ _ _ (omega arith) c.lay.ensures) c.close_frame.ensures
