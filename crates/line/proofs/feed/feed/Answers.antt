-- `line::feed::feed` meets its contract. The loop's invariant: what the whole call gives is what is still to be given from here; and below the
-- length `need` the bytes held decide nothing.
use Prim.Native.Nat.{◌+◌, ◌≤◌}
use native.Mathlib.Omega.{arith}
use borrow.Author.Rules.{rules}
use lib.ListN.{length}
use Rattle.line.proofs.Blindness.{blind_nothing}
use Rattle.line.proofs.Blocks.{block_front, block_blind, block_inside, block_less, fed_block}
use Rattle.line.proofs.Noise.{noise_inside, noise_less, fed_noise}
use Rattle.line.proofs.Feeding.{more_left, room_left, turn_inside, turn_less, some_left, fed_start, fed_byte, step_front, step_blind, all_fed}
use Rattle.line.proofs.feed.feed.Goals as goal

pub loop-i-init : goal.loop-i-init
loop-i-init c = (search rules, search rules, search rules, search rules, search rules, search blind_nothing, search fed_start)

pub take_block-k-requires : goal.take_block-k-requires
take_block-k-requires c = (search rules, search rules, search some_left, (search rules, search rules, search rules))

pub loop-i-smaller-then-n-need : goal.loop-i-smaller-then-n-need
loop-i-smaller-then-n-need c = search block_less

pub loop-i-preserved-then-n-need : goal.loop-i-preserved-then-n-need
loop-i-preserved-then-n-need c = let a = c.args in
    let at = c.loop-i in
    let inv = at.invariant in
    let k = c.take_block-k.result in
    let laid = c.take_block-k.ensures in (
      search block_inside,
      search rules,
      search rules,
      search rules,
      block_front a.line a.bytes.now at.i at.n k at.need at.held _ inv.1 inv.3 inv.4 laid.1 inv.2 laid.2 laid.3,
      search block_blind,
      fed_block a.line a.bytes.now at.i at.n k at.need at.held _ inv.1 inv.3 inv.4 laid.1 inv.2 laid.2 laid.3
          at.head _ _ c.loop-i-test.true
          c.can_take.ensures inv.5 inv.6,
    )

pub bounds-bytes-i : goal.bounds-bytes-i
bounds-bytes-i c = search more_left

pub overflow_add-i-then-n-b : goal.overflow_add-i-then-n-b
overflow_add-i-then-n-b c = let a = c.args in
    let at = c.loop-i in
    let inside : at.i + c.noise_length-i.result ≤ length a.bytes.now = search noise_inside in
    omega arith

pub loop-i-smaller-then-n-b : goal.loop-i-smaller-then-n-b
loop-i-smaller-then-n-b c = search noise_less

pub loop-i-preserved-then-n-b : goal.loop-i-preserved-then-n-b
loop-i-preserved-then-n-b c = (search noise_inside, search rules, search rules, search rules, search rules, search rules, search fed_noise)

pub take_byte-step-requires : goal.take_byte-step-requires
take_byte-step-requires c = (search room_left, (search rules, search rules, search rules))

pub loop-i-smaller : goal.loop-i-smaller
loop-i-smaller c = search turn_less

pub loop-i-preserved : goal.loop-i-preserved
loop-i-preserved c = (search turn_inside, search rules, search rules, search rules, search step_front, search step_blind, search fed_byte)

pub returns : goal.returns
returns c = search all_fed
