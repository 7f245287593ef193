-- `panel_trace::feeding::fill` meets its contract, and ends by what is left of the input.
use Prim.Native.Nat.{◌+◌, ◌≤◌}
use native.Mathlib.Omega.{arith}
use borrow.Author.Rules.{rules}
use lib.ListN.{length}
use Rattle.wire.specs.Bytes.{Bytes}
use Rattle.panel_trace.proofs.Going.{begins, goes_on, comes_nearer, used_within, filled_within, count_within, fills}
use Rattle.panel_trace.proofs.feeding.fill.Goals as goal

pub loop-room-init : goal.loop-room-init
loop-room-init c = let known : Bytes c.args.input.now = λ i. omega (arith, c.type_inv.input i) in
    search (rules, begins, known)

pub overflow_add-at : goal.overflow_add-at
overflow_add-at c = let turn = c.loop-room in
    let waits = c.is_waiting in
    let more = c.loop-room-test in
    let step = c.step-done in
    let inside : turn.at + step.result.used ≤ length c.args.input.now =
    search (used_within, turn.invariant.0, step.ensures, waits.ensures, more.true) in
    omega (arith, inside)

pub overflow_add-filled : goal.overflow_add-filled
overflow_add-filled c = let turn = c.loop-room in
    let waits = c.is_waiting in
    let more = c.loop-room-test in
    let step = c.step-done in
    let inside : turn.filled + step.result.count ≤ length turn.room =
    search (count_within, turn.invariant.0, step.ensures, waits.ensures, more.true) in
    omega (arith, inside)

pub loop-room-smaller : goal.loop-room-smaller
loop-room-smaller c = let turn = c.loop-room in
    let waits = c.is_waiting in
    let more = c.loop-room-test in
    let step = c.step-done in
    search (comes_nearer, turn.invariant.0, step.ensures, waits.ensures, more.true)

pub loop-room-preserved : goal.loop-room-preserved
loop-room-preserved c =
    let turn = c.loop-room in
    let waits = c.is_waiting in
    let more = c.loop-room-test in
    let step = c.step-done in (
      search (goes_on, turn.invariant.0, step.ensures, waits.ensures, more.true),
      search (rules, turn.invariant.1),
      search (used_within, turn.invariant.0, step.ensures, waits.ensures, more.true),
      search (filled_within, turn.invariant.0, step.ensures, waits.ensures, more.true),
    )

pub returns : goal.returns
returns c = search (rules, fills)
