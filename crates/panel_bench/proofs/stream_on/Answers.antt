-- `panel_bench::stream_on` meets its contract.
use Rattle.std.proofs.Common.{◌≤◌, length, arith}
use Rattle.panel_bench.proofs.Streaming.{flowing_new, flowing_asked, fewer_turns_asked, flowed, flowing_given, given_inside, fewer_turns_given}
use Rattle.panel_bench.proofs.stream_on.Goals as goal

pub loop-words-init : goal.loop-words-init
loop-words-init c = search flowing_new

pub loop-words-smaller-then-is_waiting : goal.loop-words-smaller-then-is_waiting
loop-words-smaller-then-is_waiting c = search fewer_turns_asked

pub loop-words-preserved-then-is_waiting : goal.loop-words-preserved-then-is_waiting
loop-words-preserved-then-is_waiting c = search flowing_asked

pub returns-then-is_empty : goal.returns-then-is_empty
returns-then-is_empty c = search flowed

pub slice_bounds-rest-count : goal.slice_bounds-rest-count
slice_bounds-rest-count c = given_inside _ _ _ _ _ c.loop-words.invariant _ c.is_waiting.ensures _ _ c.give_bytes-fed.ensures

pub slice_bounds-rest-start : goal.slice_bounds-rest-start
slice_bounds-rest-start c =
    let inside : c.give_bytes-fed.result.used ≤ length c.loop-words.rest.now =
    given_inside _ _ _ _ _ c.loop-words.invariant _ c.is_waiting.ensures _ _ c.give_bytes-fed.ensures in
    omega (arith, inside)

pub loop-words-smaller : goal.loop-words-smaller
loop-words-smaller c =
    fewer_turns_given _ _ _ _ _ c.loop-words.invariant _ c.is_waiting.ensures _ _ c.give_bytes-fed.ensures _ c.is_empty.ensures c.min.ensures c.if-is_waiting.false c.if-is_empty.false

pub loop-words-preserved : goal.loop-words-preserved
loop-words-preserved c =
    flowing_given _ _ _ _ _ c.loop-words.invariant _ c.is_waiting.ensures _ _ c.give_bytes-fed.ensures
