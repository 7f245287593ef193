-- `line_bench::sum_of` meets its contract.
use Rattle.std.proofs.Common.{◌+◌, ◌≤◌, length, arith}
use Rattle.wire.specs.Bytes.{Bytes}
use Rattle.line_bench.proofs.Summing.{summing_new, summing_asked, fewer_turns_asked, summed, summing_given, given_inside, fewer_turns_chunk, summing_one, fewer_turns_one}
use Rattle.line_bench.proofs.sum_of.Goals as goal

pub loop-reader-init : goal.loop-reader-init
loop-reader-init c = let are : Bytes c.args.input.now = λ j. omega (arith, c.type_inv.input j) in
    search summing_new

pub loop-reader-smaller-then-is_waiting : goal.loop-reader-smaller-then-is_waiting
loop-reader-smaller-then-is_waiting c = search fewer_turns_asked

pub loop-reader-preserved-then-is_waiting : goal.loop-reader-preserved-then-is_waiting
loop-reader-preserved-then-is_waiting c = search summing_asked

pub returns-then-left-eq0 : goal.returns-then-left-eq0
returns-then-left-eq0 c = search summed

pub loop-reader-smaller-then-chunk-eq0 : goal.loop-reader-smaller-then-chunk-eq0
loop-reader-smaller-then-chunk-eq0 c = search fewer_turns_one

pub loop-reader-preserved-then-chunk-eq0 : goal.loop-reader-preserved-then-chunk-eq0
loop-reader-preserved-then-chunk-eq0 c = search summing_one

pub overflow_add-i-else-chunk-eq0-2 : goal.overflow_add-i-else-chunk-eq0-2
overflow_add-i-else-chunk-eq0-2 c =
    let inside : c.loop-reader.i + c.give_bytes-gave.result.used ≤ length c.args.input.now = search given_inside in
    omega arith

pub loop-reader-smaller : goal.loop-reader-smaller
loop-reader-smaller c = search fewer_turns_chunk

pub loop-reader-preserved : goal.loop-reader-preserved
loop-reader-preserved c = search summing_given
