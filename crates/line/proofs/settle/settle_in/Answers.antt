-- `line::settle::settle_in` meets its contract.
use Rattle.line.proofs.Settling.{prefix_long, stop_within, rest_stays, rest_moved, held_unmoved, held_moved}
use borrow.Author.Rules.{rules}
use Rattle.line.proofs.settle.settle_in.Goals as goal

pub slice_bounds-first_stop-end-2 : goal.slice_bounds-first_stop-end-2
slice_bounds-first_stop-end-2 c = search (rules, prefix_long)

pub returns-then-stop-eq0 : goal.returns-then-stop-eq0
returns-then-stop-eq0 c = (search rest_stays, search held_unmoved)

pub slice_bounds-packed-count : goal.slice_bounds-packed-count
slice_bounds-packed-count c = search stop_within

pub slice_bounds-packed-start : goal.slice_bounds-packed-start
slice_bounds-packed-start c = search stop_within

pub overflow_sub-result : goal.overflow_sub-result
overflow_sub-result c = search stop_within

pub returns : goal.returns
returns c = (search rest_moved, search held_moved)
