-- `line::settle::settle` meets its contract.
use Rattle.line.proofs.Settling.{stop_inside, settled_is}
use Rattle.line.proofs.settle.settle.Goals as goal

pub slice_bounds-packed-count : goal.slice_bounds-packed-count
slice_bounds-packed-count c = search stop_inside

pub slice_bounds-packed-start : goal.slice_bounds-packed-start
slice_bounds-packed-start c = search stop_inside

pub overflow_sub-len : goal.overflow_sub-len
overflow_sub-len c = search stop_inside

pub returns : goal.returns
returns c = search settled_is
