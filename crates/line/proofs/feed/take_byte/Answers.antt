-- `line::feed::take_byte` meets its contract.
use Rattle.line.proofs.Stepping.{stored_front, rest_few, rest_same, rest_inside, rest_counted, held_stepped, step_is}
use borrow.Author.Rules.{rules}
use Rattle.line.proofs.feed.take_byte.Goals as goal

pub settle_in-rest-requires : goal.settle_in-rest-requires
settle_in-rest-requires c = (search rules, search rules, search stored_front)

pub slice_bounds-whole_at-end : goal.slice_bounds-whole_at-end
slice_bounds-whole_at-end c = search rest_inside

pub slice_bounds-whole_at-end-2 : goal.slice_bounds-whole_at-end-2
slice_bounds-whole_at-end-2 c = search rest_counted

pub shape_of-held : goal.shape_of-held
shape_of-held c = search rest_same

pub returns : goal.returns
returns c = (search step_is, search held_stepped, search rest_few, search rules)
