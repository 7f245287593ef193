-- `line::Reader::give_mark` meets its contract.
use Rattle.line.proofs.Giving.{prefix_inside, prefix_counted, prefix_fits, mark_taken, mark_refused}
use borrow.Author.Rules.{rules}
use Rattle.line.proofs.Said.{mark_said}
use Rattle.line.proofs.Reader.give_mark.Goals as goal

pub slice_bounds-held-end : goal.slice_bounds-held-end
slice_bounds-held-end c = search (rules, prefix_inside)

pub slice_bounds-settle-end : goal.slice_bounds-settle-end
slice_bounds-settle-end c = search (rules, prefix_counted)

pub settle-next-requires : goal.settle-next-requires
settle-next-requires c = search prefix_fits

pub returns-then-can_take : goal.returns-then-can_take
returns-then-can_take c = let both = mark_said _ _ (search mark_taken) in record { value = both.0; answer_value = both.1 }

pub returns-else-can_take : goal.returns-else-can_take
returns-else-can_take c = let both = mark_said _ _ (search mark_refused) in record { value = both.0; answer_value = both.1 }
