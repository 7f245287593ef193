-- `line::Reader::give_byte` meets its contract.
use Rattle.line.proofs.Giving.{below_full, one_more_fits, longer_inside, longer_counted, longer_fits, byte_taken, byte_refused}
use borrow.Author.Rules.{rules}
use Rattle.line.proofs.Said.{byte_said}
use Rattle.line.proofs.Reader.give_byte.Goals as goal

pub bounds-held-n : goal.bounds-held-n
bounds-held-n c = search below_full

pub overflow_add-held : goal.overflow_add-held
overflow_add-held c = search one_more_fits

pub slice_bounds-held-end : goal.slice_bounds-held-end
slice_bounds-held-end c = search (rules, longer_inside)

pub slice_bounds-settle-end : goal.slice_bounds-settle-end
slice_bounds-settle-end c = search (rules, longer_counted)

pub settle-next-requires : goal.settle-next-requires
settle-next-requires c = search longer_fits

pub returns-then-can_take : goal.returns-then-can_take
returns-then-can_take c = let both = byte_said _ _ _ (search (rules, byte_taken)) in record { value = both.0; answer_value = both.1 }

pub returns-else-can_take : goal.returns-else-can_take
returns-else-can_take c = let both = byte_said _ _ _ (search byte_refused) in record { value = both.0; answer_value = both.1 }
