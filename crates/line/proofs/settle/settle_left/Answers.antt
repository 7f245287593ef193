-- `line::settle::settle_left` meets its contract.
use Rattle.line.proofs.Handing.{left_none, left_fits, left_from, left_room, left_is}
use borrow.Author.Rules.{rules}
use Rattle.line.proofs.settle.settle_left.Goals as goal

pub returns-then-k-reader : goal.returns-then-k-reader
returns-then-k-reader c = search left_none

pub overflow_add-from : goal.overflow_add-from
overflow_add-from c = search (rules, left_fits)

pub put_held-requires : goal.put_held-requires
put_held-requires c = (search (rules, left_from), search rules, search (rules, left_room))

pub overflow_sub-result : goal.overflow_sub-result
overflow_sub-result c = search (rules, left_from)

pub returns : goal.returns
returns c = search (rules, left_is)
