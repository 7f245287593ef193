-- `trace::Trace::end` meets its contract.
use borrow.Author.Rules.{rules}
use Rattle.trace.proofs.Ending.{table_long, room_long, lent_ends, not_lent_ends}
use Rattle.trace.proofs.Said.{end_said_lem}
use Rattle.trace.proofs.Trace.end.Goals as goal

pub print_end-requires : goal.print_end-requires
print_end-requires c = search (rules, table_long, room_long)

pub returns-then-table-room : goal.returns-then-table-room
returns-then-table-room c = let both = end_said_lem _ _ _ _ _ (search lent_ends) in record { room_after = both.0; count_value = both.1 }

pub returns : goal.returns
returns c = let both = end_said_lem _ _ _ _ _ (search not_lent_ends) in record { room_after = both.0; count_value = both.1 }
