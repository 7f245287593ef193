-- `trace::Trace::step` meets its contract.
use borrow.Author.Rules.{rules}
use Rattle.trace.proofs.Steps.{table_lent, room_lent, lent_steps, not_lent_steps}
use Rattle.trace.proofs.Said.{step_said_lem}
use Rattle.trace.proofs.Trace.step.Goals as goal

pub take_step-took-requires : goal.take_step-took-requires
take_step-took-requires c = search (rules, table_lent, room_lent)

pub returns-then-is_lent : goal.returns-then-is_lent
returns-then-is_lent c = let both = step_said_lem _ _ _ _ _ _ _ (search lent_steps) in record { room_after = both.0; count_value = both.1 }

pub returns : goal.returns
returns c = let both = step_said_lem _ _ _ _ _ _ _ (search not_lent_steps) in record { room_after = both.0; count_value = both.1 }
