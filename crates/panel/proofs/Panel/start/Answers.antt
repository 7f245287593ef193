-- `panel::Panel::start` meets its contract.
use Rattle.panel.proofs.Said.{start_said_lem}
use Rattle.panel.proofs.Inputs.{start_done, start_refused}
use Rattle.panel.proofs.Panel.start.Goals as goal

pub returns-in-Ok : goal.returns-in-Ok
returns-in-Ok c = let both = start_said_lem _ _ _ (search start_done) in record { value = both.0; answer_value = both.1 }

pub returns-in-Err : goal.returns-in-Err
returns-in-Err c = let both = start_said_lem _ _ _ (search start_refused) in record { value = both.0; answer_value = both.1 }
