-- `panel::Panel::lift` meets its contract.
use Rattle.panel.proofs.Said.{lift_said_lem}
use Rattle.panel.proofs.Touches.{lift_waits, lift_up, lift_done}
use Rattle.panel.proofs.Panel.lift.Goals as goal

pub returns-then-is_waiting : goal.returns-then-is_waiting
returns-then-is_waiting c = let both = lift_said_lem _ _ (search lift_waits) in record { value = both.0; answer_value = both.1 }

pub returns-then-not-is_down : goal.returns-then-not-is_down
returns-then-not-is_down c = let both = lift_said_lem _ _ (search lift_up) in record { value = both.0; answer_value = both.1 }

pub returns : goal.returns
returns c = let both = lift_said_lem _ _ (search lift_done) in record { value = both.0; answer_value = both.1 }
