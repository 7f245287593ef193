-- `panel::Panel::give_second` meets its contract.
use Rattle.panel.proofs.Inputs.{second_refused, second_fed}
use Rattle.panel.proofs.Said.{second_fed_said}
use Rattle.panel.proofs.Panel.give_second.Goals as goal

pub returns-then-is_waiting : goal.returns-then-is_waiting
returns-then-is_waiting c = let both = second_fed_said _ _ (search second_refused) in record { value = both.0; answer_value = both.1 }

pub returns : goal.returns
returns c = let both = second_fed_said _ _ (search second_fed) in record { value = both.0; answer_value = both.1 }
