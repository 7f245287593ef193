-- `panel::Panel::give_mark` meets its contract.
use Rattle.panel.proofs.Inputs.{mark_fed}
use Rattle.panel.proofs.Said.{mark_fed_said}
use Rattle.panel.proofs.Panel.give_mark.Goals as goal

pub returns : goal.returns
returns c = let both = mark_fed_said _ _ (search mark_fed) in record { value = both.0; answer_value = both.1 }
