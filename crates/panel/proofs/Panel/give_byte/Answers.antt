-- `panel::Panel::give_byte` meets its contract.
use Rattle.panel.proofs.Said.{byte_fed_said}
use Rattle.panel.proofs.Inputs.{byte_fed}
use Rattle.panel.proofs.Panel.give_byte.Goals as goal

pub returns : goal.returns
returns c = let both = byte_fed_said _ _ _ (search byte_fed) in record { value = both.0; answer_value = both.1 }
