-- `panel::Panel::give_bytes` meets its contract.
use Rattle.panel.proofs.Inputs.{bytes_fed}
use Rattle.panel.proofs.Panel.give_bytes.Goals as goal

pub returns : goal.returns
returns c = search bytes_fed
