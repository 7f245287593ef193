-- `panel::starting::new_panel` meets its contract.
use Rattle.panel.proofs.Inputs.{new_made}
use Rattle.panel.proofs.starting.new_panel.Goals as goal

pub returns : goal.returns
returns c = search new_made
