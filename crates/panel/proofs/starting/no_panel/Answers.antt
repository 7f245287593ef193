-- `panel::starting::no_panel` meets its contract.
use Rattle.panel.proofs.Inputs.{none_made}
use Rattle.panel.proofs.starting.no_panel.Goals as goal

pub returns : goal.returns
returns c = search none_made
