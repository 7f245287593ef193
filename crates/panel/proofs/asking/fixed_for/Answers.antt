-- `panel::asking::fixed_for` meets its contract.
use Rattle.panel.proofs.Reports.{fixed_made}
use Rattle.panel.proofs.asking.fixed_for.Goals as goal

pub returns : goal.returns
returns c = search fixed_made
