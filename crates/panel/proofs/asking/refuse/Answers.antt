-- `panel::asking::refuse` meets its contract.
use Rattle.panel.proofs.Reports.{refused_is}
use Rattle.panel.proofs.asking.refuse.Goals as goal

pub returns : goal.returns
returns c = search refused_is
