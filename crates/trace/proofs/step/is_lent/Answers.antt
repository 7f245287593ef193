-- `trace::step::is_lent` meets its contract.
use Rattle.trace.proofs.Steps.{lent_judged}
use Rattle.trace.proofs.step.is_lent.Goals as goal

pub returns : goal.returns
returns c = search lent_judged
