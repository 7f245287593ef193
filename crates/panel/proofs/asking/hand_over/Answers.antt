-- `panel::asking::hand_over` meets its contract.
use Rattle.panel.proofs.Reports.{over_nothing, over_bad, over_accepted}
use Rattle.panel.proofs.asking.hand_over.Goals as goal

pub returns-in_default : goal.returns-in_default
returns-in_default c = search over_nothing

pub returns-in-BadCheck : goal.returns-in-BadCheck
returns-in-BadCheck c = search over_bad

pub returns-in-Accepted : goal.returns-in-Accepted
returns-in-Accepted c = search over_accepted
