-- `panel::asking::acknowledge` meets its contract.
use Rattle.panel.proofs.Reports.{answered, not_answered}
use Rattle.panel.proofs.asking.acknowledge.Goals as goal

pub returns-then-checking-acknowledging : goal.returns-then-checking-acknowledging
returns-then-checking-acknowledging c = search answered

pub returns-else-checking-acknowledging : goal.returns-else-checking-acknowledging
returns-else-checking-acknowledging c = search not_answered
