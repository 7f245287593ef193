-- `touch::finding::find` meets its contract.
use Rattle.touch.specs.Find.{holds, found}
use Rattle.touch.proofs.Said.{point_said_lem}
use Rattle.touch.proofs.finding.find.Goals as goal

pub returns-clause-value : goal.returns-clause-value
unfolding found
returns-clause-value c = c.first_of.ensures (holds c.args.page c.args.point.x c.args.point.y) (λ r b told. cc)

pub returns-clause-result_value : goal.returns-clause-result_value
returns-clause-result_value c = point_said_lem _ _ _ _ _ (returns-clause-value c)
