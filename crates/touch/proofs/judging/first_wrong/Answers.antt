-- `touch::judging::first_wrong` meets its contract.
use mathlib.Core.Path.{ap}
use Rattle.touch.specs.Judge.{wrong, named_wrong}
use Rattle.touch.proofs.judging.first_wrong.Goals as goal

pub returns-in-Some : goal.returns-in-Some
unfolding wrong
returns-in-Some c = ap named_wrong (c.in-Some.ensures (wrong c.args.s) (λ r b told. cc))

pub returns-in-None : goal.returns-in-None
unfolding wrong
returns-in-None c = ap named_wrong (c.in-None.ensures (wrong c.args.s) (λ r b told. cc))
