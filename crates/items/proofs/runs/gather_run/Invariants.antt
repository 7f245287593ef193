-- `items::runs::gather_run` meets its contract.
use Rattle.items.proofs.Gathering.{Gathering}
use Rattle.items.proofs.runs.gather_run.Given as goal

abbrev pub invariant-loop-n : goal.invariant-loop-n
invariant-loop-n l = Gathering l.input l.initial.room l.room l.n
