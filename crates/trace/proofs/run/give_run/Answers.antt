-- `trace::run::give_run` meets its contract.
use Rattle.trace.proofs.Runs.{run_given}
use Rattle.trace.proofs.run.give_run.Goals as goal

pub returns : goal.returns
returns c = search run_given
