-- `trace::Trace::goes_in_runs` meets its contract.
use Rattle.trace.proofs.Steps.{in_runs}
use Rattle.trace.proofs.Trace.goes_in_runs.Goals as goal

pub returns : goal.returns
returns c = search in_runs
