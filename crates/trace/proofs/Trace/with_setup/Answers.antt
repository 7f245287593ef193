-- `trace::Trace::with_setup` meets its contract.
use Rattle.trace.proofs.Taking.{setup_ready}
use Rattle.trace.proofs.Trace.with_setup.Goals as goal

pub returns : goal.returns
returns c = search setup_ready
