-- `trace::Trace::new` meets its contract.
use Rattle.trace.proofs.Ending.{new_made}
use Rattle.trace.proofs.Trace.new.Goals as goal

pub returns : goal.returns
returns c = search new_made
