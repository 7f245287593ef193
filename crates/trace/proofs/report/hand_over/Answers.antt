-- `trace::report::hand_over` meets its contract.
use Rattle.trace.proofs.Events.{started_left}
use Rattle.trace.proofs.report.hand_over.Goals as goal

pub returns : goal.returns
returns c = search started_left
