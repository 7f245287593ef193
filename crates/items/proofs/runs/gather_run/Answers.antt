-- `items::runs::gather_run` meets its contract.
use Rattle.items.proofs.Gathering.{run_begins, run_more, run_stops, run_ends}
use Rattle.items.proofs.runs.gather_run.Goals as goal

pub loop-n-init : goal.loop-n-init
loop-n-init c = search run_begins

pub returns-then-input-n-ne1-clause-room_after : goal.returns-then-input-n-ne1-clause-room_after
returns-then-input-n-ne1-clause-room_after c = search run_stops

pub loop-n-preserved : goal.loop-n-preserved
loop-n-preserved c = search run_more

pub returns-clause-room_after : goal.returns-clause-room_after
returns-clause-room_after c = search run_ends
