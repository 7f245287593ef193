-- `trace::front::find` meets its contract.
use Rattle.trace.proofs.Steps.{finds_report, finds_lines, finds_byte}
use Rattle.trace.proofs.front.find.Goals as goal

pub returns-then-is_waiting : goal.returns-then-is_waiting
returns-then-is_waiting c = search finds_report

pub returns-then-goes_in_runs : goal.returns-then-goes_in_runs
returns-then-goes_in_runs c = search finds_lines

pub returns : goal.returns
returns c = search finds_byte
