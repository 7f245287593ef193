-- `trace::front::first_lines` meets its contract.
use Rattle.trace.proofs.Steps.{no_lines, some_lines}
use Rattle.trace.proofs.front.first_lines.Goals as goal

pub returns-then-n-eq0 : goal.returns-then-n-eq0
returns-then-n-eq0 c = search no_lines

pub returns : goal.returns
returns c = search some_lines
