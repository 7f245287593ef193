-- `trace::front::first_byte` meets its contract.
use Rattle.trace.proofs.Steps.{no_input, one_byte}
use Rattle.trace.proofs.front.first_byte.Goals as goal

pub returns-then-input-eq0 : goal.returns-then-input-eq0
returns-then-input-eq0 c = search no_input

pub returns : goal.returns
returns c = search one_byte
