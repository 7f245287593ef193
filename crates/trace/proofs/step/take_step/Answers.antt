-- `trace::step::take_step` meets its contract.
use Rattle.trace.proofs.Steps.{hands_one, ran_lines, takes_byte}
use Rattle.trace.proofs.step.take_step.Goals as goal

pub returns-in-Waits : goal.returns-in-Waits
returns-in-Waits c = search hands_one

pub returns-in-Ran : goal.returns-in-Ran
returns-in-Ran c = search ran_lines

pub returns-in-First : goal.returns-in-First
returns-in-First c = search takes_byte
