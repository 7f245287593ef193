-- `trace::byte::judge` meets its contract.
use Rattle.trace.proofs.Taking.{over_quiet, kind_wrong, kind_right}
use Rattle.trace.proofs.byte.judge.Goals as goal

pub returns-then-is_over : goal.returns-then-is_over
returns-then-is_over c = search over_quiet

pub returns-then-trace-may_come : goal.returns-then-trace-may_come
returns-then-trace-may_come c = search kind_wrong

pub returns : goal.returns
returns c = search kind_right
