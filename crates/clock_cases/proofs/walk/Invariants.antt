use Rattle.std.proofs.Common.{◌*◌, ◌≤◌}
use Rattle.clock_cases.proofs.walk.Given as goal

abbrev pub invariant-loop : goal.invariant-loop
invariant-loop g l = l.days ≤ 400 * l.counter
