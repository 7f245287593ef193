use Rattle.std.proofs.Common.{◌≤◌}
use Rattle.clock_cases.proofs.judging.of_place.Given as goal

abbrev pub invariant-loop-b : goal.invariant-loop-b
invariant-loop-b l = l.wrong ≤ l.b
