-- `line_bench::weight` meets its contract.
use Rattle.line_bench.proofs.Weights.{accepted_weighs, bad_check_weighs, nothing_weighs}
use Rattle.std.proofs.Common.{arith}
use Rattle.line_bench.proofs.weight.Goals as goal

pub returns-in-Some-Accepted : goal.returns-in-Some-Accepted
returns-in-Some-Accepted c =
    let arm = c.in-Some-Accepted in
    accepted_weighs c.args.report arm.field-0 arm.command arm.len c.args.first c.wrapping_add_u64.result arm.is (rw arm.is at arm.field-0-is) (omega arith)

pub returns-in-Some-BadCheck : goal.returns-in-Some-BadCheck
returns-in-Some-BadCheck c =
    let arm = c.in-Some-BadCheck in
    bad_check_weighs c.args.report arm.field-0 arm.command c.args.first c.from-in-Some-BadCheck.result arm.is (rw arm.is at arm.field-0-is) (omega arith)

pub returns-in-None : goal.returns-in-None
returns-in-None c = search nothing_weighs
