-- Laws of `weight`: what a report adds, however the sum wraps on the way.
use Rattle.std.proofs.Common.{◌≡◌, ℕ, ◌+◌, arith, Option, Some, None}
use Rattle.line.specs.declared.Report.{Report}
use Rattle.line.specs.declared.Report.TheVariants.{Accepted, BadCheck}
use Rattle.line_bench.specs.Sum.{wrapped}
use Rattle.line_bench.specs.Inner.{weight_told}

pub accepted_weighs : (report : Option Report) (said : Report) (command len first r : ℕ) → report ≡ Some said → said ≡ Accepted command len → r ≡ wrapped (65536 + command + len + first)
    → r ≡ wrapped (weight_told report first)
unfolding weight_told
accepted_weighs report said command len first r is is-said is-r = rw (is, is-said) is-r

pub bad_check_weighs : (report : Option Report) (said : Report) (command first r : ℕ) → report ≡ Some said → said ≡ BadCheck command → r ≡ wrapped command → r ≡ wrapped (weight_told report first)
unfolding weight_told
bad_check_weighs report said command first r is is-said is-r = rw (is, is-said) is-r

pub nothing_weighs : (report : Option Report) (first : ℕ) → report ≡ None → 0 ≡ wrapped (weight_told report first)
unfolding weight_told
nothing_weighs report first is = rw is (omega arith)
