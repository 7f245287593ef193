-- `line_bench::sum_of` meets its contract.
use Rattle.line_bench.proofs.Summing.{Summing, turns_left}
use Rattle.line_bench.proofs.sum_of.Given as goal

abbrev pub invariant-loop-reader : goal.invariant-loop-reader
invariant-loop-reader l = Summing (record { h1 = l.h1; h2 = l.h2 }) l.checking l.input l.reader l.sum l.i

abbrev pub decreases-loop-reader : goal.decreases-loop-reader
decreases-loop-reader l = turns_left l.input l.reader l.i
