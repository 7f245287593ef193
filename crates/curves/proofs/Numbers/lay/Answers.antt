-- `curves::Numbers::lay` meets its contract.
use native.Mathlib.Omega.{arith}
use Rattle.curves.proofs.Laying.{length_of_rounds, laid_more, laid_all}
use Rattle.curves.proofs.Numbers.lay.Goals as goal

pub loop-i-preserved : goal.loop-i-preserved
loop-i-preserved c = laid_more _ _ _ _ _ c.loop-i.invariant (omega arith) c.at.ensures

pub returns : goal.returns
returns c = laid_all _ _ _ (omega (arith, length_of_rounds)) (λ k inside. c.loop-i.invariant k (omega arith))
