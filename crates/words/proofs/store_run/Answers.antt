-- `words::store_run` meets its contract.
use native.Mathlib.Omega.{arith}
use Rattle.std.proofs.lemmas.List.{ext_get_or}
use Rattle.words.proofs.Carried.{length_words_of}
use Rattle.words.proofs.Loops.{stored_more}
use Rattle.words.proofs.store_run.Goals as goal

pub loop-i-preserved : goal.loop-i-preserved
loop-i-preserved c = stored_more _ _ _ _ _ c.loop-i.invariant (omega arith) (omega arith) c.as_chunks.ensures.front c.word.ensures

pub returns : goal.returns
returns c = ext_get_or 0 _ _ (omega (arith, length_words_of c.args.bytes.now)) (λ k inside. c.loop-i.invariant k (omega arith))
