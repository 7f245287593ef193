-- `words::lay_run` meets its contract.
use Rattle.words.proofs.Loops.{run_begun, run_more, run_whole}
use Rattle.words.proofs.lay_run.Goals as goal

pub loop-i-init : goal.loop-i-init
loop-i-init c = search run_begun

pub loop-i-preserved : goal.loop-i-preserved
loop-i-preserved c = search run_more

pub returns : goal.returns
returns c = search run_whole
