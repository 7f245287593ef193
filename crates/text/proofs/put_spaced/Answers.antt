-- `text::put_spaced` meets its contract.
use Rattle.text.proofs.Laying.{spaced_none, spaced_more}
use Rattle.text.proofs.put_spaced.Goals as goal

pub loop-i-init : goal.loop-i-init
loop-i-init c = search spaced_none

pub loop-i-preserved : goal.loop-i-preserved
loop-i-preserved c = search spaced_more
