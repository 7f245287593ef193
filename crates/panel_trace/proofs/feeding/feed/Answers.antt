-- `panel_trace::feeding::feed` meets its contract.
use Rattle.std.proofs.Common.{arith}
use Rattle.panel_trace.proofs.Passes.{passes_on, passed_within}
use Rattle.panel_trace.proofs.feeding.feed.Goals as goal

-- with the paths written out: a trace leaves more facts than a search looks at
pub loop-at-preserved : goal.loop-at-preserved
loop-at-preserved g c =
    let so_far = c.loop-at.invariant in
    let filling = c.fill-filled.ensures.filling in
    (passes_on _ _ _ _ _ _ so_far.0 _ _ _ filling, omega (arith, so_far.1, c.fill-filled.auto.room), passed_within _ _ _ _ _ _ so_far.0 _ _ _ filling)
