-- `panel_trace::read_all` meets its contract.
use Rattle.std.proofs.Common.{arith}
use Rattle.panel_trace.proofs.Passes.{begins_sound, reads_first, reads_on, ok_gives}
use Rattle.panel_trace.proofs.read_all.Goals as goal

-- with the paths written out: a trace leaves more facts than a search looks at
pub loop-init : goal.loop-init
loop-init g c =
    let new = c.new-trace.ensures in
    let r = c.requires in
    (begins_sound _ _ _ _ new r.0 r.1 r.2, reads_first _ _ _ _ new r.0 r.1 r.2, r.3)

pub returns-then-is_over : goal.returns-then-is_over
returns-then-is_over g c = reads_on _ _ _ c.loop.invariant.1 (ok_gives c.feed.result c.in_ok-map_err.ensures.variant c.feed.ensures.passing)

pub loop-preserved : goal.loop-preserved
loop-preserved g c = (
  c.feed.ensures.stays_sound,
  reads_on _ _ _ c.loop.invariant.1 (ok_gives c.feed.result c.in_ok-map_err.ensures.variant c.feed.ensures.passing),
  omega (arith, c.loop.invariant.2, c.feed.auto.room),
)
