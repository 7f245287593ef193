-- `touch::records::first_of` meets its contract.
use mathlib.Core.Path.{sym, ◌∙◌}
use Rattle.touch.proofs.TableAnswers.{picked_start, picked_done, picked_ends, picked_here, picked_on}
use Rattle.touch.proofs.records.first_of.Goals as goal

pub loop-i-init : goal.loop-i-init
loop-i-init g c = λ test told. picked_start test _ _

pub loop-i-preserved : goal.loop-i-preserved
loop-i-preserved g c = λ test told.
    c.loop-i.invariant test told
    ∙ picked_on test _ _ _ _ c.loop-i-test.true c.record_at-r.ensures c.if-r.false (sym (told _ _ c.picks.ensures) ∙ c.if-picks.false)

pub returns-then-r : goal.returns-then-r
returns-then-r g c = λ test told.
    sym (c.loop-i.invariant test told ∙ picked_ends test _ _ _ _ c.loop-i-test.true c.record_at-r.ensures c.if-r.true)

pub returns-then-picks : goal.returns-then-picks
returns-then-picks g c = λ test told.
    sym (c.loop-i.invariant test told
    ∙ picked_here test _ _ _ _ c.loop-i-test.true c.record_at-r.ensures c.if-r.false (sym (told _ _ c.picks.ensures) ∙ c.if-picks.true))

pub returns : goal.returns
returns g c = λ test told. sym (c.loop-i.invariant test told ∙ picked_done test _ _ _ c.loop-i-test.false)
