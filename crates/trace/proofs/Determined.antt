-- One answer fits each public function.
use mathlib.Core.Path.{sym, ap, ◌∙◌}
use mathlib.Core.List.{List}
use Prim.Native.Nat.{ℕ}
use Rattle.wire.specs.OneAnswer.{OneAnswer, OneAnswerLeft}
use Rattle.trace.specs.Steps.{Stepping}
use Rattle.trace.specs.Output.{Ending}
use Rattle.trace.proofs.Trace.new.Reads as new
use Rattle.trace.proofs.Trace.new.Kinds as new_kinds
use Rattle.trace.proofs.Trace.is_waiting.Reads as is_waiting
use Rattle.trace.proofs.Trace.is_waiting.Kinds as is_waiting_kinds
use Rattle.trace.proofs.Trace.is_over.Reads as is_over
use Rattle.trace.proofs.Trace.is_over.Kinds as is_over_kinds
use Rattle.trace.proofs.Trace.step.Reads as step
use Rattle.trace.proofs.Trace.step.Kinds as step_kinds
use Rattle.trace.proofs.Trace.end.Reads as end
use Rattle.trace.proofs.Trace.end.Kinds as end_kinds

pub new_determined : OneAnswer 0 new_kinds.ps new_kinds.r new.Post
new_determined κs a x y s t p q = p ∙ sym q

pub is_waiting_determined : OneAnswer 0 is_waiting_kinds.ps is_waiting_kinds.r is_waiting.Post
is_waiting_determined κs a x y s t p q = p ∙ sym q

pub is_over_determined : OneAnswer 0 is_over_kinds.ps is_over_kinds.r is_over.Post
is_over_determined κs a x y s t p q = p ∙ sym q

pub step_determined :
    OneAnswerLeft 5 step_kinds.ps step_kinds.r step.Post {B = List ℕ × (List ℕ × (List ℕ × List ℕ))}
    (λ κs s. (s.1.1.0.now, (s.1.1.1.0.now, (s.1.1.1.1.0.now, s.1.1.1.1.1.0.now))))
step_determined κs a x y s t p q = (
  ap (λ (d : Stepping). d.stepped) (p.0 ∙ sym q.0),
  ap (λ (d : Stepping). (d.table, (d.memory.words, (d.memory.curves, d.room)))) (p.0 ∙ sym q.0),
)

pub end_determined : OneAnswerLeft 2 end_kinds.ps end_kinds.r end.Post (λ κs s. s.1.1.0.now)
end_determined κs a x y s t p q = (ap (λ (d : Ending). d.ended) (p.0 ∙ sym q.0), ap (λ (d : Ending). d.room) (p.0 ∙ sym q.0))
