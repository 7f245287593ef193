-- One answer fits each public function.
use mathlib.Core.Path.{sym, ap, ◌∙◌}
use mathlib.Core.List.{List, []}
use Prim.Native.Nat.{ℕ}
use Rattle.wire.specs.OneAnswer.{OneAnswerLeft}
use Rattle.telling.specs.Told.{PanelLeft}
use Rattle.telling.proofs.tell_report.Reads as tell_report
use Rattle.telling.proofs.tell_report.Kinds as tell_report_kinds
use Rattle.telling.proofs.tell_event.Reads as tell_event
use Rattle.telling.proofs.tell_event.Kinds as tell_event_kinds

pub tell_report_determined :
    OneAnswerLeft 3 tell_report_kinds.ps tell_report_kinds.r tell_report.Post {B = List ℕ × (List ℕ × List ℕ)}
    (λ κs s. (s.1.0.now, (s.1.1.0.now, s.1.1.1.0.now)))
tell_report_determined κs a x y s t p q =
    (ap (λ (d : PanelLeft). d.printed) (p ∙ sym q), ap (λ (d : PanelLeft). (d.memory.words, (d.memory.curves, d.room))) (p ∙ sym q))

-- of an event the curve area may be taken to be nothing
pub tell_event_determined :
    OneAnswerLeft 3 tell_event_kinds.ps tell_event_kinds.r tell_event.Post {B = List ℕ × List ℕ} (λ κs s. (s.1.1.1.0.now, s.1.1.1.1.0.now))
tell_event_determined κs a x y s t p q =
    let both = p [] ∙ sym (q []) in
    (ap (λ (d : PanelLeft). d.printed) both, ap (λ (d : PanelLeft). (d.memory.words, d.room)) both)
