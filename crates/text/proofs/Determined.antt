-- One answer fits each public function.
use mathlib.Core.Path.{sym, ap, ◌∙◌}
use Rattle.wire.specs.Room.{Laid}
use Rattle.wire.specs.OneAnswer.{OneAnswerLeft}
use Rattle.text.proofs.put_line.Reads as put_line
use Rattle.text.proofs.put_line.Kinds as put_line_kinds
use Rattle.text.proofs.put_written.Reads as put_written
use Rattle.text.proofs.put_written.Kinds as put_written_kinds

pub put_line_determined : OneAnswerLeft 1 put_line_kinds.ps put_line_kinds.r put_line.Post (λ κs s. s.1.0.now)
put_line_determined κs a x y s t p q = (ap (λ (l : Laid). l.count) (p ∙ sym q), ap (λ (l : Laid). l.room) (p ∙ sym q))

pub put_written_determined : OneAnswerLeft 2 put_written_kinds.ps put_written_kinds.r put_written.Post (λ κs s. s.1.0.now)
put_written_determined κs a x y s t p q = (ap (λ (l : Laid). l.count) (p ∙ sym q), ap (λ (l : Laid). l.room) (p ∙ sym q))
