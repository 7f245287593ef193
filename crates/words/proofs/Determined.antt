-- One answer fits each public function.
use mathlib.Core.Path.{refl, sym, ap, ◌∙◌}
use Rattle.wire.specs.Room.{Laid}
use Rattle.wire.specs.OneAnswer.{OneAnswer, OneAnswerLeft}
use Rattle.words.proofs.WordAddress.passes_end.Reads as passes_end
use Rattle.words.proofs.WordAddress.passes_end.Kinds as passes_end_kinds
use Rattle.words.proofs.at.Reads as at
use Rattle.words.proofs.at.Kinds as at_kinds
use Rattle.words.proofs.set.Reads as set
use Rattle.words.proofs.set.Kinds as set_kinds
use Rattle.words.proofs.write.Reads as write
use Rattle.words.proofs.write.Kinds as write_kinds
use Rattle.words.proofs.read.Reads as read
use Rattle.words.proofs.read.Kinds as read_kinds

pub passes_end_determined : OneAnswer 0 passes_end_kinds.ps passes_end_kinds.r passes_end.Post
passes_end_determined κs a x y s t p q = p ∙ sym q

pub at_determined : OneAnswer 1 at_kinds.ps at_kinds.r at.Post
at_determined κs a x y s t p q = p ∙ sym q

pub set_determined : OneAnswerLeft 1 set_kinds.ps set_kinds.r set.Post (λ κs s. s.0.now)
set_determined κs a x y s t p q = (refl, p ∙ sym q)

pub write_determined : OneAnswerLeft 2 write_kinds.ps write_kinds.r write.Post (λ κs s. s.0.now)
write_determined κs a x y s t p q = (refl, p ∙ sym q)

pub read_determined : OneAnswerLeft 2 read_kinds.ps read_kinds.r read.Post (λ κs s. s.1.1.1.0.now)
read_determined κs a x y s t p q = (ap (λ (l : Laid). l.count) (p ∙ sym q), ap (λ (l : Laid). l.room) (p ∙ sym q))
