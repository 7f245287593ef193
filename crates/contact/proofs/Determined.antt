-- One answer fits each public function.
use mathlib.Core.Path.{sym, ap, ◌∙◌}
use Rattle.wire.specs.OneAnswer.{OneAnswer, OneAnswerLeft}
use Rattle.contact.specs.Contact.{Touching}
use Rattle.contact.proofs.touch_down.Reads as touch_down
use Rattle.contact.proofs.touch_down.Kinds as touch_down_kinds
use Rattle.contact.proofs.lift_up.Reads as lift_up
use Rattle.contact.proofs.lift_up.Kinds as lift_up_kinds

pub touch_down_determined : OneAnswerLeft 2 touch_down_kinds.ps touch_down_kinds.r touch_down.Post (λ κs s. s.1.1.1.0.now)
touch_down_determined κs a x y s t p q = (ap (λ (d : Touching). d.pad) (p ∙ sym q), ap (λ (d : Touching). d.words) (p ∙ sym q))

pub lift_up_determined : OneAnswer 0 lift_up_kinds.ps lift_up_kinds.r lift_up.Post
lift_up_determined κs a x y s t p q = p ∙ sym q
