-- One answer fits each public function.
use mathlib.Core.Path.{sym, ap, ◌∙◌}
use Rattle.wire.specs.OneAnswer.{OneAnswer, OneAnswerLeft}
use Rattle.curves.specs.Area.{Drawn}
use Rattle.curves.proofs.counting.none.Reads as none
use Rattle.curves.proofs.counting.none.Kinds as none_kinds
use Rattle.curves.proofs.Counts.of.Reads as of
use Rattle.curves.proofs.Counts.of.Kinds as of_kinds
use Rattle.curves.proofs.counting.cleared.Reads as cleared
use Rattle.curves.proofs.counting.cleared.Kinds as cleared_kinds
use Rattle.curves.proofs.rounds.is_wrong.Reads as is_wrong
use Rattle.curves.proofs.rounds.is_wrong.Kinds as is_wrong_kinds
use Rattle.curves.proofs.adding.add.Reads as add
use Rattle.curves.proofs.adding.add.Kinds as add_kinds

pub none_determined : OneAnswer 0 none_kinds.ps none_kinds.r none.Post
none_determined κs a x y s t p q = p ∙ sym q

pub of_determined : OneAnswer 0 of_kinds.ps of_kinds.r of.Post
of_determined κs a x y s t p q = p ∙ sym q

pub cleared_determined : OneAnswer 0 cleared_kinds.ps cleared_kinds.r cleared.Post
cleared_determined κs a x y s t p q = p ∙ sym q

pub is_wrong_determined : OneAnswer 1 is_wrong_kinds.ps is_wrong_kinds.r is_wrong.Post
is_wrong_determined κs a x y s t p q = p ∙ sym q

pub add_determined : OneAnswerLeft 2 add_kinds.ps add_kinds.r add.Post (λ κs s. s.1.1.0.now)
add_determined κs a x y s t p q = (ap (λ (d : Drawn). d.counts) (p ∙ sym q), ap (λ (d : Drawn). d.area) (p ∙ sym q))
