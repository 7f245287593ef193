-- One answer fits each public function.
use mathlib.Core.Path.{sym, ◌∙◌}
use Rattle.wire.specs.OneAnswer.{OneAnswer}
use Rattle.place.proofs.look_at.Reads as look_at
use Rattle.place.proofs.look_at.Kinds as look_at_kinds
use Rattle.place.proofs.first_stop.Reads as first_stop
use Rattle.place.proofs.first_stop.Kinds as first_stop_kinds

pub look_at_determined : OneAnswer 1 look_at_kinds.ps look_at_kinds.r look_at.Post
look_at_determined κs a x y s t p q = p.0 ∙ sym q.0

pub first_stop_determined : OneAnswer 1 first_stop_kinds.ps first_stop_kinds.r first_stop.Post
first_stop_determined κs a x y s t p q = p.0 ∙ sym q.0
