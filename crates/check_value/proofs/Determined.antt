-- One answer fits each public function.
use Rattle.wire.specs.OneAnswer.{OneAnswer}
use Rattle.check_value.proofs.check_from.Reads as check_from
use Rattle.check_value.proofs.check_from.Kinds as check_from_kinds
use Rattle.check_value.proofs.check_value.Reads as check_value
use Rattle.check_value.proofs.check_value.Kinds as check_value_kinds

pub check_from_determined : OneAnswer 1 check_from_kinds.ps check_from_kinds.r check_from.Post
check_from_determined κs a x y s t p q = cc

pub check_value_determined : OneAnswer 1 check_value_kinds.ps check_value_kinds.r check_value.Post
check_value_determined κs a x y s t p q = cc
