-- One answer fits the public function.
use Rattle.wire.specs.OneAnswer.{OneAnswer}
use Rattle.check_bench.proofs.panel_check_value.Reads as panel_check_value
use Rattle.check_bench.proofs.panel_check_value.Kinds as panel_check_value_kinds

pub panel_check_value_determined : OneAnswer 1 panel_check_value_kinds.ps panel_check_value_kinds.r panel_check_value.Post
panel_check_value_determined κs a x y s t p q = cc
