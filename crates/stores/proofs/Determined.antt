-- One answer fits each public function.
use Rattle.wire.specs.OneAnswer.{OneAnswer}
use Rattle.stores.proofs.at_most.Reads as at_most
use Rattle.stores.proofs.at_most.Kinds as at_most_kinds
use Rattle.stores.proofs.key_stores.Reads as key_stores
use Rattle.stores.proofs.key_stores.Kinds as key_stores_kinds
use Rattle.stores.proofs.step_stores.Reads as step_stores
use Rattle.stores.proofs.step_stores.Kinds as step_stores_kinds
use Rattle.stores.proofs.slider_stores.Reads as slider_stores
use Rattle.stores.proofs.slider_stores.Kinds as slider_stores_kinds

pub at_most_determined : OneAnswer 0 at_most_kinds.ps at_most_kinds.r at_most.Post
at_most_determined κs a x y s t p q = cc

pub key_stores_determined : OneAnswer 0 key_stores_kinds.ps key_stores_kinds.r key_stores.Post
key_stores_determined κs a x y s t p q = cc

pub step_stores_determined : OneAnswer 0 step_stores_kinds.ps step_stores_kinds.r step_stores.Post
step_stores_determined κs a x y s t p q = cc

pub slider_stores_determined : OneAnswer 0 slider_stores_kinds.ps slider_stores_kinds.r slider_stores.Post
slider_stores_determined κs a x y s t p q = cc
