-- 01: "Examples a to j are one proved table under a single claim."
use mathlib.Core.Path.{refl}
use Rattle.demands.specs.Examples.{AllRight, examples}
use Rattle.demands.proofs.Computed.{computing_acknowledgements, computing_stores, computing_panel}

-- every row, by computation
pub examples_right : AllRight examples
unfolding computing_panel computing_acknowledgements computing_stores
examples_right = (refl, (refl, (refl, (refl, (refl, (refl, (refl, (refl, (refl, (refl, (refl, (refl, (refl, (refl, (refl, (refl, tt))))))))))))))))
