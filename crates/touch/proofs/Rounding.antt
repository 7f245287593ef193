-- A law of `rounding_of`: whatever the setup, a slider begins at begin, ends at end and never turns back.
use Rattle.stores.specs.Slider.{Fair}
use Rattle.stores.proofs.Roundings.{rounded_by_fair}
use Rattle.touch.specs.declared.Setup.{Setup}
use Rattle.touch.specs.Rounding.{sheet_of, rounding_of}

module _ (setup : Setup) where
  pub rounding_fair : Fair (rounding_of setup)
  unfolding rounding_of
  rounding_fair = rounded_by_fair (sheet_of setup)
