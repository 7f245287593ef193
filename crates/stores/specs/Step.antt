-- 01, "Step": what a step stores, in whole numbers.
use Rattle.std.specs.Prelude.{ℕ, Bool, ◌&&◌, cond, ℤ, pos, ◌+ℤ◌, ◌-ℤ◌}
use Rattle.std.specs.Int.Signed.{le_z, lt_z}
use Rattle.stores.specs.Store.{signed, word_of, value_in, placed}

-- "t is the value with the step added or taken, as whole numbers"
unfoldable pub stepped : (up : Bool) → (value : ℤ) → (step : ℕ) → ℤ
stepped up value step = cond up (value +ℤ pos step) (value -ℤ pos step)

-- "If t is within the ends, store t. Otherwise stop mode stores the end that t lies beyond; going round, up stores the least,
-- down the greatest."
unfoldable pub fenced : (up round : Bool) → (least greatest t : ℤ) → ℤ
fenced up round least greatest t =
    cond (le_z least t && le_z t greatest) t
    (cond round (cond up least greatest) (cond (lt_z t least) least greatest))

-- "Words are signed; bytes are 0 to 255 and so are their two ends."; "in all byte modes the other byte stays": the word after a step acted on it
unfoldable pub step_stores : (mode old : ℕ) → (up round : Bool) → (step least greatest : ℕ) → ℕ
step_stores mode old up round step least greatest =
    placed mode old (word_of (fenced up round (signed least) (signed greatest) (stepped up (value_in mode old) step)))
