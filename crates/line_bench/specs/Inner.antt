-- No public promise cites this file: what private functions of the code are held against.
use Rattle.std.specs.Prelude.{ℕ, ◌+◌, Option, Some, None}
use Rattle.line.specs.declared.Report.{Report}
use Rattle.line.specs.declared.Report.TheVariants.{Accepted, BadCheck}

-- what a report adds as the reader hands it over; `first` is the first byte of the data beside it
unfoldable pub weight_told : Option Report → (first : ℕ) → ℕ
weight_told (Some (Accepted command len)) first = 65536 + command + len + first
weight_told (Some (BadCheck command)) first = command
weight_told None first = 0
