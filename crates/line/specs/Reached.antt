-- The readers that are reached from a new one, and what a report of the reading looks like as the reader hands it over.
use Rattle.std.specs.Prelude.{ℕ, ◌≤◌, ◌≡◌, false, List, [], ◌∷◌, length, Option, Some, None}
use Rattle.wire.specs.Bytes.{Bytes}
use Rattle.frame.specs.Frame.{longest_frame, most_payload}
use Rattle.reading.specs.Place as Place
use Rattle.reading.specs.Place.{look, bad_check, accepted_frame}
use Rattle.reading.specs.Moves.{Kept, is_pass}
use Rattle.line.specs.declared.Line.{Line}
use Rattle.line.specs.declared.Report.{Report}
use Rattle.line.specs.declared.Report.TheVariants.{Accepted, BadCheck}
use Rattle.line.specs.State.{rules_for, padded}

-- what holds of all that a reader keeps between inputs
pub record Reached (line : Line) (kept : Kept) : Type 0 where
  pub are_bytes : Bytes kept.bytes
  pub few : length kept.bytes ≤ longest_frame
  -- the first byte kept is one where reading stays: it waits or reports
  pub stands : is_pass (look (rules_for line) kept.closed kept.bytes) ≡ false

-- the first of these reports, if there is one, as the reader hands it over: "a bad check with the command byte", "an accepted frame with its command and data"
unfoldable pub report_as : List Place.Report → Option Report
report_as [] = None
report_as (bad_check command ∷ later) = Some (BadCheck command)
report_as (accepted_frame command content ∷ later) = Some (Accepted command (length content))

-- and its data, in the array that stands beside it
unfoldable pub payload_as : List Place.Report → List ℕ
payload_as [] = padded most_payload []
payload_as (bad_check command ∷ later) = padded most_payload []
payload_as (accepted_frame command content ∷ later) = padded most_payload content
