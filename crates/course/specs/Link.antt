-- The link from the reader to 01. Contracts speak of every reader, of array, count and head, whatever stands in them; here is what they say of the readers that
-- come from a new one by calls: each method is the move of crate reading, which 01, "Reading the line", states.
use Rattle.std.specs.Prelude.{ℕ, ◌<◌, ◌≡◌, cond, List, Ok, Err}
use Rattle.wire.specs.Bytes.{Bytes}
use Rattle.reading.specs.Moves.{Kept, fresh, waiting, with_byte, with_mark, handed, after_report}
use Rattle.line.specs.declared.Line.{Line}
use Rattle.line.specs.declared.Reader.{Reader}
use Rattle.line.specs.declared.Waiting.TheVariants.{ReportWaits}
use Rattle.line.specs.State.{rules_for, reader_of}
use Rattle.line.specs.Methods.{busy, gives, given_byte, given_bytes, given_mark, asked}
use Rattle.line.specs.Reached.{Reached, report_as, payload_as}

-- the readers that come from `Reader::new` by calls; the fields are private, and nothing else makes one but `Reader::none`, which stands where there is no reader
pub data Arises (line : Line) : Reader → Type 0 where
  new : Arises line (reader_of line fresh)
  byte : {reader : Reader} (b : ℕ) → b < 256 → Arises line reader → Arises line (given_byte reader b).reader
  bytes : {reader : Reader} (these : List ℕ) → Bytes these → Arises line reader → Arises line (given_bytes reader these).reader
  mark : {reader : Reader} → Arises line reader → Arises line (given_mark reader).reader
  ask : {reader : Reader} → Arises line reader → Arises line (asked reader).reader

-- what the methods of a reader that keeps these bytes answer and leave, in 01's words
pub record Linked (line : Line) (kept : Kept) : Type 0 where
  -- "While one of them is left, a report waits"
  pub waits : busy (reader_of line kept) ≡ waiting (rules_for line) kept
  -- "Bytes or marks are given one at a time"; "An input refused with 1 was not given"
  pub byte : (b : ℕ) → given_byte (reader_of line kept) b
      ≡ cond (waiting (rules_for line) kept) (gives (Err ReportWaits) (reader_of line kept)) (gives (Ok tt) (reader_of line (with_byte (rules_for line) kept b)))
  pub mark : given_mark (reader_of line kept)
      ≡ cond (waiting (rules_for line) kept) (gives (Err ReportWaits) (reader_of line kept)) (gives (Ok tt) (reader_of line (with_mark (rules_for line) kept)))
  -- "reports are then asked for one at a time": the report that is handed over with its data, and what is kept then
  pub ask : asked (reader_of line kept) ≡ record {
    report = report_as (handed (rules_for line) kept);
    payload = payload_as (handed (rules_for line) kept);
    reader = reader_of line (after_report (rules_for line) kept);
  }

-- every reader that comes from a new one by calls keeps some bytes, all of it is a function of these, and it is linked so
abbrev pub Link : Type 0
Link = (line : Line) (reader : Reader) → Arises line reader → (kept : Kept) × Reached line kept × (reader ≡ reader_of line kept) × Linked line kept
