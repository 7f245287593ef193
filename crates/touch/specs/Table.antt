-- 01, "Setup and touch table", the records of a table.
use Rattle.std.specs.Prelude.{ℕ, zero, suc, ◌+◌, ◌*◌, ◌/◌, Bool, cond, List, [], ◌∷◌, eqb, length, take, drop, Option, Some, None}
use Rattle.touch.specs.declared.Record.{Record}
use Rattle.touch.specs.Record.{record_of}

-- "The table has up to 128 records"
abbrev pub most_records : ℕ
most_records = 128

-- "records of 32 bytes"
abbrev pub record_bytes : ℕ
record_bytes = 32

-- the record with this number, "the record's number from 0"
abbrev pub record_at : List ℕ → ℕ → Record
record_at table i = record_of (take record_bytes (drop (i * record_bytes) table))

-- "A record with page FFFF ends it"
abbrev pub end_page : ℕ
end_page = 0xFFFF

-- "A record with page FFFF ends it": whether a record does
abbrev pub ends : Record → Bool
ends r = eqb r.page end_page

-- the records from number i on, n of them unless the table ends before: "later bytes are ignored"
unfoldable pub records_from : List ℕ → (i n : ℕ) → List Record
records_from table i zero = []
records_from table i (suc n) =
    cond (ends (record_at table i)) [] (record_at table i ∷ records_from table (i + 1) n)

-- "A record with page FFFF ends it; later bytes are ignored.": the records of a table up to its end; bytes behind the last whole record are none
abbrev pub records_of : List ℕ → List Record
records_of table = records_from table 0 (length table / record_bytes)

-- a record found in a table, with its number, or none: what `find` answers
abbrev pub Found : Type 0
Found = Option (ℕ × Record)

-- the first record that a test picks, with its number, where the first of the list has number i
unfoldable pub first_of : (Record → Bool) → (i : ℕ) → List Record → Found
first_of picks i [] = None
first_of picks i (r ∷ rs) = cond (picks r) (Some (i, r)) (first_of picks (i + 1) rs)
