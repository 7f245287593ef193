-- The records met before the first event, and the table that they stand in.
use Rattle.std.specs.Prelude.{ℕ, ◌+◌, ◌*◌, min, cond, List, ltb, take}
use Rattle.touch.specs.Table.{most_records, record_bytes}

-- "table longer than 128 records": one record more is kept, and that shows it; further ones need not be
abbrev pub kept_records : ℕ
kept_records = most_records + 1

-- how long the table is that is lent to a trace
abbrev pub table_bytes : ℕ
table_bytes = kept_records * record_bytes

-- the table of so many records
unfoldable pub table_of : ℕ → List ℕ → List ℕ
table_of records table = take (min records kept_records * record_bytes) table

-- how many records have been met, as far as they are kept
unfoldable pub record_counted : ℕ → ℕ
record_counted records = cond (ltb records kept_records) (records + 1) records
