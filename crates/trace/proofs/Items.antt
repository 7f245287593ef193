-- Laws of the table of the records met.
use mathlib.Core.Path.{◌≡◌, ap}
use mathlib.Core.List.{List, ◌++◌}
use Prim.Native.Nat.{ℕ, ◌+◌, ◌*◌, ◌-◌, ◌≤◌, ◌<◌, min}
use native.Mathlib.Omega.{arith}
use borrow.Rule.Slice.PartMut.{put_mid}
use borrow.Author.Tests.{lt-ltb, le-ltb}
use lib.ListN.{length, take, drop, length-drop}
use lib.Seq.{take_all, drop-drop}
use Rattle.wire.specs.Room.{laid_at}
use Rattle.touch.specs.Table.{record_bytes}
use Rattle.items.specs.Items.{item_bytes}
use Rattle.items.specs.Records.{kept_records, table_of}
use Rattle.trace.specs.Events.{record_put}

module _ (records : ℕ) where
  -- the table of the records met, as the code cuts it out
  pub table_part : (table : List ℕ) (n : ℕ) → n ≡ min records kept_records * record_bytes → take n table ≡ table_of records table
  unfolding table_of
  table_part table n is = rw is

  pub not_put : (item table : List ℕ) → kept_records ≤ records → table ≡ record_put records item table
  unfolding record_put
  not_put item table many = rw (le-ltb records kept_records many)

-- a record laid behind those met
pub record_laid : (records : ℕ) (item table r : List ℕ) → records < kept_records → length item ≡ item_bytes → r ≡ take record_bytes (drop 1 item)
    → put_mid (records * record_bytes) (records * record_bytes + record_bytes - records * record_bytes) table r ≡ record_put records item table
unfolding record_put laid_at
record_laid records item table r few long is =
    let at = records * record_bytes in
    let as_long : at + record_bytes - at ≡ length (drop 1 item) = rw length-drop (omega arith) in
    let body : take record_bytes (drop 1 item) ≡ drop 1 item = take_all record_bytes (drop 1 item) (rw length-drop (omega arith)) in
    rw (is, body, as_long, lt-ltb records kept_records few)
    (ap (λ (l : List ℕ). take at table ++ (drop 1 item ++ l)) (drop-drop (length (drop 1 item)) at table))
