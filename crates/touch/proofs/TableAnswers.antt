-- Laws of `records_from` and `first_of`: going through a table record by record.
use mathlib.Core.Path.{◌≡◌}
use mathlib.Core.Bool.{Bool, true, false}
use mathlib.Core.List.{List}
use Prim.Native.Nat.{ℕ, suc, ◌+◌, ◌-◌, ◌≤◌, ◌<◌}
use native.Mathlib.Nat.{sub-zero}
use native.Mathlib.Omega.{arith}
use borrow.Author.Tests.{eq-eqb, ne_eqb}
use Rattle.touch.specs.declared.Setup.{Setup}
use Rattle.touch.specs.declared.Record.{Record}
use Rattle.std.specs.Prelude.{Some, None, Err}
use Rattle.touch.specs.declared.TableError.TheVariants.{NotRecords}
use Rattle.touch.specs.Table.{Found, end_page, record_at, records_from, records_of, first_of}
use Rattle.touch.specs.Judge.{Verdict, first_wrong, not_records, judged}
use Rattle.touch.proofs.Said.{table_said_lem}

-- what a test picks from record i on, where n records stand in the table
abbrev pub picked : (Record → Bool) → List ℕ → (i n : ℕ) → Found
picked picks table i n = first_of picks i (records_from table i (n - i))

pub picked_start : (picks : Record → Bool) (table : List ℕ) (n : ℕ) → first_of picks 0 (records_from table 0 n) ≡ picked picks table 0 n
picked_start picks table n = rw (sub-zero n)

module _ (picks : Record → Bool) (table : List ℕ) (i n : ℕ) where
  pub picked_done : n ≤ i → picked picks table i n ≡ None
  unfolding first_of records_from
  picked_done h = let e : n - i ≡ 0 = omega arith in rw e

  module _ (r : Record) (more : i < n) (is : r ≡ record_at table i) where
    next : n - i ≡ suc (n - (i + 1))
    next = omega arith

    pub picked_ends : r.page ≡ end_page → picked picks table i n ≡ None
    unfolding first_of records_from
    picked_ends e = rw (next, ← is, eq-eqb r.page end_page e)

    module _ (goes : r.page ≡ end_page → ⊥) where
      pub picked_here : picks r ≡ true → picked picks table i n ≡ Some (i, r)
      unfolding first_of records_from
      picked_here e = rw (next, ← is, ne_eqb r.page end_page goes, e)

      pub picked_on : picks r ≡ false → picked picks table i n ≡ picked picks table (i + 1) n
      unfolding first_of records_from
      picked_on e = rw (next, ← is, ne_eqb r.page end_page goes, e)

-- `judge`
pub judged_12 : (s : Setup) (table : List ℕ) → not_records table ≡ true → Err NotRecords ≡ judged s table
unfolding judged
judged_12 s table e = rw e

pub judged_13 : (s : Setup) (table : List ℕ) (v : Verdict) → not_records table ≡ false → v ≡ first_wrong s (records_of table) → v ≡ judged s table
unfolding judged
judged_13 s table v e p = rw e p

pub ruleset judging_laws = (judged_12, judged_13, table_said_lem)
