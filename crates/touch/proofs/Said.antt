-- What is said of a setup, of a table and of a point is what 01's lists give.
use mathlib.Core.Path.{◌≡◌, refl, ap, ◌∙◌}
use mathlib.Core.Bool.{Bool, true, false, cond, not}
use mathlib.Core.List.{List, [], ◌∷◌}
use Prim.Native.Nat.{ℕ, zero, suc, ◌+◌, ◌/◌}
use lib.ListN.{length}
use Rattle.wire.specs.Numbers.{says, first_said}
use Rattle.touch.specs.declared.Setup.{Setup}
use Rattle.std.specs.Prelude.{Some, None, Err}
use Rattle.touch.specs.declared.TableError.TheVariants.{NotRecords}
use Rattle.touch.specs.Setup.{good_setup, number_of_setup, setup_listed, setup_said}
use Rattle.touch.specs.declared.Record.{Record}
use Rattle.touch.specs.Table.{Found, record_bytes, record_at, ends, records_from, records_of, first_of}
use Rattle.touch.specs.Find.{holds, found, found_said, point_listed, point_said}
use Rattle.touch.specs.Judge.{Verdict, wrong, named_wrong, not_records, judged, verdict_said, is_found, number_found, table_listed, table_said}

pub setup_said_lem : (s : Setup) (good : Bool) → good ≡ good_setup s → says (number_of_setup good) [] ≡ setup_said s
unfolding setup_listed first_said
setup_said_lem s good is = ap (λ (b : Bool). says (number_of_setup b) []) is ∙ go (good_setup s)
  where
    go : (b : Bool) → says (number_of_setup b) [] ≡ cond (not b) (says 11 []) (says 0 [])
    go true = refl
    go false = refl

said_as_listed : (s : Setup) (table : List ℕ) → verdict_said (judged s table) ≡ table_said s table
unfolding judged verdict_said table_listed first_said
said_as_listed s table = go (not_records table) (first_of (wrong s) 0 (records_of table))
  where
    go : (b : Bool) (f : Found) → verdict_said (cond b (Err NotRecords) (named_wrong f)) ≡ cond b (says 12 []) (cond (is_found f) (says 13 (number_found f)) (says 0 []))
    go true f = refl
    go false None = refl
    go false (Some (i, r)) = refl

pub table_said_lem : (s : Setup) (table : List ℕ) (verdict : Verdict) → verdict ≡ judged s table → verdict_said verdict ≡ table_said s table
table_said_lem s table verdict is = ap verdict_said is ∙ said_as_listed s table

-- a point
module _ (table : List ℕ) (page x y : ℕ) where
  point_as_listed : (i n : ℕ) → found_said (first_of (holds page x y) i (records_from table i n)) ≡ first_said (point_listed table page x y i n) []
  unfolding found_said first_of records_from point_listed first_said
  point_as_listed i zero = refl
  point_as_listed i (suc n) = go (ends (record_at table i)) (holds page x y (record_at table i)) (point_as_listed (i + 1) n) refl
    where
      -- the record that is looked at
      r : Record
      r = record_at table i

      go : (a b : Bool) → found_said (first_of (holds page x y) (i + 1) (records_from table (i + 1) n)) ≡ first_said (point_listed table page x y (i + 1) n) []
          → holds page x y r ≡ b
          → found_said (first_of (holds page x y) i (cond a [] (r ∷ records_from table (i + 1) n)))
          ≡ cond a [] (cond b ((i, r) ∷ []) (first_said (point_listed table page x y (i + 1) n) []))
      go true b rest is = refl
      go false true rest is = rw is
      go false false rest is = rw is rest

  pub point_said_lem : (f : Found) → f ≡ found table page x y → found_said f ≡ point_said table page x y
  unfolding found
  point_said_lem f is = ap found_said is ∙ point_as_listed 0 (length table / record_bytes)
