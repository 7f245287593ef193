-- Laws of `found` and `judged`: what is found stands in the table where it is said to, holds the point, and is good if the table is.
use mathlib.Core.Path.{◌≡◌, refl, sym, ap, ◌∙◌}
use mathlib.Core.Bool.{Bool, true, false, not, cond}
use mathlib.Core.List.{List, [], ◌∷◌}
use mathlib.Core.Logic.{◌⊎◌, inl, inr}
use Prim.Native.Nat.{ℕ, zero, suc, ◌+◌, ◌/◌, ◌≤◌, ◌<◌}
use native.Mathlib.Nat.{eq-or-lt_of_le}
use native.Mathlib.Omega.{arith}
use lib.ListN.{length}
use borrow.Author.Tests.{not-true, not-false}
use Rattle.touch.specs.declared.Setup.{Setup}
use Rattle.touch.specs.declared.Record.{Record}
use Rattle.std.specs.Prelude.{Some, None, Ok, Err}
use Rattle.std.proofs.lemmas.Option.{some_pair_parts}
use Rattle.touch.specs.declared.TableError.TheVariants.{NotRecords, Wrong}
use Rattle.touch.specs.Table.{Found, record_bytes, ends, record_at, records_from, records_of, first_of}
use Rattle.touch.specs.Judge.{good_record, wrong, named_wrong, not_records, judged}
use Rattle.touch.specs.Find.{holds, found}

-- the record that a test picks passes it
picked_passes : (picks : Record → Bool) (rs : List Record) (i j : ℕ) (r : Record) → first_of picks i rs ≡ Some (j, r) → picks r ≡ true
unfolding first_of
picked_passes picks [] i j r e = absurd (cc)
picked_passes picks (q ∷ rs) i j r e = go (picks q) refl (picked_passes picks rs (i + 1) j r) e
  where
    go : (b : Bool) → picks q ≡ b → (first_of picks (i + 1) rs ≡ Some (j, r) → picks r ≡ true)
        → cond b (Some (i, q)) (first_of picks (i + 1) rs) ≡ Some (j, r) → picks r ≡ true
    go true t ih e = ap picks (sym (some_pair_parts _ _ _ _ e).1) ∙ t
    go false t ih e = ih e

-- where none is wrong, what a test picks is good
picked_good : (s : Setup) (picks : Record → Bool) (rs : List Record) (i j k : ℕ) (r : Record) → first_of (wrong s) k rs ≡ None
    → first_of picks i rs ≡ Some (j, r) → good_record s r ≡ true
unfolding first_of wrong
picked_good s picks [] i j k r w e = absurd (cc)
picked_good s picks (q ∷ rs) i j k r w e =
    go (good_record s q) refl (picks q) (picked_good s picks rs (i + 1) j (k + 1) r) w e
  where
    go : (g : Bool) → good_record s q ≡ g → (b : Bool)
        → (first_of (wrong s) (k + 1) rs ≡ None → first_of picks (i + 1) rs ≡ Some (j, r) → good_record s r ≡ true)
        → cond (not g) (Some (k, q)) (first_of (wrong s) (k + 1) rs) ≡ None
        → cond b (Some (i, q)) (first_of picks (i + 1) rs) ≡ Some (j, r) → good_record s r ≡ true
    go false t b ih w e = absurd (cc)
    go true t true ih w e = ap (good_record s) (sym (some_pair_parts _ _ _ _ e).1) ∙ t
    go true t false ih w e = ih w e

-- it stands in the table under its number, and no record before it passes
Stands : (Record → Bool) → List ℕ → (i n j : ℕ) → Record → Type 0
Stands picks table i n j r =
    (r ≡ record_at table j) × ((i ≤ j) × ((j < i + n) × ((k : ℕ) → i ≤ k → k < j → picks (record_at table k) ≡ false)))

picked_stands : (picks : Record → Bool) (table : List ℕ) (n i j : ℕ) (r : Record) → first_of picks i (records_from table i n) ≡ Some (j, r)
    → Stands picks table i n j r
unfolding first_of records_from Stands
picked_stands picks table zero i j r e = absurd (cc)
picked_stands picks table (suc n) i j r e = go (ends q) (picked_stands picks table n (i + 1) j r) e
  where
    q : Record
    q = record_at table i

    here : i ≡ j → q ≡ r → Stands picks table i (suc n) j r
    here s t =
        let k : r ≡ record_at table j = sym t ∙ ap (record_at table) s in
        (k, (omega arith, (omega arith, λ k l h. absurd (omega arith))))

    before : picks q ≡ false → Stands picks table (i + 1) n j r → (k : ℕ) → i ≤ k → k < j → picks (record_at table k) ≡ false
    before t s k l h = at (eq-or-lt_of_le l)
      where
        at : (i ≡ k) ⊎ (i < k) → picks (record_at table k) ≡ false
        at (inl m) = ap (λ (k : ℕ). picks (record_at table k)) (sym m) ∙ t
        at (inr m) = s.1.1.1 k (omega arith) h

    pick : (b : Bool) → picks q ≡ b
        → (first_of picks (i + 1) (records_from table (i + 1) n) ≡ Some (j, r) → Stands picks table (i + 1) n j r)
        → cond b (Some (i, q)) (first_of picks (i + 1) (records_from table (i + 1) n)) ≡ Some (j, r) → Stands picks table i (suc n) j r
    pick true t ih e = let same = some_pair_parts _ _ _ _ e in here same.0 same.1
    pick false t ih e =
        let s = ih e in
        (s.0, (omega arith, (omega arith, before t s)))

    go : (a : Bool) → (first_of picks (i + 1) (records_from table (i + 1) n) ≡ Some (j, r) → Stands picks table (i + 1) n j r)
        → first_of picks i (cond a [] (q ∷ records_from table (i + 1) n)) ≡ Some (j, r) → Stands picks table i (suc n) j r
    go true ih e = absurd (cc)
    go false ih e = pick (picks q) refl ih e

pub found_holds : (table : List ℕ) (page x y i : ℕ) (r : Record) → found table page x y ≡ Some (i, r) → holds page x y r ≡ true
unfolding found
found_holds table page x y i r e = picked_passes (holds page x y) (records_of table) 0 i r e

pub found_stands : (table : List ℕ) (page x y i : ℕ) (r : Record) → found table page x y ≡ Some (i, r)
    → (r ≡ record_at table i) × ((i < length table / record_bytes) × ((k : ℕ) → k < i → holds page x y (record_at table k) ≡ false))
unfolding found Stands
found_stands table page x y i r e =
    let s = picked_stands (holds page x y) table (length table / record_bytes) 0 i r e in
    (s.0, (omega arith, λ k h. s.1.1.1 k (omega arith) h))

none_wrong_if_good : (s : Setup) (table : List ℕ) → judged s table ≡ Ok tt → first_of (wrong s) 0 (records_of table) ≡ None
unfolding judged
none_wrong_if_good s table e = go (not_records table) (first_of (wrong s) 0 (records_of table)) e
  where
    go : (b : Bool) (f : Found) → cond b (Err NotRecords) (named_wrong f) ≡ Ok tt → f ≡ None
    go true f e = absurd (cc)
    go false None e = refl
    go false (Some (i, r)) e = absurd (cc)

-- "12 table longer than 128 records or not whole records", exactly then
pub twelve : (s : Setup) (table : List ℕ) → not_records table ≡ true → judged s table ≡ Err NotRecords
unfolding judged
twelve s table e = rw e

pub only_twelve : (s : Setup) (table : List ℕ) → judged s table ≡ Err NotRecords → not_records table ≡ true
unfolding judged
only_twelve s table e = go (not_records table) (first_of (wrong s) 0 (records_of table)) e
  where
    go : (b : Bool) (f : Found) → cond b (Err NotRecords) (named_wrong f) ≡ Err NotRecords → b ≡ true
    go true f e = refl
    go false None e = absurd (cc)
    go false (Some (i, r)) e = absurd (cc)

-- "13 a record is wrong; the first wrong one is named"
pub thirteen_names_first : (s : Setup) (table : List ℕ) (i : ℕ) → judged s table ≡ Err (Wrong i)
    → (good_record s (record_at table i) ≡ false)
    × ((i < length table / record_bytes) × ((k : ℕ) → k < i → good_record s (record_at table k) ≡ true))
unfolding judged wrong Stands
thirteen_names_first s table i e = go (not_records table) (first_of (wrong s) 0 (records_of table)) refl e
  where
    named : (r : Record) → first_of (wrong s) 0 (records_of table) ≡ Some (i, r)
        → (good_record s (record_at table i) ≡ false)
        × ((i < length table / record_bytes) × ((k : ℕ) → k < i → good_record s (record_at table k) ≡ true))
    named r f =
        let stands = picked_stands (wrong s) table (length table / record_bytes) 0 i r f in
        let is = picked_passes (wrong s) (records_of table) 0 i r f in (
          ap (good_record s) (sym stands.0) ∙ not-true (good_record s r) is,
          (omega arith, λ k h. not-false (good_record s (record_at table k)) (stands.1.1.1 k (omega arith) h)),
        )

    go : (b : Bool) (f : Found) → first_of (wrong s) 0 (records_of table) ≡ f → cond b (Err NotRecords) (named_wrong f) ≡ Err (Wrong i)
        → (good_record s (record_at table i) ≡ false)
        × ((i < length table / record_bytes) × ((k : ℕ) → k < i → good_record s (record_at table k) ≡ true))
    go true f q e = absurd (cc)
    go false None q e = absurd (cc)
    go false (Some (j, r)) q e = let same : j ≡ i = cc in named r (q ∙ ap (λ (k : ℕ). Some (k, r)) same)

pub found_good : (s : Setup) (table : List ℕ) (page x y i : ℕ) (r : Record) → judged s table ≡ Ok tt → found table page x y ≡ Some (i, r)
    → good_record s r ≡ true
unfolding found
found_good s table page x y i r g e =
    picked_good s (holds page x y) (records_of table) 0 i 0 r (none_wrong_if_good s table g) e
