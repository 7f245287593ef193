-- Laws of the loops that write and read a run of registers.
use mathlib.Core.Path.{◌≡◌, refl, sym, ap, ◌∙◌}
use mathlib.Core.Bool.{Bool, true, false, ◌&&◌}
use mathlib.Core.List.{List, [], ◌∷◌, ◌++◌}
use Prim.Native.Nat.{ℕ, zero, suc, ◌+◌, ◌≤◌, ◌<◌}
use native.Mathlib.Nat.{add-zero}
use native.Mathlib.Omega.{arith}
use borrow.Author.Tests.{le-leb, lt-leb, ltb-true, ltb-false}
use lib.Dec.{leb, ltb}
use lib.ListN.{length, get_or, set, take, drop}
use lib.Seq.{paste, length-take-le}
use Rattle.std.proofs.lemmas.List.{take_more_set}
use Rattle.std.proofs.lemmas.List.Edits.{paste_more, paste_all}
use Rattle.wire.specs.Room.{over, laid_at, lays, laid}
use Rattle.wire.proofs.Over.{and_true, left_false, right_false, laid_not, laid_whole}
use Rattle.registers.specs.declared.Registers.{Registers}
use Rattle.wire.specs.Addresses.{register_count}
use Rattle.registers.specs.Table.{holding, register_at, register_run}
use Rattle.registers.specs.Run.{weekday_for, read_as, reads_as, registers_after}
use Rattle.registers.proofs.ReadsAs.{length_reads_as, reads_as_at}

-- a run that passes the end is not written
pub run_refused : (registers : Registers) (address : ℕ) (bytes : List ℕ) (passes : Bool) → passes ≡ ltb register_count (address + length bytes) → passes ≡ true
    → registers ≡ registers_after registers address bytes
unfolding registers_after
run_refused registers address bytes passes is past =
    let far : register_count < address + length bytes = ltb-true register_count (address + length bytes) (sym is ∙ past) in
    rw (lt-leb (address + length bytes) register_count far)

module _ (registers : Registers) (address a : ℕ) (bytes : List ℕ) (next : Registers) (i : ℕ) (passes : Bool) (is : a ≡ address)
    (is-passes : passes ≡ ltb register_count (address + length bytes)) (inside : passes ≡ false) (so_far : next.bytes ≡ paste registers.bytes a (reads_as a bytes) i) where
  fits : address + length bytes ≤ register_count
  fits = ltb-false register_count (address + length bytes) (sym is-passes ∙ inside)

  -- one register more
  pub run_on : (v weekday : ℕ) → length registers.bytes ≡ register_count → weekday ≡ weekday_for address bytes → i < length bytes → v ≡ read_as weekday (a + i) (get_or bytes i 0)
      → set next.bytes (a + i) v ≡ paste registers.bytes a (reads_as a bytes) (i + 1)
  run_on v weekday whole is-weekday more is-v =
      let long = length_reads_as a bytes in
      rw (so_far, is-v, is-weekday, ← is, ← reads_as_at a bytes i more) (paste_more registers.bytes a (reads_as a bytes) i 0 (omega (arith, fits)) (omega arith))

  pub run_written : length bytes ≤ i → i ≤ length bytes → next ≡ registers_after registers address bytes
  unfolding registers_after laid_at
  run_written all all' =
      let long = length_reads_as a bytes in
      let end : i ≡ length (reads_as a bytes) = omega arith in
      ap holding so_far ∙ rw (le-leb (address + length bytes) register_count fits, paste_all registers.bytes a (reads_as a bytes) i end, end, is)

pub length_run : (registers : Registers) (address n : ℕ) → length (register_run registers address n) ≡ n
unfolding register_run
length_run registers address zero = refl
length_run registers address (suc n) = ap suc (length_run registers (suc address) n)

-- one register more at the end of a run
run_more : (registers : Registers) (address i : ℕ) → register_run registers address (suc i) ≡ register_run registers address i ++ (register_at registers (address + i) ∷ [])
unfolding register_run
run_more registers address zero = ap (λ (a : ℕ). register_at registers a ∷ []) (sym (add-zero address))
run_more registers address (suc i) =
    let place : suc address + i ≡ address + suc i = omega arith in
    ap (λ (rest : List ℕ). register_at registers address ∷ rest)
    (run_more registers (suc address) i ∙ ap (λ (a : ℕ). register_run registers (suc address) i ++ (register_at registers a ∷ [])) place)

-- a loop that reads a run has read what its turns read
pub read_more : (registers : Registers) (address i v : ℕ) (room : List ℕ) → take i room ≡ register_run registers address i → i < length room
    → v ≡ get_or registers.bytes (address + i) 0 → take (i + 1) (set room i v) ≡ register_run registers address (i + 1)
unfolding register_at
read_more registers address i v room is more e =
    let one : i + 1 ≡ suc i = omega arith in
    take_more_set room i v more ∙ rw (one, run_more registers address i, is, e)

module _ (registers : Registers) (address n m : ℕ) (room : List ℕ) (passes : Bool) (is-m : m ≡ n) (is-passes : passes ≡ ltb register_count (address + m)) where
  abbrev within : Bool
  within = leb (address + n) register_count

  abbrev fits_room : Bool
  fits_room = leb n (length room)

  pub read_past : passes ≡ true → lays 0 room ≡ laid (within && fits_room) (register_run registers address n) room
  read_past past =
      let far : register_count < address + m = ltb-true register_count (address + m) (sym is-passes ∙ past) in
      laid_not (within && fits_room) (register_run registers address n) room (left_false within fits_room (lt-leb (address + n) register_count (omega arith)))

  pub read_no_room : length room < m → lays 0 room ≡ laid (within && fits_room) (register_run registers address n) room
  read_no_room small = laid_not (within && fits_room) (register_run registers address n) room (right_false within fits_room (lt-leb n (length room) (omega arith)))

  pub read_done : (a : ℕ) (run left : List ℕ) → a ≡ address → passes ≡ false → m ≤ length room → run ≡ register_run registers a (length (take m room))
      → left ≡ run ++ drop m room → lays m left ≡ laid (within && fits_room) (register_run registers address n) room
  unfolding over
  read_done a run left is-a inside small is-run is =
      let near : address + m ≤ register_count = ltb-false register_count (address + m) (sym is-passes ∙ inside) in
      let same : run ≡ register_run registers address n = is-run ∙ rw (length-take-le m room small, is-a, is-m) in
      let long : length run ≡ m = ap length same ∙ length_run registers address n ∙ sym is-m in
      laid_whole (within && fits_room) run (register_run registers address n) room left m
      (and_true within fits_room (le-leb (address + n) register_count (omega arith)) (le-leb n (length room) (omega arith)))
      same (sym long) (is ∙ rw long)
