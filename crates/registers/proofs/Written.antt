-- What a write leaves: its run reads back what was registers_after, and no other register changes.
use mathlib.Core.Path.{◌≡◌, refl, sym, ap, ◌∙◌}
use mathlib.Core.Logic.{◌⊎◌, ⊎_elim}
use mathlib.Core.List.{List, [], ◌∷◌}
use Prim.Native.Nat.{ℕ, suc, ◌+◌, ◌≤◌, ◌<◌}
use native.Mathlib.Omega.{arith}
use borrow.Author.Tests.{le-leb}
use lib.ListN.{length, get_or}
use Rattle.wire.specs.Room.{laid_at}
use Rattle.wire.proofs.LaidAt.{laid_inside, laid_before, laid_behind}
use Rattle.registers.specs.declared.Registers.{Registers}
use Rattle.registers.specs.Table.{register_at, register_run}
use Rattle.registers.specs.Run.{weekday_for, read_as, reads_as, registers_after}
use Rattle.registers.proofs.ReadsAs.{length_reads_as, reads_as_at}

module _ (registers : Registers) (whole : length registers.bytes ≡ 256) (address : ℕ) (bytes : List ℕ) (fits : address + length bytes ≤ 256) where
  -- the registers after a write
  abbrev after : Registers
  after = registers_after registers address bytes

  laid_bytes : after.bytes ≡ laid_at address (reads_as address bytes) registers.bytes
  unfolding registers_after
  laid_bytes = rw (le-leb (address + length bytes) 256 fits)

  -- as long as the bytes written
  whole_run : length (reads_as address bytes) ≡ length bytes
  whole_run = length_reads_as address bytes

  -- inside the run stands what each byte reads once written
  pub written_at : (i : ℕ) → i < length bytes → register_at after (address + i) ≡ read_as (weekday_for address bytes) (address + i) (get_or bytes i 0)
  unfolding register_at
  written_at i inside =
      rw laid_bytes
      (laid_inside registers.bytes (reads_as address bytes) address (omega (arith, whole_run)) i (omega (arith, whole_run)) ∙ reads_as_at address bytes i inside)

  -- "No .. register changes but those the command .. names"
  pub others_stay : (register : ℕ) → (register < address) ⊎ (address + length bytes ≤ register) → register_at after register ≡ register_at registers register
  unfolding register_at
  others_stay register outside =
      rw laid_bytes
      (⊎_elim (laid_before registers.bytes (reads_as address bytes) address (omega (arith, whole_run)) register)
      (λ (behind : address + length bytes ≤ register).
      laid_behind registers.bytes (reads_as address bytes) address (omega (arith, whole_run)) register (omega (arith, whole_run)))
      outside)

-- a run is its registers one by one
pub run_by_each : (registers : Registers) (address : ℕ) (bytes : List ℕ) → ((i : ℕ) → i < length bytes → register_at registers (address + i) ≡ get_or bytes i 0)
    → register_run registers address (length bytes) ≡ bytes
unfolding register_run
run_by_each registers address [] each = refl
run_by_each registers address (b ∷ bytes) each =
    let here : address + 0 ≡ address = omega arith in
    rw (
      ap (register_at registers) (sym here) ∙ each 0 (omega arith),
      run_by_each registers (suc address) bytes (λ i h. ap (register_at registers) (next i) ∙ each (suc i) (omega arith)),
    )
  where
    next : (i : ℕ) → suc address + i ≡ address + suc i
    next i = omega arith

-- what was written is read back, as `reads_as` says
pub written_reads_back : (registers : Registers) → length registers.bytes ≡ 256 → (address : ℕ) (bytes : List ℕ) → address + length bytes ≤ 256
    → register_run (registers_after registers address bytes) address (length bytes) ≡ reads_as address bytes
written_reads_back registers whole address bytes fits =
    let long = length_reads_as address bytes in
    let all : register_run (registers_after registers address bytes) address (length (reads_as address bytes)) ≡ reads_as address bytes =
    run_by_each (registers_after registers address bytes) address (reads_as address bytes)
    (λ i inside. written_at registers whole address bytes fits i (omega arith) ∙ sym (reads_as_at address bytes i (omega arith))) in
    rw long at all
