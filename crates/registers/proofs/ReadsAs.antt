-- Laws of `reads_as`: what a run reads once it has been written.
use mathlib.Core.Path.{◌≡◌, refl, sym, ap, ◌∙◌}
use mathlib.Core.Logic.{◌⊎◌, inl, inr, ⊎_elim}
use mathlib.Core.Bool.{false}
use mathlib.Core.List.{List, [], ◌∷◌}
use Prim.Native.Nat.{ℕ, zero, suc, ◌+◌, ◌≤◌, ◌<◌}
use native.Mathlib.Nat.{add-zero}
use native.Mathlib.Omega.{arith}
use borrow.Author.Tests.{eq-eqb, ne_eqb}
use lib.ListN.{length, get_or}
use Rattle.registers.specs.Table.{clear_register, set_register, weekday_register}
use Rattle.registers.proofs.ClockRuns.{clock_apart}
use Rattle.registers.specs.Run.{touches_clock, weekday_for, read_as, read_each, reads_as}

length_read_each : (weekday address : ℕ) (bytes : List ℕ) → length (read_each weekday address bytes) ≡ length bytes
unfolding read_each
length_read_each weekday address [] = refl
length_read_each weekday address (b ∷ bytes) = ap suc (length_read_each weekday (suc address) bytes)

pub length_reads_as : (address : ℕ) (bytes : List ℕ) → length (reads_as address bytes) ≡ length bytes
unfolding reads_as
length_reads_as address bytes = length_read_each (weekday_for address bytes) address bytes

read_each_at : (weekday address : ℕ) (bytes : List ℕ) (i : ℕ) → i < length bytes
    → get_or (read_each weekday address bytes) i 0 ≡ read_as weekday (address + i) (get_or bytes i 0)
unfolding read_each
read_each_at weekday address [] i inside = absurd (omega arith)
read_each_at weekday address (b ∷ bytes) zero inside = ap (λ (a : ℕ). read_as weekday a b) (sym (add-zero address))
read_each_at weekday address (b ∷ bytes) (suc i) inside =
    let place : suc address + i ≡ address + suc i = omega arith in
    read_each_at weekday (suc address) bytes i (omega arith) ∙ ap (λ (a : ℕ). read_as weekday a (get_or bytes i 0)) place

pub reads_as_at : (address : ℕ) (bytes : List ℕ) (i : ℕ) → i < length bytes
    → get_or (reads_as address bytes) i 0 ≡ read_as (weekday_for address bytes) (address + i) (get_or bytes i 0)
unfolding reads_as
reads_as_at address bytes i = read_each_at (weekday_for address bytes) address bytes i

module _ (weekday register b : ℕ) where
  -- "it becomes writable and reads 00"
  pub clear_reads : register ≡ clear_register → 0 ≡ read_as weekday register b
  unfolding read_as
  clear_reads is = rw (eq-eqb register clear_register is)

  -- any other register but 1F and the weekday's reads what was written
  pub other_reads : (register ≡ clear_register → ⊥) → (register ≡ set_register → ⊥) → (register ≡ weekday_register → ⊥) → b ≡ read_as weekday register b
  unfolding read_as
  other_reads not-clear not_set not-weekday =
      rw (ne_eqb register clear_register not-clear, ne_eqb register set_register not_set, ne_eqb register weekday_register not-weekday)

-- a run of which no register is one of these three
plain_run : (weekday address : ℕ) (bytes : List ℕ) → (clear_register < address) ⊎ (address + length bytes ≤ clear_register)
    → (weekday_register < address) ⊎ (address + length bytes ≤ set_register) → read_each weekday address bytes ≡ bytes
unfolding read_each
plain_run weekday address [] no-clear no-clock = refl
plain_run weekday address (b ∷ bytes) no-clear no-clock =
    rw (
      ← other_reads weekday address b (λ is. outside clear_register clear_register no-clear (omega arith) (omega arith))
          (λ is. outside weekday_register set_register no-clock (omega arith) (omega arith))
          (λ is. outside weekday_register set_register no-clock (omega arith) (omega arith)),
      plain_run weekday (suc address) bytes (next clear_register clear_register no-clear) (next weekday_register set_register no-clock),
    )
  where
    outside : (last first : ℕ) → (last < address) ⊎ (address + suc (length bytes) ≤ first) → address ≤ last → first ≤ address → ⊥
    outside last first (inl past) here here' = omega arith
    outside last first (inr before) here here' = omega arith

    next : (last first : ℕ) → (last < address) ⊎ (address + suc (length bytes) ≤ first) → (last < suc address) ⊎ (suc address + length bytes ≤ first)
    next last first (inl past) = inl (omega arith)
    next last first (inr before) = inr (omega arith)

-- a run without EB and without the clock's registers reads what was written
pub reads_as_written : (address : ℕ) (bytes : List ℕ) → (clear_register < address) ⊎ (address + length bytes ≤ clear_register)
    → touches_clock address (length bytes) ≡ false → reads_as address bytes ≡ bytes
unfolding reads_as
reads_as_written address [] no-clear no-clock = unfold read_each in refl
reads_as_written address (b ∷ bytes) no-clear no-clock =
    plain_run (weekday_for address (b ∷ bytes)) address (b ∷ bytes) no-clear
    (⊎_elim (λ (past : 0x26 < address). inl (omega arith)) (λ (before : address + length (b ∷ bytes) ≤ set_register). inr before)
    (clock_apart address (length (b ∷ bytes)) (omega arith) no-clock))
