-- 01, "Registers", the columns "Meaning" and "Writable": what a write that is not refused with 5 or 6 leaves.
use mathlib.Core.Path.{◌≡◌, refl, sym, ap, ◌∙◌}
use mathlib.Core.Bool.{Bool, true, false, ◌&&◌, ◌||◌, not}
use mathlib.Core.List.{List}
use Prim.Native.Nat.{ℕ, zero, suc, ◌+◌, ◌-◌, ◌≤◌, ◌<◌}
use native.Mathlib.Omega.{arith}
use borrow.Author.Tests.{leb-false, le-leb}
use Rattle.std.proofs.lemmas.Bool.Decides.{nat_tests}
use mathlib.Core.Logic.{⊎_elim}
use native.Mathlib.Nat.{eq-or-lt_of_le}
use lib.Dec.{leb, ltb}
use lib.ListN.{length, get_or}
use Rattle.wire.specs.ByteOrder.{word}
use Rattle.wire.proofs.Truths.{never, and_left, and_right, or_left, or_right}
use Rattle.wire.proofs.LaidAt.{length_laid_at}
use Rattle.registers.specs.declared.Registers.{Registers}
use Rattle.registers.specs.Table.{register_at, clear_register, set_register, weekday_register, writable}
use Rattle.registers.specs.Run.{covers, all_writable, half_page, part_of_clock, unwritable_run, byte_for, clearing, wrong_clock, wrong_value, weekday_for, read_as, reads_as, registers_after}
use Rattle.registers.specs.Touched.{page_of}
use Rattle.registers.proofs.Covered.{in_run_lem, out_of_run}
use Rattle.registers.proofs.ReadsAs.{length_reads_as, clear_reads, other_reads}
use Rattle.registers.proofs.Written.{written_at, others_stay}
use Rattle.registers.proofs.Touched.{same_page}

pub neither : (a b : Bool) → (a || b) ≡ false → (a ≡ false) × (b ≡ false)
neither a b is = (or_left a b is, or_right a b is)

-- a run that is not refused with 5 is writable
pub run_is_writable : (address n : ℕ) → unwritable_run address n ≡ false → all_writable address n ≡ true
unfolding unwritable_run
run_is_writable address n may = grind (arith, nat_tests)

-- every register of the run is writable
all_writable_lem : (address n : ℕ) → all_writable address n ≡ true → (register : ℕ) → address ≤ register → register < address + n → writable register ≡ true
unfolding all_writable
all_writable_lem address zero all register from below = absurd (omega arith)
all_writable_lem address (suc n) all register from below =
    ⊎_elim (λ here. rw (← here) (and_left (writable address) (all_writable (suc address) n) all))
    (λ there. all_writable_lem (suc address) n (and_right (writable address) (all_writable (suc address) n) all) register there (omega arith))
    (eq-or-lt_of_le from)

module _ (registers : Registers) (whole : length registers.bytes ≡ 256) (address : ℕ) (bytes : List ℕ) (fits : address + length bytes ≤ 256) where
  pub length_written : length (registers_after registers address bytes).bytes ≡ 256
  unfolding registers_after
  length_written =
      let long = length_reads_as address bytes in
      rw (le-leb (address + length bytes) 256 fits) (length_laid_at registers.bytes (reads_as address bytes) address (omega arith) ∙ whole)

  -- what the run covers reads as the byte given to it
  reads_now : (register : ℕ) → covers address (length bytes) register ≡ true
      → register_at (registers_after registers address bytes) register ≡ read_as (weekday_for address bytes) register (byte_for address bytes register)
  unfolding byte_for
  reads_now register is =
      let two = in_run_lem address (length bytes) register is in
      let place : address + (register - address) ≡ register = omega arith in
      ap (register_at (registers_after registers address bytes)) (sym place)
      ∙ written_at registers whole address bytes fits (register - address) (omega arith)
      ∙ ap (λ (r : ℕ). read_as (weekday_for address bytes) r (get_or bytes (register - address) 0)) place

  -- and is that byte, but for EB, 1F and the weekday
  given_now : (register : ℕ) → (register ≡ clear_register → ⊥) → (register ≡ set_register → ⊥) → (register ≡ weekday_register → ⊥) → covers address (length bytes) register ≡ true
      → register_at (registers_after registers address bytes) register ≡ byte_for address bytes register
  given_now register not-clear not_set not-weekday is =
      reads_now register is ∙ sym (other_reads (weekday_for address bytes) register (byte_for address bytes register) not-clear not_set not-weekday)

  stays_out : (register : ℕ) → covers address (length bytes) register ≡ false → register_at (registers_after registers address bytes) register ≡ register_at registers register
  stays_out register is = others_stay registers whole address bytes fits register (out_of_run address (length bytes) register is)

  -- 02, §2: EB "reads 00", whatever is written
  pub clear_reads_00 : register_at registers clear_register ≡ 0 → register_at (registers_after registers address bytes) clear_register ≡ 0
  clear_reads_00 before = go (covers address (length bytes) clear_register) refl
    where
      go : (b : Bool) → covers address (length bytes) clear_register ≡ b → register_at (registers_after registers address bytes) clear_register ≡ 0
      go true is = reads_now clear_register is ∙ sym (clear_reads (weekday_for address bytes) clear_register (byte_for address bytes clear_register) refl)
      go false is = stays_out clear_register is ∙ before

  module _ (may : unwritable_run address (length bytes) ≡ false) where
    -- "isn't writable": what is not stays, whatever is registers_after
    pub unwritable_stays : (register : ℕ) → writable register ≡ false → register_at (registers_after registers address bytes) register ≡ register_at registers register
    unwritable_stays register closed = go (covers address (length bytes) register) refl
      where
        go : (b : Bool) → covers address (length bytes) register ≡ b → register_at (registers_after registers address bytes) register ≡ register_at registers register
        go false is = stays_out register is
        go true is =
            let two = in_run_lem address (length bytes) register is in
            let is-writable = all_writable_lem address (length bytes) (run_is_writable address (length bytes) may) register two.0 two.1 in
            never (cc)

    -- "page, below P", "both bytes together"
    pub page_stays_below : (pages : ℕ) → wrong_value address bytes pages ≡ false → page_of registers < pages → page_of (registers_after registers address bytes) < pages
    unfolding unwritable_run half_page wrong_value
    page_stays_below pages right below =
        go (covers address (length bytes) 0x03) refl (covers address (length bytes) 0x04) refl
        (neither (not (all_writable address (length bytes))) _ (neither _ (part_of_clock address (length bytes)) may).0).1
        (neither (covers address (length bytes) 0x01 && ltb 0x3F (byte_for address bytes 0x01)) _
        (neither _ (covers address (length bytes) clear_register && not (clearing (byte_for address bytes clear_register)))
        (neither _ (wrong_clock address bytes) right).0).0).1
      where
        go : (high : Bool) → covers address (length bytes) 0x03 ≡ high → (low : Bool) → covers address (length bytes) 0x04 ≡ low
            → (high && not low || not high && low) ≡ false
            → (high && leb pages (word (byte_for address bytes 0x03) (byte_for address bytes 0x04))) ≡ false
            → page_of (registers_after registers address bytes) < pages
        go true p true q half value =
            let least : word (byte_for address bytes 0x03) (byte_for address bytes 0x04) < pages =
            leb-false pages (word (byte_for address bytes 0x03) (byte_for address bytes 0x04)) value in
            unfold page_of in rw (given_now 0x03 (λ e. omega arith) (λ e. omega arith) (λ e. omega arith) p, given_now 0x04 (λ e. omega arith) (λ e. omega arith) (λ e. omega arith) q) least
        go true p false q half value = never (cc)
        go false p true q half value = never (cc)
        go false p false q half value = rw (same_page (registers_after registers address bytes) registers (stays_out 0x03 p) (stays_out 0x04 q)) below
