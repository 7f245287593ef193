-- 02, §6: what a run has to do with the clock's registers.
use mathlib.Core.Path.{◌≡◌, refl, sym, ◌∙◌}
use mathlib.Core.Logic.{◌⊎◌, ◌↔◌}
use mathlib.Core.Bool.{Bool, true, false, ◌||◌, not}
use mathlib.Core.List.{List}
use Prim.Native.Nat.{ℕ, max, ◌+◌, ◌≤◌, ◌<◌}
use native.Mathlib.Omega.{arith}
use Rattle.std.proofs.Math.Bool.{or-true, and-true}
use Rattle.std.proofs.lemmas.Bool.Decides.{nat_tests}
use lib.ListN.{length}
use Rattle.wire.proofs.Truths.{never, or_right}
use Rattle.registers.specs.Table.{set_register, is_clock, writable}
use Rattle.registers.specs.Clocked.{HasClockRegister}
use Rattle.registers.proofs.Covered.{in_run_lem, out_of_run}
use Rattle.registers.specs.Run.{covers, all_writable, half_page, sets_clock, touches_clock, part_of_clock, unwritable_run, wrong_setting, wrong_clock, wrong_value}

-- a run that is not empty and touches none of them lies before or behind them
pub clock_apart : (address n : ℕ) → 0 < n → touches_clock address n ≡ false → (0x26 < address) ⊎ (address + n ≤ 0x1F)
unfolding touches_clock
clock_apart address n some none = grind (arith, nat_tests)

-- a run that touches them is not empty
pub touched_some : (address n : ℕ) → touches_clock address n ≡ true → 0 < n
unfolding touches_clock
touched_some address n is = grind (arith, nat_tests)

-- and has one of them: the first of both
clock_had : (address n : ℕ) → touches_clock address n ≡ true → HasClockRegister address n
unfolding touches_clock is_clock covers
clock_had address n is = record { register = max address 0x1F; is_clock = grind (arith, nat_tests); has = grind (arith, nat_tests) }

-- a run that has one of them touches them
pub clock_touched : (address n register : ℕ) → is_clock register ≡ true → address ≤ register → register < address + n → touches_clock address n ≡ true
unfolding touches_clock is_clock
clock_touched address n register is from below = grind (arith, nat_tests)

-- 02, §6, "a write touching some": exactly where one of the run's registers is one of the clock's
pub touches_exactly : (address n : ℕ) → (touches_clock address n ≡ true) ↔ HasClockRegister address n
touches_exactly address n = (
  clock_had address n,
  λ found.
      let inside = in_run_lem address n found.register found.has in
      clock_touched address n found.register found.is_clock inside.0 inside.1,
)

-- so a run that touches none has none
pub clock_outside : (address n register : ℕ) → is_clock register ≡ true → touches_clock address n ≡ false → (register < address) ⊎ (address + n ≤ register)
clock_outside address n register is none = go (covers address n register) refl
  where
    go : (b : Bool) → covers address n register ≡ b → (register < address) ⊎ (address + n ≤ register)
    go true has =
        never (let e : true ≡ false = sym ((touches_exactly address n).1 (record { register = register; is_clock = is; has = has })) ∙ none in cc)
    go false has = out_of_run address n register has

-- the run that sets the clock
pub setting_run : (address n : ℕ) → sets_clock address n ≡ true → (address ≡ set_register) × (n ≡ 8)
unfolding sets_clock
setting_run address n is = (grind (arith, nat_tests), grind (arith, nat_tests))

-- a write that is not refused with 5 and does not set the clock touches none of its registers
pub none_touched : (address n : ℕ) → unwritable_run address n ≡ false → sets_clock address n ≡ false → touches_clock address n ≡ false
unfolding unwritable_run part_of_clock
none_touched address n may other = rw (other, and-true) at (or_right (not (all_writable address n) || half_page address n) _ may)

-- 02, §6: a write of just the eight is not refused with 5, and with 6 for what it would set the clock to and for nothing else
pub setting_may : (address n : ℕ) → sets_clock address n ≡ true → unwritable_run address n ≡ false
unfolding unwritable_run all_writable writable is_clock half_page covers part_of_clock touches_clock sets_clock
setting_may address n sets =
    let run = setting_run address n sets in
    rw (run.0, run.1)

pub setting_values : (address : ℕ) (bytes : List ℕ) (pages : ℕ) → sets_clock address (length bytes) ≡ true → wrong_value address bytes pages ≡ wrong_setting bytes
unfolding wrong_value wrong_clock covers sets_clock
setting_values address bytes pages sets =
    let run = setting_run address (length bytes) sets in
    rw (run.0, run.1)

-- so one that is not refused with 6 shows a moment, behind 5A
pub setting_right : (address : ℕ) (bytes : List ℕ) (pages : ℕ) → wrong_value address bytes pages ≡ false → sets_clock address (length bytes) ≡ true → wrong_setting bytes ≡ false
setting_right address bytes pages right sets = sym (setting_values address bytes pages sets) ∙ right

-- and 5 for every other run that touches one of them
pub part_refused : (address n : ℕ) → touches_clock address n ≡ true → sets_clock address n ≡ false → unwritable_run address n ≡ true
unfolding unwritable_run part_of_clock
part_refused address n touches other = rw (touches, other, or-true)

clock_apart_from : (register : ℕ) → is_clock register ≡ false → (register < 0x1F) ⊎ (0x27 ≤ register)
unfolding is_clock
clock_apart_from register other = grind (arith, nat_tests)

-- what is not writable is none of them, and a second leaves it
pub unwritable_apart : (register : ℕ) → writable register ≡ false → (register < 0x20) ⊎ (0x27 ≤ register)
unfolding writable is_clock
unwritable_apart register not_written = grind (arith, nat_tests)

-- they lie behind the registers that a touch sets
pub clock_behind : (register : ℕ) → is_clock register ≡ true → 0x0B ≤ register
unfolding is_clock
clock_behind register is = grind (arith, nat_tests)

-- a register that is none of them lies outside the run that sets the clock
pub setting_outside : (address n register : ℕ) → sets_clock address n ≡ true → is_clock register ≡ false → (register < address) ⊎ (address + n ≤ register)
unfolding sets_clock is_clock
setting_outside address n register sets other = grind (arith, nat_tests)
