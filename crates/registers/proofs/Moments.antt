-- 02, §6: the clock's registers show a moment, from the start on, over every second and every write.
use mathlib.Core.Path.{◌≡◌, refl, sym, ap, ◌∙◌}
use mathlib.Core.Logic.{◌⊎◌, inl, ⊎_elim}
use mathlib.Core.Bool.{Bool, true, false, cond, not}
use mathlib.Core.List.{List, [], ◌∷◌}
use Prim.Native.Nat.{ℕ, zero, suc, ◌+◌, ◌≤◌, ◌<◌}
use native.Mathlib.Omega.{arith}
use lib.Dec.{eqb}
use lib.ListN.{length, get_or, drop}
use Rattle.wire.specs.ByteOrder.{byte_at}
use Rattle.wire.specs.Room.{laid_at}
use Rattle.wire.proofs.Truths.{or_right}
use Rattle.wire.proofs.LaidAt.{length_laid_at, laid_inside, laid_before, laid_behind}
use Rattle.clock.specs.declared.Moment.{Moment}
use Rattle.clock.specs.Calendar.{weekday_of}
use Rattle.clock.specs.Passing.{dated, timed, moment, next_second}
use Rattle.clock.specs.Shown.{shown, date_in, moment_in, wrong_moment}
use Rattle.clock.proofs.Computed.{computing_clock}
use Rattle.clock.proofs.Seconds.{next_exists}
use Rattle.clock.proofs.Shows.{shown_read_back, shown_again, not_wrong_exists}
use Rattle.registers.specs.declared.Registers.{Registers}
use Rattle.registers.specs.Table.{start_rows, with_rows, start_registers, register_at, register_run, set_register, is_clock}
use Rattle.registers.specs.Run.{sets_clock, touches_clock, unwritable_run, byte_for, wrong_setting, wrong_value, weekday_for, read_as, read_each, reads_as, registers_after}
use Rattle.registers.specs.Clocked.{moment_of, Stands, with_moment, second_passed}
use Rattle.registers.proofs.ClockRuns.{setting_run, clock_outside, setting_right, none_touched}
use Rattle.registers.proofs.Written.{others_stay, run_by_each, written_reads_back}

-- the moment at which a panel starts
abbrev pub first_moment : Moment
first_moment = moment (dated 0 1 1) (timed 0 0 0)

-- the clock of registers that show a moment stands at it
pub stands_at : (registers : Registers) (m : Moment) → Stands registers m → moment_of registers ≡ m
unfolding moment_of moment_in register_run
stands_at registers m at = ap (λ (run : List ℕ). moment_in (drop 1 run)) at.shows ∙ shown_read_back m at.exists

-- at whatever moment, it is the one that is read from them
pub stands : (registers : Registers) (m : Moment) → Stands registers m → Stands registers (moment_of registers)
stands registers m at = rw (stands_at registers m at) at

-- "Panels start at the latter moment."
pub start_stands : (h1 h2 : ℕ) (checking acknowledging : Bool) → Stands (start_registers h1 h2 checking acknowledging) first_moment
unfolding computing_clock start_registers start_rows with_rows laid_at register_at register_run
start_stands h1 h2 checking acknowledging = record { exists = refl; shows = refl }

-- registers of which the clock's are the same show the same moment
pub same_stands : (before after : Registers) (m : Moment) → ((register : ℕ) → is_clock register ≡ true → register_at after register ≡ register_at before register)
    → Stands before m → Stands after m
unfolding register_run is_clock
same_stands before after m same at =
    record {
      exists = at.exists;
      shows =
          rw (same 0x1F refl, same 0x20 refl, same 0x21 refl, same 0x22 refl, same 0x23 refl, same 0x24 refl, same 0x25 refl, same 0x26 refl) at.shows;
    }

length_shown : (m : Moment) → length (shown m) ≡ 7
unfolding shown
length_shown m = refl

-- a run of one register more at the front
one_before : (registers : Registers) (address n : ℕ) → register_run registers address (suc n) ≡ register_at registers address ∷ register_run registers (suc address) n
unfolding register_run
one_before registers address n = refl

-- "1F reads 00"
set_register_reads_00 : (registers : Registers) (m : Moment) → Stands registers m → register_at registers set_register ≡ 0x00
set_register_reads_00 registers m at = ap (λ (run : List ℕ). get_or run 0 0) (sym (one_before registers set_register 7) ∙ at.shows)

module _ (registers : Registers) (whole : length registers.bytes ≡ 256) where
  module _ (m : Moment) where
    -- what is laid changes 20 to 26 alone
    moment_others : (register : ℕ) → (register < 0x20) ⊎ (0x27 ≤ register) → register_at (with_moment registers m) register ≡ register_at registers register
    unfolding with_moment register_at
    moment_others register outside =
        let seven = length_shown m in
        ⊎_elim (laid_before registers.bytes (shown m) 0x20 (omega arith) register)
        (λ (behind : 0x27 ≤ register). laid_behind registers.bytes (shown m) 0x20 (omega arith) register (omega arith))
        outside

    length_moment : length (with_moment registers m).bytes ≡ 256
    unfolding with_moment
    length_moment =
        let seven = length_shown m in
        length_laid_at registers.bytes (shown m) 0x20 (omega arith) ∙ whole

    -- and there it shows the moment
    moment_shows : register_run (with_moment registers m) 0x20 (length (shown m)) ≡ shown m
    unfolding with_moment register_at
    moment_shows =
        let seven = length_shown m in
        run_by_each (with_moment registers m) 0x20 (shown m) (λ i inside. laid_inside registers.bytes (shown m) 0x20 (omega arith) i inside)

  -- Demand 2 with 02, §6, "lets a second change the clock's registers": 20 to 26 alone
  pub second_others : (register : ℕ) → (register < 0x20) ⊎ (0x27 ≤ register) → register_at (second_passed registers) register ≡ register_at registers register
  unfolding second_passed
  second_others = moment_others (next_second (moment_of registers))

  pub length_second : length (second_passed registers).bytes ≡ 256
  unfolding second_passed
  length_second = length_moment (next_second (moment_of registers))

  -- "one second, advances it"
  pub second_stands : (m : Moment) → Stands registers m → Stands (second_passed registers) (next_second m)
  unfolding second_passed
  second_stands m at =
      let next = next_second m in
      let front = moment_others next set_register (inl (omega arith)) ∙ set_register_reads_00 registers m at in
      rw (stands_at registers m at)
      (record {
        exists = next_exists m at.exists;
        shows = one_before (with_moment registers next) set_register 7 ∙ rw front (ap (λ (run : List ℕ). 0x00 ∷ run) (rw (length_shown next) at (moment_shows next)));
      })

-- ---- a write that sets the clock

-- a list's first n numbers, one by one
unfoldable numbers_of : (n : ℕ) → List ℕ → List ℕ
numbers_of zero xs = []
numbers_of (suc n) xs = get_or xs 0 0 ∷ numbers_of n (drop 1 xs)

all_of : (xs : List ℕ) → numbers_of (length xs) xs ≡ xs
unfolding numbers_of
all_of [] = refl
all_of (x ∷ xs) = ap (λ (rest : List ℕ). x ∷ rest) (all_of xs)

moved : (P : List ℕ → Type 0) (xs ys : List ℕ) → xs ≡ ys → P xs → P ys
moved P xs ys is holds = rw is at holds

-- what holds of any eight numbers holds of a list of that length
of_eight : (P : List ℕ → Type 0) → ((b0 b1 b2 b3 b4 b5 b6 b7 : ℕ) → P (b0 ∷ b1 ∷ b2 ∷ b3 ∷ b4 ∷ b5 ∷ b6 ∷ b7 ∷ [])) → (xs : List ℕ) → length xs ≡ 8 → P xs
of_eight P holds xs eight = moved P (numbers_of 8 xs) xs (rw eight at (all_of xs)) eights
  where
    eights : P (numbers_of 8 xs)
    eights = unfold numbers_of in holds (get_or xs 0 0) (get_or (drop 1 xs) 0 0) (get_or (drop 1 (drop 1 xs)) 0 0) (get_or (drop 1 (drop 1 (drop 1 xs))) 0 0)
        (get_or (drop 1 (drop 1 (drop 1 (drop 1 xs)))) 0 0) (get_or (drop 1 (drop 1 (drop 1 (drop 1 (drop 1 xs))))) 0 0)
        (get_or (drop 1 (drop 1 (drop 1 (drop 1 (drop 1 (drop 1 xs)))))) 0 0) (get_or (drop 1 (drop 1 (drop 1 (drop 1 (drop 1 (drop 1 (drop 1 xs))))))) 0 0)

moment_right : (bytes : List ℕ) → wrong_setting bytes ≡ false → wrong_moment (drop 1 bytes) ≡ false
unfolding wrong_setting
moment_right bytes right = or_right (not (eqb (byte_at bytes 0) 0x5A)) (wrong_moment (drop 1 bytes)) right

-- "the weekday byte is ignored and worked out .. Afterwards 1F reads 00": what eight bytes read, byte by byte, once they are written
pub eight_read_back : (b0 year month day sent hour minute second : ℕ)
    → reads_as set_register (b0 ∷ year ∷ month ∷ day ∷ sent ∷ hour ∷ minute ∷ second ∷ [])
    ≡ 0x00 ∷ year ∷ month ∷ day ∷ weekday_of (date_in year month day) ∷ hour ∷ minute ∷ second ∷ []
unfolding reads_as read_each read_as weekday_for byte_for
eight_read_back b0 year month day sent hour minute second = refl

eight_read : (b0 year month day sent hour minute second : ℕ) → wrong_moment (year ∷ month ∷ day ∷ sent ∷ hour ∷ minute ∷ second ∷ []) ≡ false
    → reads_as set_register (b0 ∷ year ∷ month ∷ day ∷ sent ∷ hour ∷ minute ∷ second ∷ [])
    ≡ 0x00 ∷ shown (moment_in (year ∷ month ∷ day ∷ sent ∷ hour ∷ minute ∷ second ∷ []))
eight_read b0 year month day sent hour minute second right =
    eight_read_back b0 year month day sent hour minute second
    ∙ ap (λ (run : List ℕ). 0x00 ∷ run) (sym (shown_again year month day sent hour minute second right))

-- 02, §6: "sets the clock; the weekday byte is ignored and worked out ... Afterwards 1F reads 00": what the eight registers read then
setting_reads : (bytes : List ℕ) → length bytes ≡ 8 → wrong_setting bytes ≡ false → reads_as set_register bytes ≡ 0x00 ∷ shown (moment_in (drop 1 bytes))
setting_reads =
    of_eight (λ (bytes : List ℕ). wrong_setting bytes ≡ false → reads_as set_register bytes ≡ 0x00 ∷ shown (moment_in (drop 1 bytes)))
    (λ b0 b1 b2 b3 b4 b5 b6 b7 right. eight_read b0 b1 b2 b3 b4 b5 b6 b7 (moment_right (b0 ∷ b1 ∷ b2 ∷ b3 ∷ b4 ∷ b5 ∷ b6 ∷ b7 ∷ []) right))

module _ (registers : Registers) (whole : length registers.bytes ≡ 256) (address : ℕ) (bytes : List ℕ) (fits : address + length bytes ≤ 256) where
  -- a write that sets it, and is not wrong, sets it to the moment of its bytes
  pub setting_stands : sets_clock address (length bytes) ≡ true → wrong_setting bytes ≡ false
      → Stands (registers_after registers address bytes) (moment_in (drop 1 bytes))
  setting_stands sets right =
      let run = setting_run address (length bytes) sets in
      rw run.0
      (record {
        exists = not_wrong_exists (drop 1 bytes) (moment_right bytes right);
        shows =
            (rw run.1 at (written_reads_back registers whole set_register bytes (rw run.0 at fits)))
            ∙ setting_reads bytes run.1 right;
      })

  -- a write that touches none of the clock's registers leaves it
  write_stands : (m : Moment) → touches_clock address (length bytes) ≡ false → Stands registers m → Stands (registers_after registers address bytes) m
  write_stands m none =
      same_stands registers (registers_after registers address bytes) m
      (λ register is. others_stay registers whole address bytes fits register (clock_outside address (length bytes) register is none))

  -- a write that is refused neither with 5 nor with 6: the clock stands at the moment that it is set to, or where it stood
  pub allowed_stands : unwritable_run address (length bytes) ≡ false → (pages : ℕ) → wrong_value address bytes pages ≡ false → (m : Moment) → Stands registers m
      → Stands (registers_after registers address bytes) (cond (sets_clock address (length bytes)) (moment_in (drop 1 bytes)) m)
  allowed_stands may pages right m at = go (sets_clock address (length bytes)) refl
    where
      go : (sets : Bool) → sets_clock address (length bytes) ≡ sets → Stands (registers_after registers address bytes) (cond sets (moment_in (drop 1 bytes)) m)
      go true is = setting_stands is (setting_right address bytes pages right is)
      go false is = write_stands m (none_touched address (length bytes) may is) at
