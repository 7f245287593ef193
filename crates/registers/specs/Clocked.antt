-- 02, §6: "registers 1F to 26 ..: year, month, day, weekday, hour, minute, second in BCD".
use Rattle.std.specs.Prelude.{ℕ, ◌≡◌, true, ◌∷◌}
use Rattle.wire.specs.Room.{laid_at}
use Rattle.clock.specs.declared.Moment.{Moment}
use Rattle.clock.specs.Existing.{moment_exists}
use Rattle.clock.specs.Passing.{moment, next_second}
use Rattle.clock.specs.Shown.{shown, date_in, time_in}
use Rattle.registers.specs.declared.Registers.{Registers}
use Rattle.registers.specs.Table.{holding, register_at, register_run, set_register, year_register, is_clock}
use Rattle.registers.specs.Run.{covers}

-- "year, month, day, .. hour, minute, second": the moment at which the clock stands
unfoldable pub moment_of : Registers → Moment
moment_of registers =
    moment
    (date_in (register_at registers 0x20) (register_at registers 0x21) (register_at registers 0x22))
    (time_in (register_at registers 0x24) (register_at registers 0x25) (register_at registers 0x26))

-- a word of ours: the clock's registers show this moment, which exists; "1F reads 00"
pub record Stands (registers : Registers) (m : Moment) : Type 0 where
  pub exists : moment_exists m ≡ true
  pub shows : register_run registers set_register 8 ≡ 0x00 ∷ shown m

-- the clock set to a moment: its seven registers show it
unfoldable pub with_moment : Registers → Moment → Registers
with_moment registers m = holding (laid_at year_register (shown m) registers.bytes)

-- "one second, advances it"
unfoldable pub second_passed : Registers → Registers
second_passed registers = with_moment registers (next_second (moment_of registers))

-- "a write touching some" of the eight: one of the run's registers is one of them
pub record HasClockRegister (address n : ℕ) : Type 0 where
  pub register : ℕ
  pub is_clock : is_clock register ≡ true
  pub has : covers address n register ≡ true
