-- 01, "Registers" and "Contact and lift": the registers that a touch reads and sets.
use Rattle.std.specs.Prelude.{ℕ, Bool, cond, ◌||◌, ◌++◌, eqb, set}
use Rattle.wire.specs.ByteOrder.{word, high_first}
use Rattle.wire.specs.Room.{laid_at}
use Rattle.registers.specs.declared.Registers.{Registers}
use Rattle.registers.specs.Table.{holding, register_at}

-- "03-04 | page": the number that stands there
unfoldable pub page_of : Registers → ℕ
page_of registers = word (register_at registers 0x03) (register_at registers 0x04)

-- "03-04 | page", set to this number, "both bytes together"
unfoldable pub with_page : Registers → ℕ → Registers
with_page registers page = holding (laid_at 0x03 (high_first page) registers.bytes)

-- "Contact while up: status 01", "Contact while down: status 03": down while one of the two stands in "06 | touch status"; 02 once lifted, 00 before the
-- first contact
unfoldable pub is_down : Registers → Bool
is_down registers = eqb (register_at registers 0x06) 0x01 || eqb (register_at registers 0x06) 0x03

-- "06 | touch status", set to this byte
unfoldable pub with_status : Registers → ℕ → Registers
with_status registers status = holding (set registers.bytes 0x06 status)

-- "0B | touch enable, 00 is off"
unfoldable pub is_touch_off : Registers → Bool
is_touch_off registers = eqb (register_at registers 0x0B) 0x00

-- "if the flag isn't 5A, X and Y are stored and the flag becomes 5A"
unfoldable pub with_place : Registers → (x y : ℕ) → Registers
with_place registers x y =
    cond (eqb (register_at registers 0x05) 0x5A) registers
    (holding (laid_at 0x07 (high_first x ++ high_first y) (set registers.bytes 0x05 0x5A)))
