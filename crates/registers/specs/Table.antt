-- 01, "Registers": the table. "Every other register reads 00 and isn't writable."
use Rattle.std.specs.Prelude.{ℕ, zero, suc, Bool, cond, ◌&&◌, ◌||◌, List, [], ◌∷◌, eqb, leb, get_or, replicate}
use Rattle.wire.specs.Room.{laid_at}
use Rattle.wire.specs.Addresses.{register_count}
use Rattle.registers.specs.declared.Registers.{Registers}

-- the registers that these bytes are
abbrev pub holding : List ℕ → Registers
holding bytes = record { bytes = bytes }

-- a row of the table: the first address and what stands there at the start
pub record Row : Type 0 where
  pub address : ℕ
  pub start : List ℕ

-- builds one
abbrev row : ℕ → List ℕ → Row
row address start = record { address = address; start = start }

-- the columns "Address" and "Start"
unfoldable pub start_rows : (h1 h2 : ℕ) → (checking acknowledging : Bool) → List Row
start_rows h1 h2 checking acknowledging =
    -- "00 | version | 10"
    row 0x00 (0x10 ∷ [])
    -- "01 | backlight, 00 to 3F | 3F"
    ∷ row 0x01 (0x3F ∷ [])
    -- "02 | buzzer, 10 ms units | 00"
    ∷ row 0x02 (0x00 ∷ [])
    -- "03-04 | page, below P | 0000"
    ∷ row 0x03 (0x00 ∷ 0x00 ∷ [])
    -- "05 | touch flag | 00"
    ∷ row 0x05 (0x00 ∷ [])
    -- "06 | touch status | 00"
    ∷ row 0x06 (0x00 ∷ [])
    -- "07-0A | touch X, Y | 0"
    ∷ row 0x07 (0x00 ∷ 0x00 ∷ 0x00 ∷ 0x00 ∷ [])
    -- "0B | touch enable, 00 is off | FF"
    ∷ row 0x0B (0xFF ∷ [])
    -- "12 | 10 if checking, else 00"
    ∷ row 0x12 (cond checking 0x10 0x00 ∷ [])
    -- "13, 1A | H1, H2"
    ∷ row 0x13 (h1 ∷ [])
    ∷ row 0x1A (h2 ∷ [])
    -- "1C | 08 if acknowledging, else 00"
    ∷ row 0x1C (cond acknowledging 0x08 0x00 ∷ [])
    -- 02, §6: "year, month, day, weekday, hour, minute, second in BCD"; "Panels start at the latter moment", 00:00:00 on 1 January 2000, a Saturday
    ∷ row 0x20 (0x00 ∷ 0x01 ∷ 0x01 ∷ 0x06 ∷ 0x00 ∷ 0x00 ∷ 0x00 ∷ [])
    ∷ []

-- rows laid one after the other over what stands
unfoldable pub with_rows : List Row → List ℕ → List ℕ
with_rows [] bytes = bytes
with_rows (r ∷ rows) bytes = with_rows rows (laid_at r.address r.start bytes)

-- "Every other register reads 00": the rows over zeros
unfoldable pub start_registers : (h1 h2 : ℕ) → (checking acknowledging : Bool) → Registers
start_registers h1 h2 checking acknowledging = holding (with_rows (start_rows h1 h2 checking acknowledging) (replicate register_count 0))

-- "Registers are addressed by byte": what a register reads
unfoldable pub register_at : Registers → ℕ → ℕ
register_at registers address = get_or registers.bytes address 0

-- "read registers": a run of n of them from an address on
unfoldable pub register_run : Registers → ℕ → ℕ → List ℕ
register_run registers address zero = []
register_run registers address (suc n) = register_at registers address ∷ register_run registers (suc address) n

-- 02, §2: "Register EB, from source document 003, clears"
abbrev pub clear_register : ℕ
clear_register = 0xEB

-- 02, §6: "with 5A first": the first of the clock's registers
abbrev pub set_register : ℕ
set_register = 0x1F

-- 02, §6: "year, month, day, ..": the first of those that show the moment
abbrev pub year_register : ℕ
year_register = 0x20

-- 02, §6: "the weekday byte"
abbrev pub weekday_register : ℕ
weekday_register = 0x23

-- 02, §6: "registers 1F to 26"
unfoldable pub is_clock : ℕ → Bool
is_clock address = leb 0x1F address && leb address 0x26

-- the column "Writable"; that the page's two bytes, 03 and 04, are written together is judged of the whole run. 02, §2: register EB "becomes writable". 02, §6: "A write
-- that covers all of 1F to 26 .. sets the clock"; that it covers all of them and no other is judged of the whole run too
unfoldable pub writable : ℕ → Bool
writable address =
    eqb address 0x01 || eqb address 0x02 || eqb address 0x03 || eqb address 0x04 || eqb address 0x05 || eqb address 0x0B || is_clock address || eqb address clear_register
