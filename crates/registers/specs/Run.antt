-- 01, "Numbers given back": what is wrong with a run of registers that is to be written, and what writing it leaves.
use Rattle.std.specs.Prelude.{ℕ, zero, suc, ◌+◌, ◌-◌, Bool, true, cond, ◌&&◌, ◌||◌, not, List, [], ◌∷◌, eqb, leb, ltb, length, get_or, drop}
use Rattle.wire.specs.ByteOrder.{word, byte_at}
use Rattle.wire.specs.Room.{laid_at}
use Rattle.registers.specs.declared.Registers.{Registers}
use Rattle.wire.specs.Addresses.{register_count}
use Rattle.clock.specs.Calendar.{weekday_of}
use Rattle.clock.specs.Shown.{date_in, wrong_moment}
use Rattle.registers.specs.Table.{holding, clear_register, set_register, weekday_register, writable}

-- the run of n registers from an address on has this one
unfoldable pub covers : ℕ → ℕ → ℕ → Bool
covers address n register = leb address register && ltb register (address + n)

-- each register of the run may be written: it is not so that the write "touches an unwritable register"
unfoldable pub all_writable : ℕ → ℕ → Bool
all_writable address zero = true
all_writable address (suc n) = writable address && all_writable (suc address) n

-- "half the page"
unfoldable pub half_page : ℕ → ℕ → Bool
half_page address n = covers address n 0x03 && not (covers address n 0x04) || not (covers address n 0x03) && covers address n 0x04

-- 02, §6: "A write that covers all of 1F to 26", and no other register
unfoldable pub sets_clock : ℕ → ℕ → Bool
sets_clock address n = eqb address set_register && eqb n 8

-- 02, §6: "a write touching some" of the eight: it is not empty, begins at the last of them or before it, and ends at the first or behind it
unfoldable pub touches_clock : ℕ → ℕ → Bool
touches_clock address n = ltb 0 n && leb address 0x26 && ltb 0x1F (address + n)

-- 02, §6: "5 for a write touching some but not all eight or joined with others"
unfoldable pub part_of_clock : ℕ → ℕ → Bool
part_of_clock address n = touches_clock address n && not (sets_clock address n)

-- 5: "a write touches an unwritable register or half the page"; 02, §6: "5 for a write touching some but not all eight or joined with others"
unfoldable pub unwritable_run : ℕ → ℕ → Bool
unwritable_run address n = not (all_writable address n) || half_page address n || part_of_clock address n

-- the byte that a run of these bytes gives to a register
unfoldable pub byte_for : ℕ → List ℕ → ℕ → ℕ
byte_for address bytes register = get_or bytes (register - address) 0

-- 02, §2: "clears: 55 all, 56 to 5D channel 0 to 7": the values that register EB takes
unfoldable pub clearing : (value : ℕ) → Bool
clearing value = leb 0x55 value && leb value 0x5D

-- 02, §6: "6 for a first byte other than 5A, a bad digit outside the weekday, or a date or time that doesn't exist"
unfoldable pub wrong_setting : (bytes : List ℕ) → Bool
wrong_setting bytes = not (eqb (byte_at bytes 0) 0x5A) || wrong_moment (drop 1 bytes)

-- 02, §6: the same of a write "that covers all of 1F to 26", and of no other
unfoldable pub wrong_clock : (address : ℕ) → (bytes : List ℕ) → Bool
wrong_clock address bytes = sets_clock address (length bytes) && wrong_setting bytes

-- 6: "backlight above 3F, or page not below P"; 02, §2: "6 for any other value in EB"; 02, §6: "6 for a first byte other than 5A, .."
unfoldable pub wrong_value : ℕ → List ℕ → ℕ → Bool
wrong_value address bytes pages =
    let n = length bytes in
    covers address n 0x01 && ltb 0x3F (byte_for address bytes 0x01)
    || covers address n 0x03 && leb pages (word (byte_for address bytes 0x03) (byte_for address bytes 0x04))
    || covers address n clear_register && not (clearing (byte_for address bytes clear_register))
    || wrong_clock address bytes

-- 02, §6: "the weekday byte is ignored and worked out in the Gregorian calendar": that of the date that a run of these bytes gives to the clock
unfoldable pub weekday_for : (address : ℕ) → (bytes : List ℕ) → ℕ
weekday_for address bytes = weekday_of (date_in (byte_for address bytes 0x20) (byte_for address bytes 0x21) (byte_for address bytes 0x22))

-- what a register reads once a byte has been written to it: that byte, but 02, §2, register EB "reads 00"; 02, §6: "Afterwards 1F reads 00", and the weekday's
-- register reads the weekday that was worked out
unfoldable pub read_as : (weekday register b : ℕ) → ℕ
read_as weekday register b = cond (eqb register clear_register || eqb register set_register) 0x00 (cond (eqb register weekday_register) weekday b)

-- the same of each byte of a run
unfoldable pub read_each : (weekday address : ℕ) → (bytes : List ℕ) → List ℕ
read_each weekday address [] = []
read_each weekday address (b ∷ bytes) = read_as weekday address b ∷ read_each weekday (suc address) bytes

-- what the run from an address on reads once these bytes have been written to it
unfoldable pub reads_as : (address : ℕ) → (bytes : List ℕ) → List ℕ
reads_as address bytes = read_each (weekday_for address bytes) address bytes

-- "write registers": what a write that is done leaves, its run as it reads then; a run that passes the end, which is never done, leaves them
unfoldable pub registers_after : Registers → (address : ℕ) → (bytes : List ℕ) → Registers
registers_after registers address bytes =
    cond (leb (address + length bytes) register_count) (holding (laid_at address (reads_as address bytes) registers.bytes)) registers

-- 02, §2: "Register EB .. clears": the value that a write gives it; 00, which clears nothing, where its run has not that register
unfoldable pub clear_value : (address : ℕ) → (bytes : List ℕ) → ℕ
clear_value address bytes = cond (covers address (length bytes) clear_register) (byte_for address bytes clear_register) 0x00

-- "Every page write by a command .. drops the catch": whether a write that is done does
unfoldable pub drops_catch : (address : ℕ) → (bytes : List ℕ) → Bool
drops_catch address bytes = covers address (length bytes) 0x03
