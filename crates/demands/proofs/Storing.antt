-- What writes, contacts and a start store: bytes in registers, 16-bit numbers in words.
use Rattle.std.specs.Prelude.{None, Some}
use mathlib.Core.Path.{◌≡◌, refl}
use mathlib.Core.Bool.{Bool, true, false, cond, ◌||◌}
use mathlib.Core.List.{List, [], ◌∷◌, ◌++◌}
use Prim.Native.Nat.{ℕ, zero, suc, ◌+◌, ◌*◌, ◌<◌}
use native.Mathlib.Nat.{mod-lt}
use native.Mathlib.Omega.{arith}
use borrow.Author.Tests.{eqb-true}
use lib.Dec.{eqb, leb}
use lib.ListN.{length, get_or, set, take, drop, replicate}
use lib.IntN.{ℤ, pos, negsuc}
use Rattle.wire.specs.Bytes.{Bytes}
use Rattle.wire.specs.ByteOrder.{word, byte_at, word_at, high_byte, low_byte, high_first}
use Rattle.wire.specs.Room.{laid_at}
use Rattle.registers.specs.declared.Registers.{Registers}
use Rattle.wire.specs.Addresses.{register_count}
use Rattle.clock.specs.declared.Moment as Clock
use Rattle.clock.specs.Passing.{next_second}
use Rattle.clock.specs.Shown.{shown, date_in}
use Rattle.clock.proofs.TwoDigits.{digits_below}
use Rattle.clock.proofs.Weekdays.{weekday_below}
use Rattle.registers.specs.Table.{holding, clear_register, set_register, weekday_register, start_registers, register_at}
use Rattle.registers.specs.Clocked.{moment_of, with_moment, second_passed}
use Rattle.registers.specs.Touched.{page_of, with_page, is_down, with_status, with_place}
use Rattle.words.specs.Words.{word_at_address, word_set, words_of, words_written}
use Rattle.words.proofs.Carried.{words_of_16_bit}
use Rattle.commands.specs.Outcome.{write_registers_outcome, write_words_outcome, is_done}
use Rattle.commands.specs.Perform.{performance, registers_by}
use Rattle.commands.proofs.Named.{registers_stay, registers_as_done, words_stay, words_as_done}
use Rattle.stores.specs.Store.{in_mode, signed, word_of, value_in, placed}
use Rattle.stores.specs.Step.{stepped, fenced, step_stores}
use Rattle.stores.specs.Slider.{slid_to, slider_stores}
use Rattle.touch.specs.declared.Record.{Record}
use Rattle.touch.specs.declared.Kind.{Kind}
use Rattle.touch.specs.declared.Kind.TheVariants.{Key, Step, Slider, Other}
use Rattle.touch.specs.declared.StepFields.{StepFields}
use Rattle.touch.specs.declared.SliderFields.{SliderFields}
use Rattle.touch.specs.Record.{step_fields, slider_fields, kind_of, record_of, is_slider, up, round, digit_mode, along, first_edge, last_edge, no_next}
use Rattle.touch.specs.Table.{Found, record_at}
use Rattle.touch.specs.Find.{found}
use Rattle.touch.proofs.Tables.{found_stands}
use Rattle.contact.specs.Contact.{Catch, showing, catching, acting, pressed, dragging, touched}
use Rattle.contact.specs.declared.Pad.{Pad}
use Rattle.contact.specs.Contact as Contact
use Rattle.demands.specs.Calls.{Halfwords}
use Rattle.wire.proofs.Below.{byte_some, word_some, below_take, below_drop, below_append, below_set, below_laid, below_zeros}
use Rattle.touch.specs.Act.{acted_by, acted_of, dragged_of}
use Rattle.registers.specs.Run.{byte_for, weekday_for, read_as, read_each, reads_as, registers_after}
use Rattle.registers.proofs.Runs.{started as start_sets}
use Rattle.commands.specs.declared.Fixed.{Fixed}
use Rattle.commands.specs.Lent.{Lent}
use Rattle.commands.specs.Effect.{registers_left}
use Rattle.touch.specs.declared.Setup.{Setup}
use Rattle.touch.specs.Rounding.{rounding_of}

-- the registers of a start
pub start_bytes : (h1 h2 : ℕ) (checking acknowledging : Bool) → h1 < 256 → h2 < 256 → Bytes (start_registers h1 h2 checking acknowledging).bytes
start_bytes h1 h2 checking acknowledging one two =
    let zeros : List ℕ = replicate register_count 0 in
    let version = set zeros 0x00 0x10 in
    let light = set version 0x01 0x3F in
    let enable = set light 0x0B 0xFF in
    let checks = set enable 0x12 (cond checking 0x10 0x00) in
    let first = set checks 0x13 h1 in
    let second = set first 0x1A h2 in
    let told = set second 0x1C (cond acknowledging 0x08 0x00) in
    let month = set told 0x21 0x01 in
    let day = set month 0x22 0x01 in
    let a = sets zeros 0x00 0x10 (below_zeros 256 byte_some register_count) (omega arith) in
    let b = sets version 0x01 0x3F a (omega arith) in
    let c = sets light 0x0B 0xFF b (omega arith) in
    let d = sets enable 0x12 (cond checking 0x10 0x00) c (either checking 0x10 (omega arith)) in
    let e = sets checks 0x13 h1 d one in
    let f = sets first 0x1A h2 e two in
    let g = sets second 0x1C (cond acknowledging 0x08 0x00) f (either acknowledging 0x08 (omega arith)) in
    λ i. rw (← start_sets h1 h2 (cond checking 0x10 0x00) (cond acknowledging 0x08 0x00) checking acknowledging refl refl)
    (sets day 0x23 0x06 (sets month 0x22 0x01 (sets told 0x21 0x01 g (omega arith)) (omega arith)) (omega arith) i)
  where
    sets : (xs : List ℕ) (k v : ℕ) → Bytes xs → v < 256 → Bytes (set xs k v)
    sets = below_set 256 byte_some

    either : (b : Bool) (v : ℕ) → v < 256 → cond b v 0x00 < 256
    either true v is = is
    either false v is = omega arith

-- what a run reads once these bytes are written to it
each_bytes : (weekday address : ℕ) (run : List ℕ) → weekday < 256 → Bytes run → Bytes (read_each weekday address run)
unfolding read_each read_as
each_bytes weekday address [] few are i = byte_some
each_bytes weekday address (b ∷ run) few are zero = go (eqb address clear_register || eqb address set_register) (eqb address weekday_register)
  where
    go : (c d : Bool) → cond c 0x00 (cond d weekday b) < 256
    go true d = byte_some
    go false true = few
    go false false = are 0
each_bytes weekday address (b ∷ run) few are (suc i) = each_bytes weekday (suc address) run few (λ j. are (suc j)) i

reads_bytes : (address : ℕ) (run : List ℕ) → Bytes run → Bytes (reads_as address run)
unfolding reads_as weekday_for
reads_bytes address run are = each_bytes (weekday_for address run) address run (omega (arith, weekday_below (date_in (byte_for address run 0x20) (byte_for address run 0x21) (byte_for address run 0x22)))) are

-- what a write, a contact and a lift set
written_bytes : (registers : Registers) (address : ℕ) (run : List ℕ) → Bytes registers.bytes → Bytes run → Bytes (registers_after registers address run).bytes
unfolding registers_after
written_bytes registers address run are new = go (leb (address + length run) register_count)
  where
    go : (b : Bool) → Bytes (cond b (holding (laid_at address (reads_as address run) registers.bytes)) registers).bytes
    go true = below_laid 256 byte_some address (reads_as address run) registers.bytes (reads_bytes address run new) are
    go false = are

-- what a second sets: digits and a weekday
shown_bytes : (m : Clock.Moment) → Bytes (shown m)
unfolding shown
shown_bytes m zero = digits_below m.date.year
shown_bytes m (suc zero) = digits_below m.date.month
shown_bytes m (suc (suc zero)) = digits_below m.date.day
shown_bytes m (suc (suc (suc zero))) = omega (arith, weekday_below m.date)
shown_bytes m (suc (suc (suc (suc zero)))) = digits_below m.time.hour
shown_bytes m (suc (suc (suc (suc (suc zero))))) = digits_below m.time.minute
shown_bytes m (suc (suc (suc (suc (suc (suc zero)))))) = digits_below m.time.second
shown_bytes m (suc (suc (suc (suc (suc (suc (suc i))))))) = byte_some

pub second_bytes : (registers : Registers) → Bytes registers.bytes → Bytes (second_passed registers).bytes
unfolding second_passed with_moment
second_bytes registers are =
    let next = next_second (moment_of registers) in
    below_laid 256 byte_some 0x20 (shown next) registers.bytes (shown_bytes next) are

high_bytes : (w : ℕ) → w < 65536 → Bytes (high_first w)
high_bytes w is zero = omega arith
high_bytes w is (suc zero) = omega arith
high_bytes w is (suc (suc i)) = omega arith

pub status_bytes : (registers : Registers) (status : ℕ) → Bytes registers.bytes → status < 256 → Bytes (with_status registers status).bytes
unfolding with_status
status_bytes registers status are is = below_set 256 byte_some registers.bytes 0x06 status are is

place_bytes : (registers : Registers) (x y : ℕ) → Bytes registers.bytes → x < 65536 → y < 65536 → Bytes (with_place registers x y).bytes
unfolding with_place
place_bytes registers x y are in-x in-y = go (eqb (register_at registers 0x05) 0x5A)
  where
    go : (b : Bool) → Bytes (cond b registers (holding (laid_at 0x07 (high_first x ++ high_first y) (set registers.bytes 0x05 0x5A)))).bytes
    go true = are
    go false =
        below_laid 256 byte_some 0x07 (high_first x ++ high_first y) (set registers.bytes 0x05 0x5A)
        (below_append 256 byte_some (high_first x) (high_first y) (high_bytes x in-x) (high_bytes y in-y))
        (below_set 256 byte_some registers.bytes 0x05 0x5A are (omega arith))

page_bytes : (registers : Registers) (page : ℕ) → Bytes registers.bytes → page < 65536 → Bytes (with_page registers page).bytes
unfolding with_page
page_bytes registers page are is = below_laid 256 byte_some 0x03 (high_first page) registers.bytes (high_bytes page is) are

-- the records of a table of bytes
pub word_below : (bytes : List ℕ) → Bytes bytes → (at : ℕ) → word_at bytes at < 65536
word_below bytes are at = omega (arith, are at, are (at + 1))

module _ (table : List ℕ) (are : Bytes table) (i : ℕ) where
  pub record_bytes_lem : Bytes (take 32 (drop (i * 32) table))
  record_bytes_lem = below_take 256 byte_some 32 (drop (i * 32) table) (below_drop 256 byte_some (i * 32) table are)

  next_below : (record_at table i).next < 65536
  unfolding record_of
  next_below = word_below (take 32 (drop (i * 32) table)) record_bytes_lem 0x0A

-- what a record stores: a step and a slider always a word, a key its code
word_of_below : (z : ℤ) → word_of z < 65536
unfolding word_of
word_of_below (pos n) = mod-lt n word_some
word_of_below (negsuc n) = omega arith

placed_below : (mode old new : ℕ) → old < 65536 → new < 65536 → placed mode old new < 65536
unfolding in_mode
placed_below mode old new is-old is_new = go (eqb mode 0) (eqb mode 1)
  where
    go : (a b : Bool) → cond a new (cond b (word (low_byte new) (low_byte old)) (word (high_byte old) (low_byte new))) < 65536
    go true b = is_new
    go false true = omega arith
    go false false = omega arith

step_below : (setup : Setup) (r : Record) (f : StepFields) (old : ℕ) → old < 65536 → (x y : ℕ) → acted_by (rounding_of setup) (Step f) r old x y < 65536
unfolding step_stores
step_below setup r f old is x y =
    let t = fenced (up f) (round f) (signed f.least) (signed f.greatest) (stepped (up f) (value_in r.mode old) f.step) in
    placed_below r.mode old (word_of t) is (word_of_below t)

slider_below : (setup : Setup) (r : Record) (f : SliderFields) (old : ℕ) → old < 65536 → (x y : ℕ)
    → acted_by (rounding_of setup) (Slider f) r old x y < 65536
unfolding slider_stores
slider_below setup r f old is x y =
    let t = slid_to (rounding_of setup) (signed f.begin) (signed f.end) (first_edge r.mode r.area) (last_edge r.mode r.area) (along r.mode x y) in
    placed_below (digit_mode r.mode) old (word_of t) is (word_of_below t)

-- a record of a table of bytes
acted_below : (setup : Setup) (table : List ℕ) → Bytes table → (i old : ℕ) → old < 65536 → (x y : ℕ) → acted_of setup (record_at table i) old x y < 65536
unfolding acted_of record_of kind_of
acted_below setup table are i old is x y = go (eqb (word_at bytes 0x0E) 0xFE05) (eqb (word_at bytes 0x0E) 0xFE02) (eqb (word_at bytes 0x0E) 0xFE03)
  where
    bytes : List ℕ
    bytes = take 32 (drop (i * 32) table)

    go : (a b c : Bool)
        → acted_by (rounding_of setup) (cond a (Key (word_at bytes 0x14)) (cond b (Step (step_fields bytes)) (cond c (Slider (slider_fields bytes)) Other))) (record_at table i) old x y < 65536
    go true b c = placed_below (record_at table i).mode old (word_at bytes 0x14) is (word_below bytes (record_bytes_lem table are i) 0x14)
    go false true c = step_below setup (record_at table i) (step_fields bytes) old is x y
    go false false true = slider_below setup (record_at table i) (slider_fields bytes) old is x y
    go false false false = is

-- a caught record: only a slider stores
dragged_below : (setup : Setup) (r : Record) (old : ℕ) → old < 65536 → (x y : ℕ) → dragged_of setup r old x y < 65536
unfolding dragged_of acted_of
dragged_below setup r old is x y = go r.kind
  where
    go : (k : Kind) → cond (is_slider k) (acted_by (rounding_of setup) k r old x y) old < 65536
    go (Key code) = is
    go (Step f) = is
    go (Slider f) = slider_below setup r f old is x y
    go Other = is

-- a contact that is done, with a table of bytes
module _ (setup : Setup) (pad : Pad) (table words : List ℕ) (x y : ℕ) (are : Bytes pad.registers.bytes) (table-are : Bytes table) (in-x : x < 65536) (in-y : y < 65536) where
  marked_bytes : (status : ℕ) → status < 256 → Bytes (with_place (with_status pad.registers status) x y).bytes
  marked_bytes status is = place_bytes (with_status pad.registers status) x y (status_bytes pad.registers status are is) in-x in-y

  pub touched_bytes : Bytes (touched setup pad table words x y).pad.registers.bytes
  unfolding touched Contact.held_down pressed acting showing
  touched_bytes = go (is_down pad.registers)
    where
      now : Registers
      now = with_place (with_status pad.registers 0x01) x y

      shown : (r : Record) (catch : Catch) → r.next < 65536 → (b : Bool)
          → Bytes (cond b (Contact.pad_with now catch) (Contact.pad_with (with_page now r.next) None)).registers.bytes
      shown r catch next true = marked_bytes 0x01 (omega arith)
      shown r catch next false = page_bytes now r.next (marked_bytes 0x01 (omega arith)) next

      behind : (f : Found) → found table (page_of pad.registers) x y ≡ f → Bytes (acting setup f now pad.catch words x y).pad.registers.bytes
      behind None is = marked_bytes 0x01 (omega arith)
      behind (Some (i, r)) is =
          let same = (found_stands table (page_of pad.registers) x y i r is).0 in
          shown r (catching r pad.catch) (rw same (next_below table table-are i)) (no_next r)

      go : (b : Bool) → Bytes (cond b (Contact.held_down setup pad words x y) (pressed setup pad table words x y)).pad.registers.bytes
      go true = marked_bytes 0x03 (omega arith)
      go false = behind (found table (page_of pad.registers) x y) refl

  pub touched_words_lem : Halfwords words → Halfwords (touched setup pad table words x y).words
  unfolding touched Contact.held_down dragging pressed acting word_set word_at_address
  touched_words_lem old = go (is_down pad.registers)
    where
      now : Registers
      now = with_place (with_status pad.registers 0x01) x y

      behind : (f : Found) → found table (page_of pad.registers) x y ≡ f → Halfwords (acting setup f now pad.catch words x y).words
      behind None is = old
      behind (Some (i, r)) is =
          let same = (found_stands table (page_of pad.registers) x y i r is).0 in
          below_set 65536 word_some words r.word (acted_of setup r (get_or words r.word 0) x y) old
          (rw same (acted_below setup table table-are i (get_or words (record_at table i).word 0) (old (record_at table i).word) x y))

      drag : (c : Catch) → Halfwords (dragging setup c words x y)
      drag None = old
      drag (Some r) =
          below_set 65536 word_some words r.word (dragged_of setup r (get_or words r.word 0) x y) old
          (dragged_below setup r (get_or words r.word 0) (old r.word) x y)

      go : (b : Bool) → Halfwords (cond b (Contact.held_down setup pad words x y) (pressed setup pad table words x y)).words
      go true = drag pad.catch
      go false = behind (found table (page_of pad.registers) x y) refl

-- a command with data of bytes
stored_words : (words : List ℕ) (address : ℕ) (bytes : List ℕ) → Halfwords words → Bytes bytes → Halfwords (words_written words address bytes)
unfolding words_written
stored_words words address bytes old are = go (leb (address + length (words_of bytes)) (length words))
  where
    go : (b : Bool) → Halfwords (cond b (laid_at address (words_of bytes) words) words)
    go true = below_laid 65536 word_some address (words_of bytes) words (words_of_16_bit bytes are) old
    go false = old

module _ (fixed : Fixed) (registers : Registers) (command : ℕ) (content : List ℕ) (lent : Lent) (are : Bytes content) where
  pub performed_bytes : Bytes registers.bytes → Bytes (registers_by (performance fixed registers command content lent).performed registers content).bytes
  unfolding registers_left
  performed_bytes old = go (eqb command 0x80) refl (is_done (write_registers_outcome fixed.pages content)) refl
    where
      after : Registers
      after = registers_by (performance fixed registers command content lent).performed registers content

      go : (a : Bool) → eqb command 0x80 ≡ a → (b : Bool) → is_done (write_registers_outcome fixed.pages content) ≡ b → Bytes after.bytes
      go false other b done = rw (registers_stay fixed registers content lent command other) old
      go true is b done = rw (registers_as_done fixed registers content lent command b (eqb-true command 0x80 is) done) (either b)
        where
          either : (b : Bool) → Bytes (cond b (registers_left registers content) registers).bytes
          either true = written_bytes registers (byte_at content 0) (drop 1 content) old (below_drop 256 byte_some 1 content are)
          either false = old

  pub performed_words : Halfwords lent.words → Halfwords (performance fixed registers command content lent).lent.words
  performed_words old = go (eqb command 0x82) refl (is_done (write_words_outcome (length lent.words) content)) refl
    where
      go : (a : Bool) → eqb command 0x82 ≡ a → (b : Bool) → is_done (write_words_outcome (length lent.words) content) ≡ b
          → Halfwords (performance fixed registers command content lent).lent.words
      go false other b done = rw (words_stay fixed registers content lent command other) old
      go true is b done = rw (words_as_done fixed registers content lent command b (eqb-true command 0x82 is) done) (either b)
        where
          either : (b : Bool) → Halfwords (cond b (words_written lent.words (word_at content 0) (drop 2 content)) lent.words)
          either true = stored_words lent.words (word_at content 0) (drop 2 content) old (below_drop 256 byte_some 2 content are)
          either false = old
