-- "There are 256 register bytes and 28,672 variable words, .. lent by the caller as 16-bit numbers": whatever calls come, every register stays a byte and
-- every word a 16-bit number.
use Rattle.std.specs.Prelude.{Ok, Err}
use mathlib.Core.Path.{◌≡◌, refl}
use mathlib.Core.Bool.{Bool, true, false, cond, not}
use mathlib.Core.List.{List}
use Prim.Native.Nat.{ℕ, ◌<◌}
use native.Mathlib.Omega.{arith}
use lib.ListN.{get_or, take, drop}
use Rattle.wire.specs.Bytes.{Bytes}
use Rattle.registers.specs.Table.{register_at}
use Rattle.words.specs.Words.{word_at_address}
use Rattle.contact.specs.Contact.{lifted}
use Rattle.touch.specs.declared.Setup.{Setup}
use Rattle.touch.specs.Judge.{Verdict, judged}
use Rattle.touch.specs.Setup.{checking_of, acknowledging_of, good_setup}
use Rattle.line.specs.Methods.{asked}
use Rattle.wire.proofs.Truths.{never}
use Rattle.panel.specs.declared.Panel.{Panel}
use Rattle.panel.specs.declared.StartError.TheVariants as start_error
use Rattle.panel.specs.State as State
use Rattle.panel.specs.State.{panel_register, fixed_for}
use Rattle.panel.specs.Start.{refuses, new_panel, start_judged, started}
use Rattle.panel.specs.Inputs.{fed_byte, fed_mark, fed_bytes}
use Rattle.panel.specs.Reporting.{acknowledged, accepting, drawing, handing, handing_over}
use Rattle.panel.specs.Sound.{Sound}
use Rattle.panel.proofs.Ways.{contact_ways, lift_ways, second_ways, report_ways}
use Rattle.panel.proofs.Invariant.{reachable_sound}
use Rattle.panel.specs.Watching.{telling}
use Rattle.demands.specs.Calls.{Moment, Call, lend, byte, bytes, mark, second, ask, contact, lift, after, Halfwords, Typed, Arises, from_start, by_call}
use Rattle.demands.proofs.Calls.{arises_reachable}
use Rattle.demands.proofs.Contents.{payload_bytes}
use Rattle.wire.proofs.Below.{byte_some, below_take}
use Rattle.curves.specs.declared.Counts.{Counts}
use Rattle.curves.proofs.Bounds.{area_small}
use Rattle.commands.specs.Lent.{with_room}
use Rattle.commands.specs.Perform.{performance}
use Rattle.panel.proofs.Lengths.{contacted_area_stands}
use Rattle.panel.specs.Contacts.{Contact}
use Rattle.demands.proofs.Storing.{start_bytes, status_bytes, second_bytes, touched_bytes, touched_words_lem, performed_bytes, performed_words}

-- over calls
record Sized (now : Moment) : Type 0 where
  registers : Bytes now.panel.registers.bytes
  words : Halfwords now.lent.words
  curves : Halfwords now.lent.curves

-- what a report leaves of the curve area
drawn_small : (writes adds : Bool) (counts : Counts) (content area : List ℕ) → Bytes content → Halfwords area → Halfwords (drawing writes adds counts content area).area
drawn_small writes true counts content area are small = area_small counts content area are small
drawn_small true false counts content area are small = small
drawn_small false false counts content area are small = small

asked_sized : (now : Moment) → Sound now.panel → Sized now → Sized (after now ask)
unfolding after handing handing_over accepting
asked_sized now sound sized =
    let all =
    report_ways panel now.lent (λ r. Bytes r.reported.panel.registers.bytes × Halfwords r.lent.words × Halfwords r.lent.curves)
    (λ h payload. (sized.registers, sized.words, sized.curves)) (λ command is. (sized.registers, sized.words, sized.curves))
    (λ list command count is.
    let setup = panel.setup in
    let answer = acknowledged setup command true now.lent.room in
    let content = take count (asked panel.reader).payload in
    let part = with_room now.lent (drop answer.count answer.room) in
    let are = below_take 256 byte_some count (asked panel.reader).payload (payload_bytes panel sound) in (
      performed_bytes (fixed_for setup) panel.registers command content part are sized.registers,
      performed_words (fixed_for setup) panel.registers command content part are sized.words,
      drawn_small (performance (fixed_for setup) panel.registers command content part).performed.writes
          (performance (fixed_for setup) panel.registers command content part).performed.adds panel.counts content now.lent.curves are sized.curves,
    )) in
    record { registers = all.0; words = all.1; curves = all.2 }
  where
    panel : Panel
    panel = now.panel

contacted_sized : (now : Moment) (c : Contact) → Bytes c.table → c.x < 65536 → c.y < 65536 → Sized now → Sized (after now (contact c))
unfolding after telling
contacted_sized now c are in-x in-y sized =
    let both =
    contact_ways now.panel c now.lent (λ r. Bytes r.contacted.panel.registers.bytes × Halfwords r.lent.words)
    (λ answer. (sized.registers, sized.words))
    (λ good. (
      touched_bytes now.panel.setup (State.pad_of now.panel) c.table now.lent.words c.x c.y sized.registers are in-x in-y,
      touched_words_lem now.panel.setup (State.pad_of now.panel) c.table now.lent.words c.x c.y sized.registers are in-x in-y sized.words,
    )) in
    record { registers = both.0; words = both.1; curves = rw (contacted_area_stands now.panel c now.lent) sized.curves }

lifted_sized : (now : Moment) → Sized now → Sized (after now lift)
unfolding after lifted
lifted_sized now sized =
    record {
      registers = lift_ways now.panel (λ l. Bytes l.panel.registers.bytes) sized.registers sized.registers
          (status_bytes now.panel.registers 0x02 sized.registers (omega arith));
      words = sized.words;
      curves = sized.curves;
    }

second_sized : (now : Moment) → Sized now → Sized (after now second)
unfolding after
second_sized now sized =
    record {
      registers = second_ways now.panel (λ f. Bytes f.panel.registers.bytes) sized.registers (λ quiet. second_bytes now.panel.registers sized.registers);
      words = sized.words;
      curves = sized.curves;
    }

call_sized : (now : Moment) → Sound now.panel → (call : Call) → Typed call → Sized now → Sized (after now call)
unfolding after Typed fed_byte fed_bytes fed_mark
call_sized now sound (lend lent) typed sized = record { registers = sized.registers; words = typed.words; curves = typed.curves }
call_sized now sound (byte b) typed sized = record { registers = sized.registers; words = sized.words; curves = sized.curves }
call_sized now sound (bytes bs) typed sized = record { registers = sized.registers; words = sized.words; curves = sized.curves }
call_sized now sound mark typed sized = record { registers = sized.registers; words = sized.words; curves = sized.curves }
call_sized now sound second typed sized = second_sized now sized
call_sized now sound ask typed sized = asked_sized now sound sized
call_sized now sound (contact c) typed sized = contacted_sized now c typed.0 typed.1.0 typed.1.1 sized
call_sized now sound lift typed sized = lifted_sized now sized

-- a start that is done gives a new panel
pub started_new : (setup : Setup) (table : List ℕ) → (started setup table).answer ≡ Ok tt → (started setup table).panel ≡ new_panel setup
unfolding started start_judged
started_new setup table = go (not (good_setup setup)) (judged setup table)
  where
    go : (b : Bool) (v : Verdict) → (cond b (refuses (Err start_error.WrongSetup)) (start_judged v setup)).answer ≡ Ok tt
        → (cond b (refuses (Err start_error.WrongSetup)) (start_judged v setup)).panel ≡ new_panel setup
    go true v is = never (cc)
    go false (Ok tt) is = refl
    go false (Err why) is = never (cc)

sized : (now : Moment) → Arises now → Sized now
unfolding new_panel
sized _ (from_start setup table lent h1 h2 are area is) =
    let new = start_bytes setup.h1 setup.h2 (checking_of setup) (acknowledging_of setup) h1 h2 in
    record { registers = λ i. rw (started_new setup table is) (new i); words = are; curves = area }
sized _ (by_call now call typed arises) = call_sized now (reachable_sound now.panel (arises_reachable now arises)) call typed (sized now arises)

-- at every moment that arises
pub registers_are_bytes : (now : Moment) → Arises now → (address : ℕ) → panel_register now.panel address < 256
unfolding register_at
registers_are_bytes now arises address = (sized now arises).registers address

pub words_are_16_bit : (now : Moment) → Arises now → (k : ℕ) → word_at_address now.lent.words k < 65536
unfolding word_at_address
words_are_16_bit now arises k = (sized now arises).words k

pub curves_are_16_bit : (now : Moment) → Arises now → (k : ℕ) → get_or now.lent.curves k 0 < 65536
curves_are_16_bit now arises k = (sized now arises).curves k
