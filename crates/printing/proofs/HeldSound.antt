-- What every trace keeps that is reached from a new one, with what is lent to it: every byte, report and run of line bytes keeps it.
use Rattle.std.specs.Prelude.{Ok, Err}
use mathlib.Core.Path.{◌≡◌, refl, sym, ap, ◌∙◌}
use mathlib.Core.Bool.{Bool, true, false, not, ◌&&◌}
use mathlib.Core.List.{List, [], ◌∷◌}
use Prim.Native.Nat.{ℕ, zero, suc, ◌+◌, ◌*◌, ◌≤◌, ◌<◌}
use native.Mathlib.Omega.{arith}
use borrow.Author.Tests.{ltb-true, eqb-true}
use lib.Dec.{eqb, ltb, leb}
use lib.ListN.{length, drop, set, replicate, length-set, length-replicate, length-drop}
use Rattle.wire.specs.Bytes.{Bytes}
use Rattle.wire.specs.ByteOrder.{byte_at, word_at}
use Rattle.wire.specs.Addresses.{word_count}
use Rattle.curves.specs.Area.{curve_words}
use Rattle.wire.proofs.LaidAt.{length_laid_at}
use Rattle.line.specs.Methods.{busy}
use Rattle.wire.proofs.Truths.{never, and_left}
use Rattle.touch.specs.Table.{record_bytes}
use Rattle.panel.specs.declared.Panel.{Panel}
use Rattle.panel.specs.declared.Start.{Start}
use Rattle.panel.specs.Answers.{StartAnswer}
use Rattle.panel.specs.declared.StartError.TheVariants as start_error
use Rattle.panel.specs.Inputs.{fed_bytes}
use Rattle.panel.specs.Sound.{Sound}
use Rattle.panel.proofs.Soundness.{byte_sound, mark_sound, second_sound, bytes_sound, report_sound, contact_sound, lift_sound}
use Rattle.panel.proofs.Invariant.{started_sound}
use Rattle.telling.specs.Memory.{Memory, new_memory, Whole, lent_from}
use Rattle.telling.specs.Told.{Told, tells}
use Rattle.items.specs.Items.{item_bytes, no_item, body_length}
use Rattle.items.specs.Stages.{is_started, is_over, may_come}
use Rattle.items.specs.Records.{kept_records, table_bytes}
use Rattle.telling.specs.Events.{contact_told, lift_told, event, reply_room, asked_once}
use Rattle.trace.specs.declared.Trace.{Trace}
use Rattle.trace.specs.State.{Held, Shown, shows_told, with_trace, met_table, new_trace, idle, with_panel, stopped, waits}
use Rattle.trace.specs.Events.{record_put, started_by, event_answered, event_done, item_done, grown, took_byte, report_shown}
use Rattle.trace.specs.Output.{new_held}
use Rattle.printing.specs.Reached.{ItemSound, HeldSound}
use Rattle.printing.proofs.ByTest.{by_test}
use Rattle.panel.specs.Contacts.{Contact, contact_at}
use Rattle.panel.proofs.Lengths.{reported_words_long, reported_area_long, contacted_words_long, contacted_area_stands}

bytes_zeros : (n : ℕ) → Bytes (replicate n 0)
bytes_zeros zero i = omega arith
bytes_zeros (suc n) zero = omega arith
bytes_zeros (suc n) (suc i) = bytes_zeros n i

bytes_set : (xs : List ℕ) (k b : ℕ) → b < 256 → Bytes xs → Bytes (set xs k b)
bytes_set [] k b byte are i = are i
bytes_set (x ∷ xs) zero b byte are zero = byte
bytes_set (x ∷ xs) zero b byte are (suc i) = are (suc i)
bytes_set (x ∷ xs) (suc k) b byte are zero = are 0
bytes_set (x ∷ xs) (suc k) b byte are (suc i) = bytes_set xs k b byte (λ j. are (suc j)) i

no_item_sound : (trace : Trace) → ItemSound (idle trace)
unfolding no_item
no_item_sound trace = record { long = length-replicate {A = ℕ} item_bytes 0; are_bytes = bytes_zeros item_bytes; none = λ zero. refl }

-- ---- A new trace

pub new_quiet : waits new_trace ≡ false
unfolding new_trace is_started
new_quiet = refl

new_whole : Whole new_memory
unfolding new_memory
new_whole = record { words = length-replicate {A = ℕ} word_count 0; curves = length-replicate {A = ℕ} curve_words 0 }

pub new_held_sound : HeldSound new_held
unfolding new_held new_trace is_started is_over
new_held_sound =
    record {
      panel = λ is. never (cc);
      over = λ is. never (cc);
      item = no_item_sound new_trace;
      table = omega (arith, length-replicate {A = ℕ} table_bytes 0);
      memory = new_whole;
    }

-- ---- An event and a report, of the panel

-- the panel and its memory are as sound as before
record ToldSound (told : Told) : Type 0 where
  panel : Sound told.panel
  memory : Whole told.memory

contact_told_sound : (panel : Panel) (c : Contact) (memory : Memory) → Sound panel → Whole memory → ToldSound (contact_told panel c memory)
unfolding contact_told
contact_told_sound panel c memory sound whole =
    record {
      panel = contact_sound panel sound c (lent_from memory reply_room);
      memory = record {
        words = contacted_words_long panel c (lent_from memory reply_room) ∙ whole.words;
        curves = ap length (contacted_area_stands panel c (lent_from memory reply_room)) ∙ whole.curves;
      };
    }

event_sound : (panel : Panel) (table : List ℕ) (memory : Memory) (item : List ℕ) → Sound panel → Whole memory → Bytes item
    → ToldSound (event panel table memory item)
unfolding event lift_told
event_sound panel table memory item sound whole are =
    by_test ToldSound (eqb (byte_at item 0) 1) _ _ (λ is. record { panel = byte_sound panel sound (byte_at item 1) (are 1); memory = whole })
    (λ not-1. by_test ToldSound (eqb (byte_at item 0) 2) _ _ (λ is. record { panel = mark_sound panel sound; memory = whole })
    (λ not-2. by_test ToldSound (eqb (byte_at item 0) 3) _ _ (λ is. contact_told_sound panel (contact_at table (word_at item 1) (word_at item 3)) memory sound whole)
    (λ not-3. by_test ToldSound (eqb (byte_at item 0) 6) _ _ (λ is. record { panel = second_sound panel sound; memory = whole })
    (λ not-6. record { panel = lift_sound panel sound; memory = whole }))))

asked_sound : (panel : Panel) (memory : Memory) → Sound panel → Whole memory → ToldSound (asked_once panel memory)
unfolding asked_once
asked_sound panel memory sound whole =
    record {
      panel = report_sound panel sound (lent_from memory reply_room);
      memory = record {
        words = reported_words_long panel (lent_from memory reply_room) ∙ whole.words;
        curves = reported_area_long panel (lent_from memory reply_room) ∙ whole.curves;
      };
    }

-- a panel that a start gave is sound
begun_sound : (trace : Trace) (part : List ℕ) → (is_started trace.stage ≡ true → Sound trace.panel) → (started_by trace part).answer ≡ Ok tt
    → Sound (started_by trace part).panel
unfolding started_by
begun_sound trace part sound =
    by_test (λ (s : Start). s.answer ≡ Ok tt → Sound s.panel) (is_started trace.stage) _ _ (λ is answer. sound is)
    (λ not_yet answer. started_sound trace.setup part answer)

-- ---- The trace with one thing changed

module _ (held : Held) (item : ItemSound held.trace) (lent : table_bytes ≤ length held.table) where
  told_sound : (told : Told) → ToldSound told → HeldSound (shows_told held told).held
  unfolding is_started is_over
  told_sound told sound =
      record {
        panel = λ is. sound.panel;
        over = λ is. never (cc);
        item = record { long = item.long; are_bytes = item.are_bytes; none = item.none };
        table = lent;
        memory = sound.memory;
      }

  module _ (whole : Whole held.memory) (between : held.trace.have ≡ 0) where
    stopped_sound : HeldSound (with_trace held (stopped held.trace))
    unfolding is_started
    stopped_sound =
        record {
          panel = λ is. never (cc);
          over = λ is. between;
          item = record { long = item.long; are_bytes = item.are_bytes; none = item.none };
          table = lent;
          memory = whole;
        }

    module _ (sound : is_started held.trace.stage ≡ true → Sound held.trace.panel) where
      answered_sound : (answer : StartAnswer) (panel : Panel) (gathered : List ℕ) → Bytes gathered → (answer ≡ Ok tt → Sound panel)
          → HeldSound (event_answered answer panel held gathered).held
      unfolding event_answered
      answered_sound (Ok tt) panel gathered are begun =
          told_sound (event panel (met_table held) held.memory gathered) (event_sound panel (met_table held) held.memory gathered (begun refl) whole are)
      answered_sound (Err start_error.WrongSetup) panel gathered are begun = stopped_sound
      answered_sound (Err start_error.NotRecords) panel gathered are begun = stopped_sound
      answered_sound (Err (start_error.WrongRecord i)) panel gathered are begun = stopped_sound

      event_done_sound : (gathered : List ℕ) → Bytes gathered → HeldSound (event_done held gathered).held
      unfolding event_done
      event_done_sound gathered are =
          let begun = started_by held.trace (met_table held) in
          answered_sound begun.answer begun.panel gathered are (begun_sound held.trace (met_table held) sound)

put_table : (records : ℕ) (gathered table : List ℕ) → length gathered ≡ item_bytes → table_bytes ≤ length table → table_bytes ≤ length (record_put records gathered table)
unfolding record_put
put_table records gathered table long lent =
    by_test (λ (l : List ℕ). table_bytes ≤ length l) (ltb records kept_records) _ _
    (λ more.
    let fits : records * record_bytes + length (drop 1 gathered) ≤ length table = simp length-drop (omega (arith, ltb-true records kept_records more)) in
    omega (arith, length_laid_at table (drop 1 gathered) (records * record_bytes) fits))
    (λ full. lent)

-- ---- One byte

item_sound : (held : Held) (gathered : List ℕ) → HeldSound held → held.trace.have ≡ 0 → length gathered ≡ item_bytes → Bytes gathered
    → HeldSound (item_done held gathered).held
unfolding item_done is_started is_over
item_sound held gathered sound between long are =
    by_test (λ (s : Shown). HeldSound s.held) (eqb (byte_at gathered 0) 0) _ _
    (λ is. record {
      panel = λ no. never (cc);
      over = λ no. never (cc);
      item = record { long = sound.item.long; are_bytes = sound.item.are_bytes; none = sound.item.none };
      table = sound.table;
      memory = sound.memory;
    })
    (λ not-0. by_test (λ (s : Shown). HeldSound s.held) (eqb (byte_at gathered 0) 5) _ _
    (λ is. record {
      panel = sound.panel;
      over = sound.over;
      item = record { long = sound.item.long; are_bytes = sound.item.are_bytes; none = sound.item.none };
      table = put_table held.trace.records gathered held.table long sound.table;
      memory = sound.memory;
    })
    (λ not-5. event_done_sound held sound.item sound.table sound.memory between sound.panel gathered are))

module _ (held : Held) (b : ℕ) (byte : b < 256) (sound : HeldSound held) where
  grown_sound : is_over held.trace.stage ≡ false → HeldSound (grown held b).held
  unfolding grown
  grown_sound going =
      let trace = held.trace in
      let gathered = set trace.item trace.have b in
      let long : length gathered ≡ item_bytes = length-set trace.item trace.have b ∙ sound.item.long in
      let are : Bytes gathered = bytes_set trace.item trace.have b byte sound.item.are_bytes in
      by_test (λ (s : Shown). HeldSound s.held) (leb (body_length (byte_at gathered 0)) trace.have) _ _
      (λ whole. item_sound (with_trace held (idle trace)) gathered
      (record { panel = sound.panel; over = λ is. refl; item = no_item_sound trace; table = sound.table; memory = sound.memory }) refl long are)
      (λ more. record {
        panel = sound.panel;
        over = λ is. (let z : ◌≡◌ {A = Bool} true false = sym is ∙ going in never (cc));
        item = record { long = long; are_bytes = are; none = λ is. absurd (omega arith) };
        table = sound.table;
        memory = sound.memory;
      })

  pub byte_held_sound : HeldSound (took_byte held b).held
  unfolding took_byte
  byte_held_sound =
      let none = eqb held.trace.have 0 in
      let other = not (may_come held.trace.stage b) in
      by_test (λ (s : Shown). HeldSound s.held) (is_over held.trace.stage) _ _ (λ over. sound)
      (λ going. by_test (λ (s : Shown). HeldSound s.held) (none && other) _ _
      (λ wrong. stopped_sound held sound.item sound.table sound.memory (eqb-true held.trace.have 0 (and_left none other wrong)))
      (λ right. grown_sound going))

-- ---- A report, and a run

module _ (held : Held) (sound : HeldSound held) where
  -- a report waits only in a panel that is started
  pub waits_started : waits held.trace ≡ true → is_started held.trace.stage ≡ true
  waits_started is = and_left (is_started held.trace.stage) (busy held.trace.panel.reader) is

  pub report_held_sound : waits held.trace ≡ true → HeldSound (report_shown held).held
  report_held_sound is =
      told_sound held sound.item sound.table (asked_once held.trace.panel held.memory)
      (asked_sound held.trace.panel held.memory (sound.panel (waits_started is)) sound.memory)

  pub run_held_sound : (bytes : List ℕ) → is_started held.trace.stage ≡ true → Bytes bytes
      → HeldSound (with_trace held (with_panel held.trace (fed_bytes held.trace.panel bytes).panel))
  run_held_sound bytes is are =
      told_sound held sound.item sound.table (tells (fed_bytes held.trace.panel bytes).panel held.memory [])
      (record { panel = bytes_sound held.trace.panel (sound.panel is) bytes are; memory = sound.memory })
