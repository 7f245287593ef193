-- Laws of the start and of an event: one for each way the code answers.
use Rattle.std.specs.Prelude.{Ok, Err}
use mathlib.Core.Path.{◌≡◌, refl, sym, ap, ◌∙◌}
use mathlib.Core.Bool.{Bool, true, false, cond, not}
use mathlib.Core.List.{List}
use Prim.Native.Nat.{ℕ, ◌*◌, ◌-◌, ◌≤◌, ◌<◌, min}
use native.Mathlib.Nat.{min-le_left}
use native.Mathlib.Omega.{arith}
use lib.ListN.{length, take, length-take}
use Rattle.wire.specs.Room.{over, Laid, lays}
use Rattle.touch.specs.declared.Setup.{Setup}
use Rattle.touch.specs.Judge.{Verdict}
use Rattle.touch.specs.declared.TableError.TheVariants.{NotRecords, Wrong}
use Rattle.touch.specs.Setup.{good_setup}
use Rattle.touch.specs.Judge.{judged}
use Rattle.touch.specs.Table.{record_bytes}
use Rattle.touch.proofs.Tables.{thirteen_names_first}
use Rattle.panel.specs.declared.Panel.{Panel}
use Rattle.panel.specs.declared.Start.{Start}
use Rattle.panel.specs.Answers.{StartAnswer}
use Rattle.panel.specs.declared.StartError.{StartError}
use Rattle.panel.specs.declared.StartError.TheVariants as start_error
use Rattle.panel.specs.Numbers.{start_number}
use Rattle.panel.specs.Start.{start_judged, started}
use Rattle.text.specs.declared.Line.{Line}
use Rattle.text.specs.Text.{line_text}
use Rattle.telling.specs.Memory.{Memory, remembering}
use Rattle.telling.specs.declared.PanelPrinted.{PanelPrinted}
use Rattle.telling.specs.Inner.{prints}
use Rattle.telling.specs.Told.{Told, PanelLeft, leaves_panel, printed_in, least_text}
use Rattle.telling.specs.Events.{event}
use Rattle.telling.proofs.Telling.{printed_in_lem}
use Rattle.trace.specs.declared.Trace.{Trace}
use Rattle.trace.specs.declared.TracePrinted.{TracePrinted}
use Rattle.trace.specs.Inner.{byte_printing, leaves_byte, event_printing, leaves_event, EventLeft, named, last_line, after_told}
use Rattle.items.specs.Stages.{is_started}
use Rattle.items.specs.Records.{kept_records, table_of, table_bytes}
use Rattle.trace.specs.State.{Held, Shown, met_table, stopped, holds, shows_told, fails}
use Rattle.trace.specs.Lines.{refusal_text}
use Rattle.trace.specs.Events.{started_by, event_answered, event_done}
use Rattle.trace.proofs.Items.{table_part}

-- ---- The start

module _ (trace : Trace) (part : List ℕ) (b : Bool) (is_b : b ≡ is_started trace.stage) where
  pub begun_before : b ≡ true → record { answer = Ok tt; panel = trace.panel } ≡ started_by trace part
  unfolding started_by
  begun_before is = rw (sym is_b ∙ is)

  pub begun_now : (s : Start) → b ≡ false → s ≡ started trace.setup part → s ≡ started_by trace part
  unfolding started_by
  begun_now s is e = rw (sym is_b ∙ is) e

judged_below : (setup : Setup) (part : List ℕ) → length part ≤ table_bytes → (v : Verdict) → judged setup part ≡ v → named (start_judged v setup).answer < 256
unfolding named start_judged
judged_below setup part short (Ok tt) e = omega arith
judged_below setup part short (Err NotRecords) e = omega arith
judged_below setup part short (Err (Wrong i)) e = omega (arith, (thirteen_names_first setup part i e).1.0)

either_below : (b : Bool) (p q : Start) → named p.answer < 256 → named q.answer < 256 → named (cond b p q).answer < 256
either_below true p q hp hq = hp
either_below false p q hp hq = hq

started_below : (setup : Setup) (part : List ℕ) → length part ≤ table_bytes → named (started setup part).answer < 256
unfolding started named
started_below setup part short = either_below (not (good_setup setup)) _ _ (omega arith) (judged_below setup part short (judged setup part) refl)

begun_below : (trace : Trace) (part : List ℕ) → length part ≤ table_bytes → named (started_by trace part).answer < 256
unfolding started_by named
begun_below trace part short = either_below (is_started trace.stage) _ _ (omega arith) (started_below trace.setup part short)

-- ---- An event

refused_shows : (why : StartError) (panel : Panel) (held : Held) (item : List ℕ)
    → event_answered (Err why) panel held item ≡ fails held (line_text (last_line (Err why) panel))
unfolding event_answered refusal_text start_number last_line
refused_shows start_error.WrongSetup panel held item = refl
refused_shows start_error.NotRecords panel held item = refl
refused_shows (start_error.WrongRecord i) panel held item = refl

pub started_left : (trace : Trace) (told : Told) (panel : Panel) (done : PanelPrinted) (memory memory' : Memory) (room left : List ℕ) (r : TracePrinted) → least_text ≤ length room
    → leaves_panel done memory' left ≡ printed_in told panel memory room → r ≡ after_told trace done → leaves_event r memory' left ≡ event_printing trace told room
started_left trace told panel done memory memory' room left r wide e is =
    ap (λ (p : TracePrinted). leaves_event p memory' left) is
    ∙ ap (λ (l : PanelLeft). leaves_event (after_told trace l.printed) l.memory l.room) (printed_in_lem told panel memory room done memory' left wide e)

-- an event, whatever the curve area holds
pub event_left : (trace : Trace) (begun : Start) (part item words words' room left : List ℕ) (done : PanelPrinted) (r : TracePrinted) → least_text ≤ length room
    → ((curves : List ℕ) → leaves_panel done (remembering words' curves) left
    ≡ printed_in (event begun.panel part (remembering words curves) item) begun.panel (remembering words curves) room)
    → r ≡ after_told trace done → (curves : List ℕ)
    → leaves_event r (remembering words' curves) left ≡ event_printing trace (event begun.panel part (remembering words curves) item) room
event_left trace begun part item words words' room left done r wide e is curves =
    started_left trace (event begun.panel part (remembering words curves) item) begun.panel done (remembering words curves) (remembering words' curves) room left r
    wide (e curves) is

module _ (trace : Trace) (table : List ℕ) (n : ℕ) (is-n : n ≡ min trace.records kept_records * record_bytes) (begun : Start)
    (is-begun : begun ≡ started_by trace (take n table)) where
  the_part : take n table ≡ table_of trace.records table
  the_part = table_part trace.records table n is-n

  pub named_below : n ≤ table_bytes → named begun.answer < 256
  named_below few =
      let short : length (take n table) ≤ table_bytes = omega (arith, length-take n table, min-le_left n (length table)) in
      let same : named begun.answer ≡ named (started_by trace (take n table)).answer = ap (λ (s : Start). named s.answer) is-begun in
      omega (arith, begun_below trace (take n table) short)

  module _ (memory : Memory) (item room : List ℕ) where
    answered_so : byte_printing (event_answered begun.answer begun.panel (holds trace table memory) item) room ≡ byte_printing (event_done (holds trace table memory) item) room
    unfolding event_done
    answered_so =
        ap (λ (s : Start). byte_printing (event_answered s.answer s.panel (holds trace table memory) item) room) (is-begun ∙ ap (λ (l : List ℕ). started_by trace l) the_part)

    pub event_refused : (why : StartError) → begun.answer ≡ Err why → (l : Line) → l ≡ last_line begun.answer begun.panel
        → (done : TracePrinted) (left : List ℕ) → done.trace ≡ stopped trace → lays done.count left ≡ prints (line_text l) room
        → leaves_byte done table memory left ≡ byte_printing (event_done (holds trace table memory) item) room
    event_refused why is l is-l done left is-trace e =
        ap (λ (p : Laid). leaves_byte (record { trace = done.trace; count = p.count }) table memory p.room) e
        ∙ ap (λ (t : Trace). leaves_byte (record { trace = t; count = length (line_text l) }) table memory (over (line_text l) room)) is-trace
        ∙ ap (λ (p : Line). byte_printing (fails (holds trace table memory) (line_text p)) room) is-l
        ∙ sym (ap (λ (s : Shown). byte_printing s room) (rw is (refused_shows why begun.panel (holds trace table memory) item)))
        ∙ answered_so

  pub event_told : (item room words words' left : List ℕ) → begun.answer ≡ Ok tt → (done : TracePrinted)
      → ((curves : List ℕ) → leaves_event done (remembering words' curves) left
      ≡ event_printing trace (event begun.panel (take n table) (remembering words curves) item) room)
      → (curves : List ℕ) → leaves_byte done table (remembering words' curves) left ≡ byte_printing (event_done (holds trace table (remembering words curves)) item) room
  unfolding event_answered
  event_told item room words words' left is done e curves =
      let held = holds trace table (remembering words curves) in
      ap (λ (l : EventLeft). leaves_byte l.printed table l.memory l.room) (rw the_part at (e curves))
      ∙ sym (ap (λ (a : StartAnswer). byte_printing (event_answered a begun.panel held item) room) is)
      ∙ answered_so (remembering words curves) item room
