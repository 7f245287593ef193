-- What a panel is given and what it hands over, in any sequence of calls, is a run of crate reading.
use Rattle.std.specs.Prelude.{Result, Ok, Err}
use Rattle.line.specs.declared.Waiting.{Waiting}
use mathlib.Core.Path.{◌≡◌, refl, sym, ap, ◌∙◌}
use mathlib.Core.Bool.{Bool, true, false, cond}
use mathlib.Core.List.{List, [], ◌∷◌, ◌++◌, map, append-nil}
use Prim.Native.Nat.{ℕ, suc, ◌+◌, ◌<◌}
use native.Mathlib.Omega.{arith}
use lib.ListN.{length, get_or, take, drop}
use Rattle.wire.specs.Bytes.{Bytes}
use Rattle.frame.specs.Frame.{content_of, most_payload}
use Rattle.reading.specs.Place.{Rules, Seen, pass, wait, bad, accepted, Report, accepted_frame, look, report_of}
use Rattle.reading.specs.Line as Line
use Rattle.reading.specs.Line.{Input}
use Rattle.reading.specs.Moves.{Kept, waiting, with_byte, handed, after_report}
use Rattle.reading.specs.Run as Run
use Rattle.reading.specs.Run.{Event, with_input, run}
use Rattle.reading.proofs.Run.{run_append}
use Rattle.line.specs.declared.Line as Declared
use Rattle.line.specs.declared.Reader.{Reader}
use Rattle.line.specs.declared.Given.{Given}
use Rattle.line.specs.declared.Waiting.TheVariants.{ReportWaits}
use Rattle.line.specs.declared.Asked.{Asked}
use Rattle.line.specs.State.{padded, rules_for, reader_of}
use Rattle.line.specs.Methods.{busy, gave, plus, given_byte, given_mark, given_bytes, asked}
use Rattle.line.specs.Reached.{Reached, report_as, payload_as}
use Rattle.line.proofs.Padding.{take_padded}
use Rattle.line.proofs.Carried.{waiting_is, byte_carried, mark_carried, ask_carried, reached_byte, reached_mark, reached_report}
use Rattle.panel.specs.declared.Panel.{Panel}
use Rattle.panel.specs.Inputs.{fed_byte, fed_mark, fed_second, fed_bytes}
use Rattle.panel.specs.Reporting as Reporting
use Rattle.panel.specs.Reporting.{reporting}
use Rattle.panel.specs.Contacts.{contacting, lifting, Contact}
use Rattle.panel.proofs.Ways.{contact_ways, lift_ways, second_ways}
use Rattle.demands.specs.Calls.{Moment, Call, lend, byte, bytes, mark, second, ask, contact, lift, after, after_all, report_handed, handed_over, handed_over_all, Typed, AllTyped}
use Rattle.demands.specs.Given.{unless_refused, given, given_all}
use Rattle.commands.specs.Lent.{Lent}
use Rattle.demands.proofs.Answers.{reported_by, refusal_hands_none}

-- from what a reader keeps, events of the reading that give these inputs, hand over these reports and leave this reader
pub record Carries (line : Declared.Line) (kept : Kept) (inputs : List Input) (reports : List Report) (reader : Reader) : Type 0 where
  pub events : List Event
  pub gives : (run (rules_for line) kept events).given ≡ inputs
  pub hands : (run (rules_for line) kept events).handed_over ≡ reports
  pub reads : reader ≡ reader_of line (run (rules_for line) kept events).kept
  pub reached : Reached line (run (rules_for line) kept events).kept

module _ (line : Declared.Line) (kept : Kept) (reached : Reached line kept) where
  -- nothing done to the reader
  still : (reader : Reader) → reader ≡ reader_of line kept → Carries line kept [] [] reader
  unfolding run
  still reader is = record { events = []; gives = refl; hands = refl; reads = is; reached = reached }

  abbrev answered : Result Unit Waiting → Kept → Given
  answered answer next = record { answer = answer; reader = reader_of line next }

  -- one input, taken or refused
  one_input : (input : Input) → (waiting (rules_for line) kept ≡ false → Reached line (with_input (rules_for line) kept input))
      → (w : Bool) → waiting (rules_for line) kept ≡ w
      → Carries line kept (unless_refused (cond w (answered (Err ReportWaits) kept) (answered (Ok tt) (with_input (rules_for line) kept input))).answer input) []
      (cond w (answered (Err ReportWaits) kept) (answered (Ok tt) (with_input (rules_for line) kept input))).reader
  unfolding run unless_refused
  one_input input next true waits =
      record { events = []; gives = refl; hands = refl; reads = refl; reached = reached }
  one_input input next false quiet =
      record {
        events = Run.offer input ∷ [];
        gives = rw quiet;
        hands = rw quiet;
        reads = rw quiet;
        reached = rw quiet (next quiet);
      }

  carries_byte : (b : ℕ) → b < 256
      → Carries line kept (unless_refused (given_byte (reader_of line kept) b).answer (Line.byte b)) [] (given_byte (reader_of line kept) b).reader
  unfolding with_input
  carries_byte b is =
      rw (byte_carried line kept b reached)
      (one_input (Line.byte b) (λ quiet. reached_byte line kept b reached quiet is) (waiting (rules_for line) kept) refl)

  carries_mark : Carries line kept (unless_refused (given_mark (reader_of line kept)).answer Line.mark) [] (given_mark (reader_of line kept)).reader
  unfolding with_input
  carries_mark =
      rw (mark_carried line kept reached)
      (one_input Line.mark (λ quiet. reached_mark line kept reached) (waiting (rules_for line) kept) refl)

-- one after the other
carries_then : {line : Declared.Line} {kept : Kept} {inputs later : List Input} {reports more : List Report} {first second : Reader}
    → (c : Carries line kept inputs reports first) → Carries line (run (rules_for line) kept c.events).kept later more second
    → Carries line kept (inputs ++ later) (reports ++ more) second
carries_then {line} {kept} c d =
    let whole = run_append (rules_for line) kept c.events d.events in
    record {
      events = c.events ++ d.events;
      gives = rw (whole, c.gives, d.gives);
      hands = rw (whole, c.hands, d.hands);
      reads = rw whole d.reads;
      reached = rw whole d.reached;
    }

-- bytes, until one is refused
taken_reader : (line : Declared.Line) (kept : Kept) (b : ℕ) → Reached line kept → waiting (rules_for line) kept ≡ false
    → (given_byte (reader_of line kept) b).reader ≡ reader_of line (with_byte (rules_for line) kept b)
taken_reader line kept b reached quiet = rw (byte_carried line kept b reached, quiet)

carries_bytes : (line : Declared.Line) (bs : List ℕ) (kept : Kept) → Reached line kept → Bytes bs
    → Carries line kept (map Line.byte (take (given_bytes (reader_of line kept) bs).used bs)) [] (given_bytes (reader_of line kept) bs).reader
unfolding given_bytes run with_input
carries_bytes line [] kept reached are = still line kept reached (reader_of line kept) refl
carries_bytes line (b ∷ bs) kept reached are =
    go (waiting (rules_for line) kept) refl
    (λ quiet. carries_bytes line bs (with_byte (rules_for line) kept b) (reached_byte line kept b reached quiet (are 0)) (λ i. are (suc i)))
  where
    next : Kept
    next = with_byte (rules_for line) kept b

    go : (w : Bool) → waiting (rules_for line) kept ≡ w
        → (waiting (rules_for line) kept ≡ false → Carries line next (map Line.byte (take (given_bytes (reader_of line next) bs).used bs)) [] (given_bytes (reader_of line next) bs).reader)
        → Carries line kept
        (map Line.byte (take (cond (busy (reader_of line kept)) (gave 0 (reader_of line kept)) (plus 1 (given_bytes (given_byte (reader_of line kept) b).reader bs))).used (b ∷ bs))) []
        (cond (busy (reader_of line kept)) (gave 0 (reader_of line kept)) (plus 1 (given_bytes (given_byte (reader_of line kept) b).reader bs))).reader
    go true waits later = rw (waiting_is line kept reached, waits) (still line kept reached (reader_of line kept) refl)
    go false quiet later =
        let rest = later quiet in
        let used = (given_bytes (reader_of line next) bs).used in
        let one_more : 1 + used ≡ suc used = omega arith in
        rw (waiting_is line kept reached, quiet, taken_reader line kept b reached quiet, one_more)
        (record {
          events = Run.offer (Line.byte b) ∷ rest.events;
          gives = rw (quiet, rest.gives);
          hands = rw (quiet, rest.hands);
          reads = rw quiet rest.reads;
          reached = rw quiet rest.reached;
        })

-- an ask that is lent what it must be, and one that is not
module _ (line : Declared.Line) (panel : Panel) (kept : Kept) (reached : Reached line kept) (lent : Lent) where
  abbrev rules : Rules
  rules = rules_for line

  abbrev asked_at : Seen → Asked
  asked_at seen = record { report = report_as (report_of rules seen); payload = payload_as (report_of rules seen); reader = reader_of line (after_report rules kept) }

  abbrev handed_for : Seen → Reporting.Reporting
  handed_for seen = Reporting.handing (asked_at seen) (asked_at seen).report panel lent

  -- what is handed over is the reading's report, and the reader goes on as the reading says
  hands_as : (seen : Seen) → look rules kept.closed kept.bytes ≡ seen → panel.reader ≡ reader_of line kept
      → (report_handed (handed_for seen).reported.handed (handed_for seen).reported.payload ≡ report_of rules seen)
      × ((handed_for seen).reported.panel.reader ≡ reader_of line (after_report rules kept))
  unfolding Reporting.handing Reporting.handing_over report_as payload_as report_of report_handed
  hands_as pass is reads = (refl, refl)
  hands_as wait is reads = (refl, refl)
  hands_as (bad body) is reads = (refl, refl)
  hands_as (accepted body) is reads =
      let content = drop 1 (content_of line.checking body) in
      (ap (λ (l : List ℕ). accepted_frame (get_or body 0 0) l ∷ []) (take_padded most_payload (length content) content refl), refl)

  -- asking with words and room as they must be moves the reader as the reading's ask does
  pub ask_moves : panel.reader ≡ reader_of line kept → Reporting.well_lent lent ≡ true
      → (reporting panel lent).reported.panel.reader ≡ reader_of line (after_report rules kept)
  unfolding reporting handed
  ask_moves reads is-lent =
      rw (is-lent, ap asked reads ∙ ask_carried line kept reached.few) (hands_as (look rules kept.closed kept.bytes) refl reads).1

  carries_ask : panel.reader ≡ reader_of line kept
      → Carries line kept [] (report_handed (reporting panel lent).reported.handed (reporting panel lent).reported.payload)
      (reporting panel lent).reported.panel.reader
  unfolding reporting run handed report_handed
  carries_ask reads = go (Reporting.well_lent lent)
    where
      seen : Seen
      seen = look rules kept.closed kept.bytes

      is : asked panel.reader ≡ asked_at seen
      is = ap asked reads ∙ ask_carried line kept reached.few

      result : Bool → Asked → Reporting.Reporting
      result enough a = reported_by panel lent enough a a.report

      go : (b : Bool) → Carries line kept [] (report_handed (result b (asked panel.reader)).reported.handed (result b (asked panel.reader)).reported.payload)
          (result b (asked panel.reader)).reported.panel.reader
      go true =
          let same = hands_as seen refl reads in
          rw is
          (record {
            events = Run.ask ∷ [];
            gives = refl;
            hands = append-nil (report_of rules seen) ∙ sym same.0;
            reads = same.1;
            reached = reached_report line kept reached;
          })
      go false = rw (refusal_hands_none lent (padded most_payload [])) (still line kept reached panel.reader reads)

-- touches leave the reader
pub contact_keeps_reader : (panel : Panel) (c : Contact) (lent : Lent) → (contacting panel c lent).contacted.panel.reader ≡ panel.reader
contact_keeps_reader panel c lent = contact_ways panel c lent (λ r. r.contacted.panel.reader ≡ panel.reader) (λ answer. refl) (λ good. refl)

pub lift_keeps_reader : (panel : Panel) → (lifting panel).panel.reader ≡ panel.reader
lift_keeps_reader panel = lift_ways panel (λ l. l.panel.reader ≡ panel.reader) refl refl refl

-- 02, §6: a second is no mark: the reader stays as it is
pub second_keeps_reader : (panel : Panel) → (fed_second panel).panel.reader ≡ panel.reader
second_keeps_reader panel = second_ways panel (λ f. f.panel.reader ≡ panel.reader) refl (λ quiet. refl)

-- a call
carries_call : (line : Declared.Line) (kept : Kept) (now : Moment) (call : Call) → Typed call → Reached line kept → now.panel.reader ≡ reader_of line kept
    → Carries line kept (given now call) (handed_over now call) (after now call).panel.reader
unfolding Typed given handed_over after fed_byte fed_mark fed_bytes
carries_call line kept now (lend lent) typed reached reads = still line kept reached now.panel.reader reads
carries_call line kept now (byte b) typed reached reads = rw reads (carries_byte line kept reached b typed)
carries_call line kept now (bytes bs) typed reached reads = rw reads (carries_bytes line bs kept reached typed)
carries_call line kept now mark typed reached reads = rw reads (carries_mark line kept reached)
carries_call line kept now second typed reached reads =
    still line kept reached (after now second).panel.reader (second_keeps_reader now.panel ∙ reads)
carries_call line kept now ask typed reached reads = carries_ask line now.panel kept reached now.lent reads
carries_call line kept now (contact c) typed reached reads =
    still line kept reached (after now (contact c)).panel.reader (contact_keeps_reader now.panel c now.lent ∙ reads)
carries_call line kept now lift typed reached reads =
    still line kept reached (after now lift).panel.reader (lift_keeps_reader now.panel ∙ reads)

-- any calls
pub carries_all : (line : Declared.Line) (kept : Kept) (now : Moment) (calls : List Call) → AllTyped calls → Reached line kept
    → now.panel.reader ≡ reader_of line kept
    → Carries line kept (given_all now calls) (handed_over_all now calls) (after_all now calls).panel.reader
unfolding AllTyped given_all handed_over_all after_all
carries_all line kept now [] typed reached reads = still line kept reached now.panel.reader reads
carries_all line kept now (call ∷ calls) typed reached reads =
    let first = carries_call line kept now call typed.0 reached reads in
    let rest = carries_all line (run (rules_for line) kept first.events).kept (after now call) calls typed.1 first.reached first.reads in
    carries_then first rest
