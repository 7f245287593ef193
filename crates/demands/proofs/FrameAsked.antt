-- Asking where an accepted frame is handed over: what is known then, the command's number, and what is left by what the command does.
use Rattle.std.specs.Prelude.{Option, None, Some}
use Rattle.line.specs.declared.Report.{Report}
use mathlib.Core.Path.{◌≡◌, refl, ap, ◌∙◌}
use mathlib.Core.Bool.{Bool, true, false}
use mathlib.Core.List.{List, [], ◌∷◌, ◌++◌, append_assoc}
use Prim.Native.Nat.{ℕ, ◌+◌, ◌≤◌}
use native.Mathlib.Omega.{arith}
use lib.ListN.{length, take, drop, length-append, length-drop}
use lib.Seq.{drop-drop}
use Rattle.wire.specs.Room.{over, Laid, lays}
use Rattle.wire.proofs.Over.{take_over, drop_over, length_over}
use Rattle.frame.specs.Frame.{header_bytes, most_data, most_payload, frame_of}
use Rattle.frame.proofs.Writers.{length_frame_of, length_most}
use Rattle.reading.specs.Place.{accepted_frame}
use Rattle.line.specs.declared.Reader.{Reader}
use Rattle.line.specs.declared.Report.TheVariants as line
use Rattle.line.specs.declared.Asked.{Asked}
use Rattle.line.specs.State.{padded}
use Rattle.line.specs.Methods.{asked}
use Rattle.wire.proofs.Truths.{never}
use Rattle.wire.specs.Addresses.{word_count}
use Rattle.commands.specs.Outcome as Outcome
use Rattle.commands.specs.Outcome.{outcome}
use Rattle.commands.specs.Perform.{Performance, performs, performance, registers_by}
use Rattle.commands.proofs.Performance.{performs_outcome}
use Rattle.touch.specs.declared.Setup.{Setup}
use Rattle.touch.specs.Setup.{checking_of}
use Rattle.panel.specs.declared.Panel.{Panel}
use Rattle.panel.specs.Numbers.{report_number}
use Rattle.panel.specs.State.{header_of, fixed_for}
use Rattle.panel.specs.Reporting.{acknowledged, accepting, catch_after, drawing, noting, Reporting, handing, reporting, well_lent, handing_over}
use Rattle.panel.specs.Sound.{Sound}
use Rattle.demands.specs.Calls.{Moment, ask, after, number_given, report_handed, handed_over, WellLent}
use Rattle.demands.specs.Reports.{read_behind, acknowledgement_of}
use Rattle.demands.specs.Demand2.{leaving}
use Rattle.demands.proofs.Answers.{reported_by, moment_asked, refusal_hands_none}
use Rattle.demands.proofs.Waits.{asked_reader, frame_reporting}
use Rattle.curves.specs.Area.{Drawn}
use Rattle.watch.specs.Watched.{Watched}
use Rattle.commands.specs.Lent.{Lent, lending, with_curves, with_room, with_watched}
use Rattle.commands.specs.declared.Performed.{Performed}
use Rattle.demands.proofs.WellLent.{tested_well}
use Rattle.demands.proofs.Rooms.{acknowledged_laid, acknowledgement_short}

-- what is known where an accepted frame is handed over
pub record Asks (now : Moment) (command : ℕ) (content : List ℕ) : Type 0 where
  pub well : WellLent now.lent
  pub count : ℕ
  pub told : (asked now.panel.reader).report ≡ Some (line.Accepted command count)
  pub content_is : take count (asked now.panel.reader).payload ≡ content

pub handed_asks : (now : Moment) (command : ℕ) (content : List ℕ) → handed_over now ask ≡ accepted_frame command content ∷ [] → Asks now command content
unfolding handed_over reporting handing handing_over report_handed
handed_asks now command content = go (well_lent now.lent) refl a.report refl
  where
    panel : Panel
    panel = now.panel

    a : Asked
    a = asked panel.reader

    done : Bool → Option Report → Reporting
    done enough told = reported_by panel now.lent enough a told

    go : (l : Bool) → well_lent now.lent ≡ l → (told : Option Report) → a.report ≡ told
        → report_handed (done l told).reported.handed (done l told).reported.payload ≡ accepted_frame command content ∷ []
        → Asks now command content
    go false is told tells hands = let none = refusal_hands_none now.lent (padded most_payload []) in never (cc)
    go true is None tells hands = never (cc)
    go true is (Some (line.BadCheck c)) tells hands = never (cc)
    go true is (Some (line.Accepted c n)) tells hands =
        let same : c ≡ command = cc in
        record {
          well = tested_well now.lent is;
          count = n;
          told = tells ∙ ap (λ (k : ℕ). Some (line.Accepted k n)) same;
          content_is = cc;
        }

-- a reply right behind an acknowledgement
pub reply_behind : (answer reply room : List ℕ) → answer ++ over reply (drop (length answer) room) ≡ over (answer ++ reply) room
unfolding over
reply_behind answer reply room =
    rw (length-append answer reply, append_assoc answer reply (drop (length answer + length reply) room), drop-drop (length reply) (length answer) room)

-- asking, where an accepted frame is handed over: what the command does, with the room behind the acknowledgement for its reply
module _ (now : Moment) (sound : Sound now.panel) (command : ℕ) (content : List ℕ) (asks : Asks now command content) where
  abbrev setup : Setup
  setup = now.panel.setup

  abbrev answer : List ℕ
  answer = acknowledgement_of setup command true

  -- by the data, the acknowledgement as laid and the reader behind the frame
  left_with : List ℕ → Laid → Reader → Moment
  left_with came answered reader =
      let done = performance (fixed_for setup) now.panel.registers command came (with_room now.lent (drop answered.count answered.room)) in
      let drawn = drawing done.performed.writes done.performed.adds now.panel.counts came now.lent.curves in
      record {
        panel = record {
          setup = setup;
          registers = registers_by done.performed now.panel.registers came;
          catch = catch_after done.performed.drops now.panel.catch;
          counts = drawn.counts;
          reader = reader;
        };
        lent = lending done.lent.words drawn.area (take answered.count answered.room ++ done.lent.room)
            (noting done.performed.notes came done.lent.words now.lent.watched);
      }

  after_frame : after now ask ≡ left_with content (lays (length answer) (over answer now.lent.room)) (read_behind now.panel).reader
  unfolding after handing handing_over accepting left_with read_behind
  after_frame =
      let a = asked now.panel.reader in
      ap moment_asked
      (frame_reporting now.panel now.lent asks.well command asks.count asks.told)
      ∙ ap (λ (came : List ℕ). left_with came (acknowledged setup command true now.lent.room) a.reader) asks.content_is
      ∙ ap (λ (answered : Laid). left_with content answered a.reader) (acknowledged_laid setup command true now.lent.room asks.well.room)
      ∙ ap (left_with content (lays (length answer) (over answer now.lent.room))) (asked_reader now.panel sound)

  pub done_number : number_given now ask ≡ Outcome.number_of_outcome (outcome (fixed_for setup) word_count command content)
  unfolding number_given handing handing_over report_number accepting
  done_number =
      let a = asked now.panel.reader in
      let came = take asks.count a.payload in
      let answered = acknowledged setup command true now.lent.room in
      ap (λ (r : Reporting). report_number r.reported.handed)
      (frame_reporting now.panel now.lent asks.well command asks.count asks.told)
      ∙ ap Outcome.number_of_outcome
      (performs_outcome (fixed_for setup) now.panel.registers command came (with_room now.lent (drop answered.count answered.room)))
      ∙ ap (λ (n : ℕ). Outcome.number_of_outcome (outcome (fixed_for setup) n command came)) asks.well.words
      ∙ ap (λ (c : List ℕ). Outcome.number_of_outcome (outcome (fixed_for setup) word_count command c)) asks.content_is

  -- what a command that answers this does to the curves
  abbrev pub drawn_by : Performed → Drawn
  drawn_by p = drawing p.writes p.adds now.panel.counts content now.lent.curves

  -- and what it has noted in the watch list, where it leaves these words
  abbrev pub noted_by : Performed → (words : List ℕ) → Watched
  noted_by p words = noting p.notes content words now.lent.watched

  -- a command that answers this, and leaves this of what is lent with this reply, leaves this
  pub performance_leaves : (p : Performed) (lent : Lent) (reply : List ℕ)
      → performance (fixed_for setup) now.panel.registers command content (with_room now.lent (drop (length answer) (over answer now.lent.room)))
      ≡ performs p (with_room lent (over reply (drop (length answer) (over answer now.lent.room))))
      → after now ask
      ≡ leaving now command (registers_by p now.panel.registers content) (catch_after p.drops now.panel.catch) (drawn_by p).counts
      (with_watched (with_curves lent (drawn_by p).area) (noted_by p lent.words)) reply
  unfolding leaving left_with
  performance_leaves p lent reply does =
      after_frame
      ∙ ap (λ (d : Performance). record {
        panel = record {
          setup = setup;
          registers = registers_by d.performed now.panel.registers content;
          catch = catch_after d.performed.drops now.panel.catch;
          counts = (drawn_by d.performed).counts;
          reader = (read_behind now.panel).reader;
        };
        lent = lending d.lent.words (drawn_by d.performed).area (take (length answer) (over answer now.lent.room) ++ d.lent.room)
            (noted_by d.performed d.lent.words);
      }) does
      ∙ ap (λ (r : List ℕ). record {
        panel = record {
          setup = setup;
          registers = registers_by p now.panel.registers content;
          catch = catch_after p.drops now.panel.catch;
          counts = (drawn_by p).counts;
          reader = (read_behind now.panel).reader;
        };
        lent = lending lent.words (drawn_by p).area r (noted_by p lent.words);
      }) room_is
    where
      room_is : take (length answer) (over answer now.lent.room) ++ over reply (drop (length answer) (over answer now.lent.room)) ≡ over (answer ++ reply) now.lent.room
      room_is = rw (take_over answer now.lent.room (length answer) refl, drop_over answer now.lent.room (length answer) refl) (reply_behind answer reply now.lent.room)

  -- behind an acknowledgement there is room for every frame
  pub part_holds : (payload : List ℕ) (c : ℕ) → length payload ≤ most_data (checking_of setup)
      → length (frame_of (checking_of setup) (header_of setup) c payload) ≤ length (drop (length answer) (over answer now.lent.room))
  unfolding header_bytes
  part_holds payload c within =
      let short = acknowledgement_short setup command true in
      let large = asks.well.room in
      let long = length_over answer now.lent.room (omega arith) in
      let most = length_most (checking_of setup) in
      rw (length_frame_of (checking_of setup) (header_of setup) c payload, length-drop (length answer) (over answer now.lent.room), long) (omega arith)
