-- "reports are then asked for one at a time until the answer is 'nothing'": the answer comes, and says that no report waits.
use mathlib.Core.Path.{◌≡◌, sym, ap, ◌∙◌}
use Prim.Native.Nat.{ℕ, zero, suc}
use lib.ListN.{length, replicate}
use Rattle.frame.specs.Frame.{longest_frame}
use Rattle.reading.specs.Moves.{Kept, after_report}
use Rattle.reading.specs.Run.{run, asks}
use Rattle.reading.proofs.Moves.{handed_nothing}
use Rattle.reading.proofs.Asking.{asks_end}
use Rattle.line.specs.declared.Line as Declared
use Rattle.line.specs.declared.Reader.{Reader}
use Rattle.line.specs.State.{rules_for, reader_of, kept_of}
use Rattle.line.specs.Methods.{busy}
use Rattle.line.specs.Reached.{Reached}
use Rattle.line.proofs.Carried.{waiting_is, reached_report}
use Rattle.panel.specs.declared.Panel.{Panel}
use Rattle.panel.specs.Answers.{AskAnswer}
use Rattle.panel.specs.Reporting.{reporting}
use Rattle.panel.specs.Sound.{line_of, Sound}
use Rattle.panel.specs.Reachable.{Reachable}
use Rattle.panel.proofs.Invariant.{reachable_sound}
use Rattle.demands.specs.Calls.{Moment, ask, after, after_all, report_handed, handed_over, Typed, AllTyped, WellLent}
use Rattle.demands.specs.Reports.{rules_of, report_waits, waiting_report}
use Rattle.demands.specs.AsRead.{AlwaysUntilNothing}
use Rattle.demands.proofs.Calls.{calls_reached, arises_reachable}
use Rattle.demands.proofs.Waits.{busy_waits, sound_ask_hands}
use Rattle.panel.proofs.Lengths.{reported_words_long, reported_area_long, reported_room_long, reported_list_judged}
use Rattle.demands.proofs.WellLent.{well_tested}
use Rattle.demands.proofs.Reading.{ask_moves}

-- what is lent stays enough
ask_well : (now : Moment) → WellLent now.lent → WellLent (after now ask).lent
unfolding after
ask_well now well =
    let same : length (reporting now.panel now.lent).lent.room ≡ length now.lent.room = reported_room_long now.panel now.lent in
    record {
      words = reported_words_long now.panel now.lent ∙ well.words;
      curves = reported_area_long now.panel now.lent ∙ well.curves;
      room = rw same well.room;
      watched = reported_list_judged now.panel now.lent ∙ well.watched;
    }

-- n asks of a panel are n asks of the reading
asks_move : (line : Declared.Line) (n : ℕ) (now : Moment) (kept : Kept) → Reached line kept → now.panel.reader ≡ reader_of line kept
    → WellLent now.lent
    → ((after_all now (replicate n ask)).panel.reader ≡ reader_of line (run (rules_for line) kept (asks n)).kept)
    × Reached line (run (rules_for line) kept (asks n)).kept
unfolding after_all after run asks
asks_move line zero now kept reached reads well = (reads, reached)
asks_move line (suc n) now kept reached reads well =
    let next = after now ask in
    asks_move line n next (after_report (rules_for line) kept) (reached_report line kept reached)
    (ask_moves line now.panel kept reached now.lent reads (well_tested now.lent well)) (ask_well now well)

asks_typed : (n : ℕ) → AllTyped (replicate n ask)
unfolding AllTyped Typed
asks_typed zero = tt
asks_typed (suc n) = (tt, asks_typed n)

pub always_until_nothing : AlwaysUntilNothing
unfolding handed_over report_handed report_waits waiting_report
always_until_nothing now arises well =
    record {
      nothing_waits = λ nothing.
          handed_nothing (rules_of now.panel) (kept_of now.panel.reader)
          (sym (sound_ask_hands now sound well)
          ∙ ap (λ (h : AskAnswer). report_handed h (reporting now.panel now.lent).reported.payload) nothing);
      comes =
          sym (busy_waits last (reachable_sound last (calls_reached now (replicate longest_frame ask) (asks_typed longest_frame) reachable)))
          ∙ ap (λ (r : Reader). busy r) moved.0
          ∙ waiting_is line (run (rules_for line) kept (asks longest_frame)).kept moved.1
          ∙ asks_end (rules_for line) longest_frame kept sound.reads.reached.few;
    }
  where
    reachable : Reachable now.panel
    reachable = arises_reachable now arises

    sound : Sound now.panel
    sound = reachable_sound now.panel reachable

    line : Declared.Line
    line = line_of now.panel.setup

    kept : Kept
    kept = sound.reads.kept

    last : Panel
    last = (after_all now (replicate longest_frame ask)).panel

    moved : (last.reader ≡ reader_of line (run (rules_for line) kept (asks longest_frame)).kept) × Reached line (run (rules_for line) kept (asks longest_frame)).kept
    moved = asks_move line longest_frame now kept sound.reads.reached sound.reads.is well
