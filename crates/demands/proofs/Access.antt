-- All that asking leaves: where the frame it hands over is done, after a bad check, and where nothing is handed over.
use Rattle.std.specs.Prelude.{Option, None, Some, Ok, Err}
use Rattle.line.specs.declared.Report.{Report}
use mathlib.Core.Path.{◌≡◌, refl, sym, ap, ◌∙◌}
use mathlib.Core.Bool.{Bool, true, false}
use mathlib.Core.List.{List, [], ◌∷◌}
use Prim.Native.Nat.{ℕ, ◌≤◌, ◌<◌}
use native.Mathlib.Omega.{arith}
use lib.ListN.{length, drop}
use Rattle.wire.specs.Room.{over, Laid}
use Rattle.wire.specs.ByteOrder.{byte_at, word_at}
use Rattle.wire.proofs.Over.{over_nil}
use Rattle.frame.specs.Frame.{most_data, most_payload}
use Rattle.frame.proofs.Writers.{frame_laid_lem}
use Rattle.reading.specs.Place.{bad_check, accepted_frame}
use Rattle.line.specs.declared.Reader.{Reader}
use Rattle.line.specs.declared.Report.TheVariants as line
use Rattle.line.specs.declared.Asked.{Asked}
use Rattle.line.specs.State.{padded}
use Rattle.line.specs.Methods.{asked}
use Rattle.wire.proofs.Truths.{never}
use Rattle.wire.specs.Addresses.{word_count}
use Rattle.words.specs.Words.{words_written}
use Rattle.commands.specs.Outcome.{Outcome, write_registers_outcome, read_registers_outcome, write_words_outcome, read_words_outcome, add_curves_outcome, outcome, is_done}
use Rattle.commands.specs.Outcome as Outcome
use Rattle.commands.specs.declared.Refusal.{Refusal}
use Rattle.commands.specs.declared.Refusal.TheVariants.{UnknownCommand, WrongData, PastEnd, Unwritable, WrongValue, ReplyTooLong}
use Rattle.commands.specs.Effect.{words_writing, replying, registers_replying, words_replying, answered, catch_dropped, registers_writing, curves_adding}
use Rattle.commands.specs.declared.Performed.{Performed}
use Rattle.commands.specs.Perform.{performs, performance}
use Rattle.commands.specs.Reply.{registers_reply, words_reply}
use Rattle.commands.proofs.Refusals.{number_refuses, refusal_changes_nothing}
use Rattle.commands.proofs.Reading.{registers_short, words_within, words_short}
use Rattle.commands.proofs.Replies.{length_registers_reply, length_words_reply}
use Rattle.touch.specs.Setup.{checking_of}
use Rattle.panel.specs.State.{header_of, with_reader, fixed_for}
use Rattle.panel.specs.Reporting.{acknowledged, Reporting, handing, reporting, well_lent, handing_over}
use Rattle.panel.specs.Sound.{Sound}
use Rattle.panel.specs.Reachable.{Reachable}
use Rattle.panel.proofs.Invariant.{reachable_sound}
use Rattle.demands.specs.Calls.{Moment, ask, after, number_given, report_handed, handed_over}
use Rattle.demands.specs.Reports.{read_behind, acknowledgement_of}
use Rattle.demands.specs.Demand2.{read_reply, fetch_reply, after_write, after_read, after_store, after_fetch, after_add, after_bad_check}
use Rattle.demands.proofs.Answers.{reported_by, moment_asked, refusal_hands_none}
use Rattle.demands.proofs.Waits.{asked_reader}
use Rattle.demands.proofs.Rooms.{acknowledged_laid}
use Rattle.commands.specs.Lent.{Lent, with_words, with_room}
use Rattle.line.proofs.Asking.{nothing_keeps}
use Rattle.demands.proofs.WellLent.{tested_well}
use Rattle.demands.proofs.FrameAsked.{Asks, handed_asks, done_number, performance_leaves, part_holds}

-- "Numbers 2 to 7 are answers beside a frame's report"
pub refused_from_2 : (why : Refusal) → 2 ≤ Outcome.number_of_outcome (Err why)
unfolding Outcome.number_of_outcome
refused_from_2 UnknownCommand = omega arith
refused_from_2 WrongData = omega arith
refused_from_2 PastEnd = omega arith
refused_from_2 Unwritable = omega arith
refused_from_2 WrongValue = omega arith
refused_from_2 ReplyTooLong = omega arith

-- what has number 0 is done
pub done_is : (o : Outcome) → Outcome.number_of_outcome o ≡ 0 → o ≡ Ok tt
unfolding Outcome.number_of_outcome
done_is (Ok tt) zero = refl
done_is (Err why) zero = let above = refused_from_2 why in absurd (omega arith)

-- the room behind the acknowledgement, which a command is lent, and what the command does with it
abbrev pub part_behind : Moment → (command : ℕ) → List ℕ
part_behind now command =
    let answer = acknowledgement_of now.panel.setup command true in
    drop (length answer) (over answer now.lent.room)

abbrev pub Does : Moment → (command : ℕ) → (content : List ℕ) → Performed → Lent → (reply : List ℕ) → Type 0
Does now command content p lent reply =
    performance (fixed_for now.panel.setup) now.panel.registers command content (with_room now.lent (part_behind now command))
    ≡ performs p (with_room lent (over reply (part_behind now command)))

-- a command that is refused leaves all that is lent, and has no reply
pub refused_does : (now : Moment) → Sound now.panel → (command : ℕ) (content : List ℕ) → Asks now command content → 0 < number_given now ask
    → Does now command content (answered (outcome (fixed_for now.panel.setup) (length now.lent.words) command content) 0) now.lent []
refused_does now sound command content asks above =
    let fixed = fixed_for now.panel.setup in
    let o = outcome fixed word_count command content in
    let number = done_number now sound command content asks in
    let above-0 : 0 < Outcome.number_of_outcome o = omega arith in
    let p = outcome fixed (length now.lent.words) command content in
    let refused : is_done p ≡ false = rw asks.well.words (number_refuses o above-0) in
    let part = part_behind now command in
    refusal_changes_nothing fixed now.panel.registers content (with_room now.lent part) command refused
    ∙ ap (λ (r : List ℕ). performs (answered p 0) (with_room now.lent r)) (sym (over_nil part))

module _ (now : Moment) (reached : Reachable now.panel) (content : List ℕ) (done : number_given now ask ≡ 0) where
  abbrev sound : Sound now.panel
  sound = reachable_sound now.panel reached

  pub is_done_lem : (command : ℕ) → Asks now command content
      → is_done (outcome (fixed_for now.panel.setup) word_count command content) ≡ true
  is_done_lem command asks =
      ap is_done
      (done_is (outcome (fixed_for now.panel.setup) word_count command content) (sym (done_number now sound command content asks) ∙ done))

  -- what each command does that is done: what it answers, and what it leaves of what is lent, its reply over the room behind the acknowledgement
  pub does_write : Asks now 0x80 content
      → Does now 0x80 content (record { outcome = write_registers_outcome now.panel.setup.pages content; writes = true; drops = catch_dropped content; adds = false; notes = false; replied = 0 }) now.lent []
  unfolding outcome performance registers_writing
  does_write asks = rw (is_done_lem 0x80 asks, over_nil (part_behind now 0x80))

  pub does_store : Asks now 0x82 content
      → Does now 0x82 content (record { outcome = write_words_outcome (length now.lent.words) content; writes = false; drops = false; adds = false; notes = true; replied = 0 })
      (with_words now.lent (words_written now.lent.words (word_at content 0) (drop 2 content))) []
  unfolding outcome performance words_writing
  does_store asks =
      let stored : is_done (write_words_outcome (length now.lent.words) content) ≡ true = rw asks.well.words (is_done_lem 0x82 asks) in
      rw (stored, over_nil (part_behind now 0x82))

  pub does_add : Asks now 0x84 content
      → Does now 0x84 content (record { outcome = add_curves_outcome content; writes = false; drops = false; adds = true; notes = false; replied = 0 }) now.lent []
  unfolding outcome performance curves_adding
  does_add asks = rw (is_done_lem 0x84 asks, over_nil (part_behind now 0x84))

  pub does_read : Asks now 0x81 content
      → Does now 0x81 content (answered (read_registers_outcome (checking_of now.panel.setup) content) (length (read_reply now content))) now.lent (read_reply now content)
  unfolding outcome performance registers_replying replying registers_reply
  does_read asks =
      let setup = now.panel.setup in
      let checking = checking_of setup in
      let payload = registers_reply now.panel.registers (byte_at content 0) (byte_at content 1) in
      let read = is_done_lem 0x81 asks in
      let long = length_registers_reply now.panel.registers (byte_at content 0) (byte_at content 1) in
      let short = registers_short (fixed_for setup) content (read_registers_outcome checking content) true refl (sym read) (byte_at content 0) (byte_at content 1) refl refl refl in
      let within : length payload ≤ most_data checking = rw long short in
      rw (read, frame_laid_lem checking (header_of setup) 0x81 payload (part_behind now 0x81) within (part_holds now sound 0x81 content asks payload 0x81 within))

  pub does_fetch : Asks now 0x83 content
      → Does now 0x83 content (answered (read_words_outcome (length now.lent.words) (checking_of now.panel.setup) content) (length (fetch_reply now content))) now.lent (fetch_reply now content)
  unfolding outcome performance words_replying replying words_reply
  does_fetch asks =
      let setup = now.panel.setup in
      let checking = checking_of setup in
      let payload = words_reply now.lent.words (word_at content 0) (byte_at content 2) in
      let read : is_done (read_words_outcome (length now.lent.words) checking content) ≡ true = rw asks.well.words (is_done_lem 0x83 asks) in
      let o = read_words_outcome (length now.lent.words) checking content in
      let inside = words_within (fixed_for setup) now.lent.words content o true refl (sym read) (word_at content 0) (byte_at content 2) refl refl refl in
      let long = length_words_reply now.lent.words (word_at content 0) (byte_at content 2) inside in
      let short = words_short (fixed_for setup) now.lent.words content o true refl (sym read) (word_at content 0) (byte_at content 2) refl refl refl in
      let within : length payload ≤ most_data checking = rw long short in
      rw (read, frame_laid_lem checking (header_of setup) 0x83 payload (part_behind now 0x83) within (part_holds now sound 0x83 content asks payload 0x83 within))

  -- "0x80, address (1), one or more bytes: write registers."
  pub writes_registers : handed_over now ask ≡ accepted_frame 0x80 content ∷ [] → after now ask ≡ after_write now content
  unfolding after_write
  writes_registers hands = let asks = handed_asks now 0x80 content hands in performance_leaves now sound 0x80 content asks _ now.lent [] (does_write asks)

  -- "0x82, address (2), one or more words: write variables."
  pub writes_words : handed_over now ask ≡ accepted_frame 0x82 content ∷ [] → after now ask ≡ after_store now content
  unfolding after_store
  writes_words hands = let asks = handed_asks now 0x82 content hands in performance_leaves now sound 0x82 content asks _ _ [] (does_store asks)

  -- "0x81, address (1), count (1): read registers. Reply 0x81, address, count, bytes."
  pub reads_registers : handed_over now ask ≡ accepted_frame 0x81 content ∷ [] → after now ask ≡ after_read now content
  unfolding after_read
  reads_registers hands =
      let asks = handed_asks now 0x81 content hands in performance_leaves now sound 0x81 content asks _ now.lent (read_reply now content) (does_read asks)

  -- "0x83, address (2), count (1): read variables. Reply 0x83, address, count, words."
  pub reads_words : handed_over now ask ≡ accepted_frame 0x83 content ∷ [] → after now ask ≡ after_fetch now content
  unfolding after_fetch
  reads_words hands =
      let asks = handed_asks now 0x83 content hands in performance_leaves now sound 0x83 content asks _ now.lent (fetch_reply now content) (does_fetch asks)

  -- 02, §2: "command 0x84 ..: a mode byte, bit n for channel n, then 16-bit numbers in rounds"
  pub adds_numbers : handed_over now ask ≡ accepted_frame 0x84 content ∷ [] → after now ask ≡ after_add now content
  unfolding after_add
  adds_numbers hands = let asks = handed_asks now 0x84 content hands in performance_leaves now sound 0x84 content asks _ now.lent [] (does_add asks)

-- "each bad check by the same with 0x00"; "'Nothing' changes nothing, the reply room included."
module _ (now : Moment) where
  abbrev a : Asked
  a = asked now.panel.reader

  abbrev reported : Bool → Option Report → Reporting
  reported enough told = reported_by now.panel now.lent enough a told

  pub answers_bad_check : Reachable now.panel → (command : ℕ) → handed_over now ask ≡ bad_check command ∷ [] → after now ask ≡ after_bad_check now command
  unfolding after handed_over reporting handing handing_over report_handed after_bad_check read_behind
  answers_bad_check reached command = go (well_lent now.lent) refl a.report
    where
      go : (l : Bool) → well_lent now.lent ≡ l → (told : Option Report)
          → report_handed (reported l told).reported.handed (reported l told).reported.payload ≡ bad_check command ∷ []
          → moment_asked (reported l told) ≡ after_bad_check now command
      go false is told hands = let none = refusal_hands_none now.lent (padded most_payload []) in never (cc)
      go true is None hands = never (cc)
      go true is (Some (line.Accepted c n)) hands = never (cc)
      go true is (Some (line.BadCheck c)) hands =
          let same : c ≡ command = cc in
          ap (λ (k : ℕ). record {
            panel = with_reader now.panel a.reader;
            lent = with_room now.lent (acknowledged now.panel.setup k false now.lent.room).room;
          }) same
          ∙ ap (λ (laid : Laid). record { panel = with_reader now.panel a.reader; lent = with_room now.lent laid.room })
          (acknowledged_laid now.panel.setup command false now.lent.room (tested_well now.lent is).room)
          ∙ ap (λ (r : Reader). record {
            panel = with_reader now.panel r;
            lent = with_room now.lent (over (acknowledgement_of now.panel.setup command false) now.lent.room);
          }) (asked_reader now.panel (reachable_sound now.panel reached))

  pub nothing_changes_nothing : handed_over now ask ≡ [] → after now ask ≡ now
  unfolding after handed_over reporting handing handing_over report_handed
  nothing_changes_nothing = go (well_lent now.lent) a.report refl
    where
      go : (l : Bool) (told : Option Report) → a.report ≡ told → report_handed (reported l told).reported.handed (reported l told).reported.payload ≡ []
          → moment_asked (reported l told) ≡ now
      go false told is hands = refl
      go true None is hands = rw (nothing_keeps now.panel.reader is)
      go true (Some (line.Accepted c n)) is hands = never (cc)
      go true (Some (line.BadCheck c)) is hands = never (cc)
