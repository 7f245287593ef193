-- A frame given to a panel while nothing is held or waiting: it is taken whole, handed over, and nothing is left.
use Rattle.std.specs.Prelude.{Ok, Err}
use mathlib.Core.Path.{◌≡◌, refl, sym, ap, ◌∙◌}
use mathlib.Core.Bool.{Bool, true, false, cond}
use mathlib.Core.List.{List, [], ◌∷◌, ◌++◌, append_assoc, append-nil}
use Prim.Native.Nat.{ℕ, suc, ◌+◌, ◌≤◌, ◌<◌}
use native.Mathlib.Omega.{arith}
use borrow.Author.Tests.{lt-ltb, eq-eqb, ltb-false}
use lib.Dec.{ltb}
use lib.ListN.{length, take, drop, length-append}
use lib.Seq.{drop_at}
use Rattle.wire.specs.Room.{over}
use Rattle.wire.proofs.Over.{take_over}
use Rattle.frame.specs.declared.WriteError.TheVariants.{DataTooLong, RoomTooSmall}
use Rattle.frame.specs.Frame.{header_bytes, frame_of, most_data, longest_frame}
use Rattle.frame.specs.Writer.{least_room, Writing, answers, writing}
use Rattle.frame.proofs.GoodFrames.{frame_of_good}
use Rattle.reading.specs.Place.{Rules, Seen, pass, wait, bad, accepted, Report, accepted_frame, look, cut_short, report_of, gone_by, is_wait}
use Rattle.reading.specs.Moves.{Kept, fresh, is_pass, is_report, passes, still_closed, settled, with_byte, handed, after_report}
use Rattle.reading.specs.Demand3.{Good, NothingHeldOrWaiting, report_of_frame}
use Rattle.reading.proofs.Stable.{stable}
use Rattle.reading.proofs.Waiting.{look_nil}
use Rattle.reading.proofs.Accepting.{good_accepted}
use Rattle.reading.proofs.Damage.{cut_waits, good_report, good_length}
use Rattle.reading.proofs.ReadBack.{report_of_frame_frame_of}
use Rattle.line.specs.declared.Line.{Line}
use Rattle.line.specs.declared.Reader.{Reader}
use Rattle.line.specs.declared.Gave.{Gave}
use Rattle.line.specs.State.{rules_for, reader_of, kept_of}
use Rattle.line.specs.declared.Asked.{Asked}
use Rattle.line.specs.Reached.{report_as, payload_as}
use Rattle.line.specs.Methods.{asked, busy, given_byte, given_bytes, gave}
use Rattle.line.proofs.Padding.{take_padded}
use Rattle.line.proofs.Carried.{kept_is, ask_carried}
use Rattle.wire.proofs.Truths.{never}
use Rattle.touch.specs.Setup.{checking_of}
use Rattle.panel.specs.declared.Panel.{Panel}
use Rattle.panel.specs.State.{header_of}
use Rattle.panel.specs.Inputs.{fed_bytes}
use Rattle.panel.specs.Sound.{line_of, Sound}
use Rattle.panel.specs.Reachable.{Reachable}
use Rattle.panel.proofs.Invariant.{reachable_sound}
use Rattle.demands.specs.Calls.{Moment, bytes, ask, after, number_given, handed_over, WellLent}
use Rattle.demands.specs.Reports.{rules_of}
use Rattle.demands.specs.Demand2.{ReadsBack}
use Rattle.demands.proofs.Waits.{kept_same, reader_is, ask_hands, ask_reads_on}

-- bytes whose first place is not passed over are all kept
abbrev come : List ℕ → Kept
come xs = record { closed = false; bytes = xs }

all_kept : (rules : Rules) (xs : List ℕ) → is_pass (look rules false xs) ≡ false → settled rules false xs ≡ come xs
unfolding settled passes still_closed
all_kept rules [] stays = refl
all_kept rules (x ∷ xs) stays = rw stays

wait_stays : (seen : Seen) → is_wait seen ≡ true → is_pass seen ≡ false
unfolding is_wait is_pass
wait_stays pass is = never (cc)
wait_stays wait is = refl
wait_stays (bad body) is = refl
wait_stays (accepted body) is = refl

wait_quiet : (seen : Seen) → is_wait seen ≡ true → seen ≡ wait
unfolding is_wait
wait_quiet pass is = never (cc)
wait_quiet wait is = refl
wait_quiet (bad body) is = never (cc)
wait_quiet (accepted body) is = never (cc)

-- a good frame given byte by byte to a reader that holds nothing
module _ (line : Line) (frame : List ℕ) (good : Good (rules_for line) frame) where
  abbrev rules : Rules
  rules = rules_for line

  whole_accepted : look rules false frame ≡ accepted good.body
  whole_accepted = ap (look rules false) (sym (append-nil frame)) ∙ good_accepted rules false frame [] good

  -- no place of it is passed over, however much of it has come
  front_stays : (front rest : List ℕ) → frame ≡ front ++ rest → is_pass (look rules false front) ≡ false
  unfolding is_pass
  front_stays front rest parts = go (is_wait (look rules false front)) refl
    where
      go : (b : Bool) → is_wait (look rules false front) ≡ b → is_pass (look rules false front) ≡ false
      go true waits = wait_stays (look rules false front) waits
      go false decided =
          let seen : look rules false front ≡ accepted good.body =
          sym (stable rules false front rest decided) ∙ ap (look rules false) (sym parts) ∙ whole_accepted in
          ap is_pass seen

  -- before it has come whole the reader is free for the next byte
  front_free : (front rest : List ℕ) (b : ℕ) → frame ≡ front ++ (b ∷ rest) → busy (reader_of line (come front)) ≡ false
  unfolding header_bytes
  front_free front rest b parts =
      let waits : look rules false front ≡ wait =
      wait_quiet (look rules false front)
      (cut_waits rules front (record { frame = frame; good = good; rest = b ∷ rest; parts = parts; missing = omega arith })) in
      let long : length frame ≡ length front + suc (length rest) = ap length parts ∙ length-append front (b ∷ rest) in
      let few : length front < longest_frame = omega (arith, good_length rules frame good) in
      rw (waits, lt-ltb (length front) longest_frame few)

  byte_comes : (front rest : List ℕ) (b : ℕ) → frame ≡ front ++ (b ∷ rest)
      → (given_byte (reader_of line (come front)) b).reader ≡ reader_of line (come (front ++ (b ∷ [])))
  unfolding given_byte with_byte
  byte_comes front rest b parts =
      let further : frame ≡ (front ++ (b ∷ [])) ++ rest = parts ∙ sym (append_assoc front (b ∷ []) rest) in
      rw (front_free front rest b parts, take_padded longest_frame (length front) front refl)
      (ap (reader_of line) (all_kept rules (front ++ (b ∷ [])) (front_stays (front ++ (b ∷ [])) rest further)))

  bytes_come : (rest front : List ℕ) → frame ≡ front ++ rest
      → given_bytes (reader_of line (come front)) rest ≡ gave (length rest) (reader_of line (come frame))
  unfolding given_bytes
  bytes_come [] front parts = ap (λ (f : List ℕ). gave 0 (reader_of line (come f))) (sym (append-nil front) ∙ sym parts)
  bytes_come (b ∷ rest) front parts =
      let further : frame ≡ (front ++ (b ∷ [])) ++ rest = parts ∙ sym (append_assoc front (b ∷ []) rest) in
      let one : 1 + length rest ≡ suc (length rest) = omega arith in
      rw (front_free front rest b parts, byte_comes front rest b parts, bytes_come rest (front ++ (b ∷ [])) further, one)

  pub frame_taken : given_bytes (reader_of line fresh) frame ≡ gave (length frame) (reader_of line (come frame))
  frame_taken = bytes_come frame [] refl

  pub frame_waits : handed rules (come frame) ≡ report_of_frame rules frame ∷ []
  unfolding handed
  frame_waits = ap (report_of rules) whole_accepted ∙ good_report rules frame good

  pub nothing_behind : after_report rules (come frame) ≡ fresh
  unfolding after_report is_report gone_by settled passes still_closed
  nothing_behind =
      let body = good.body in
      let long : length frame ≡ suc (length rules.header + length body) = ap length good.whole ∙ simp length-append (omega arith) in
      let gone : drop (suc (length rules.header + length body)) frame ≡ [] =
      ap (drop (suc (length rules.header + length body))) (sym (append-nil frame)) ∙ drop_at frame [] (suc (length rules.header + length body)) long in
      ap (λ (seen : Seen). cond (is_report seen) (settled rules false (drop (suc (gone_by rules seen)) frame)) (come frame)) whole_accepted
      ∙ ap (settled rules false) gone

-- a panel that holds nothing has the reader of a new one
empty_reader : (panel : Panel) → Sound panel → NothingHeldOrWaiting (rules_of panel) (kept_of panel.reader) → panel.reader ≡ reader_of (line_of panel.setup) fresh
unfolding is_pass cut_short
empty_reader panel sound nothing =
    let rules = rules_of panel in
    let kept = kept_of panel.reader in
    let same = kept_same panel sound in
    let stands : is_pass (look rules kept.closed kept.bytes) ≡ false =
    ap (λ (k : Kept). is_pass (look rules k.closed k.bytes)) same ∙ sound.reads.reached.stands in
    reader_is panel sound ∙ ap (reader_of (line_of panel.setup)) (go kept.closed kept.bytes nothing.0 stands)
  where
    go : (closed : Bool) (xs : List ℕ) → xs ≡ [] → is_pass (look (rules_of panel) closed xs) ≡ false → record { closed = closed; bytes = xs } ≡ fresh
    go false xs empty stands = ap come empty
    go true xs empty stands =
        let passed : is_pass (look (rules_of panel) true xs) ≡ true =
        ap (λ (l : List ℕ). is_pass (look (rules_of panel) true l)) empty ∙ ap is_pass (look_nil (rules_of panel) true) in
        never (cc)

-- the panel takes a good frame whole, hands it over and holds nothing
module _ (now : Moment) (sound : Sound now.panel) (nothing : NothingHeldOrWaiting (rules_of now.panel) (kept_of now.panel.reader))
    (well : WellLent now.lent) (frame : List ℕ) (good : Good (rules_of now.panel) frame) where
  abbrev line : Line
  line = line_of now.panel.setup

  taken_whole : given_bytes now.panel.reader frame ≡ gave (length frame) (reader_of line (come frame))
  taken_whole = ap (λ (r : Reader). given_bytes r frame) (empty_reader now.panel sound nothing) ∙ frame_taken line frame good

  all_taken : number_given now (bytes frame) ≡ 0
  unfolding number_given fed_bytes
  all_taken = rw (taken_whole, eq-eqb (length frame) (length frame) refl)

  few : length frame ≤ longest_frame
  unfolding header_bytes
  few = omega (arith, good_length (rules_for line) frame good)

  frame_is_handed_over : handed_over (after now (bytes frame)) ask ≡ report_of_frame (rules_of now.panel) frame ∷ []
  unfolding after fed_bytes
  frame_is_handed_over =
      ask_hands (after now (bytes frame)) (come frame) (ap (λ (g : Gave). g.reader) taken_whole) few well ∙ frame_waits line frame good

  asked_then : asked (after now (bytes frame)).panel.reader ≡ record {
    report = report_as (report_of_frame (rules_of now.panel) frame ∷ []);
    payload = payload_as (report_of_frame (rules_of now.panel) frame ∷ []);
    reader = reader_of line fresh;
  }
  unfolding after fed_bytes
  asked_then =
      ap (λ (g : Gave). asked g.reader) taken_whole
      ∙ ask_carried line (come frame) few
      ∙ rw (frame_waits line frame good, nothing_behind line frame good)

  reader_then : (after (after now (bytes frame)) ask).panel.reader ≡ reader_of line fresh
  unfolding after fed_bytes report_as report_of_frame
  reader_then =
      ask_reads_on (after now (bytes frame)) well _ _ (ap (λ (a : Asked). a.report) asked_then) ∙ ap (λ (a : Asked). a.reader) asked_then

  pub good_reads_back : (command : ℕ) (payload : List ℕ) → report_of_frame (rules_of now.panel) frame ≡ accepted_frame command payload → ReadsBack now frame command payload
  good_reads_back command payload is =
      record {
        taken = all_taken;
        handed_over = frame_is_handed_over ∙ ap (λ (r : Report). r ∷ []) is;
        nothing_left = ap (λ (r : Reader). kept_of r) reader_then ∙ kept_is line fresh;
      }

-- the frame writer answers a frame's length only where that frame stands at the front of the room it leaves
wrote : (checking : Bool) (header : List ℕ) (command : ℕ) (payload room : List ℕ) (n : ℕ)
    → (writing checking header command payload room).answer ≡ Ok n
    → (length payload ≤ most_data checking) × (take n (writing checking header command payload room).room ≡ frame_of checking header command payload)
unfolding writing
wrote checking header command payload room n = go (ltb (length room) least_room) (ltb (most_data checking) (length payload)) refl
  where
    frame : List ℕ
    frame = frame_of checking header command payload

    done : Bool → Bool → Writing
    done a b = cond a (answers (Err RoomTooSmall) room) (cond b (answers (Err DataTooLong) room) (answers (Ok (length frame)) (over frame room)))

    go : (a b : Bool) → ltb (most_data checking) (length payload) ≡ b → (done a b).answer ≡ Ok n
        → (length payload ≤ most_data checking) × (take n (done a b).room ≡ frame)
    go true b is answer = never (cc)
    go false true is answer = never (cc)
    go false false is answer = let long : length frame ≡ n = cc in (ltb-false (most_data checking) (length payload) is, take_over frame room n long)

-- At any panel that calls reach from a start, while nothing is held or waiting: what the writer wrote into any room, under the header and the choice that
-- are set up.
pub writer_reads_back : (now : Moment) → Reachable now.panel → NothingHeldOrWaiting (rules_of now.panel) (kept_of now.panel.reader)
    → WellLent now.lent → (command : ℕ) (payload room : List ℕ) (n : ℕ)
    → (writing (checking_of now.panel.setup) (header_of now.panel.setup) command payload room).answer ≡ Ok n
    → ReadsBack now (take n (writing (checking_of now.panel.setup) (header_of now.panel.setup) command payload room).room) command payload
writer_reads_back now reached nothing well command payload room n answer =
    let sound = reachable_sound now.panel reached in
    let checking = checking_of now.panel.setup in
    let header = header_of now.panel.setup in
    let done = wrote checking header command payload room n answer in
    rw done.1
    (good_reads_back now sound nothing well (frame_of checking header command payload) (frame_of_good checking header command payload done.0) command payload
    (report_of_frame_frame_of checking header command payload))
