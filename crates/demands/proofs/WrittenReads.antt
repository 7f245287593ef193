-- Register and word access: what an 0x80 wrote an 0x81 of any part of its run replies, and what an 0x82 wrote an 0x83, whatever calls come between
-- that name nothing of that part.
use mathlib.Core.Path.{◌≡◌, refl, sym, ap, ◌∙◌}
use mathlib.Core.Logic.{◌⊎◌, inl, inr}
use mathlib.Core.List.{List, [], ◌∷◌, ◌++◌}
use Prim.Native.Nat.{ℕ, zero, suc, ◌+◌, ◌-◌, ◌*◌, ◌%◌, ◌≤◌, ◌<◌}
use native.Mathlib.Omega.{arith}
use borrow.Author.Tests.{eq-eqb}
use lib.ListN.{length, take, drop, length-drop}
use lib.Seq.{ext_get_or, get_or-drop, get_or-take, take-take, take-nil, drop-nil, drop-drop}
use Rattle.wire.specs.Bytes.{Bytes}
use Rattle.wire.specs.ByteOrder.{high_byte, low_byte, high_first, byte_at, word_at}
use Rattle.wire.specs.Addresses.{register_count, word_count}
use Rattle.frame.specs.Frame.{frame_of, most_data}
use Rattle.reading.specs.Place.{accepted_frame}
use Rattle.reading.proofs.ByteLists.{bytes_drop}
use Rattle.registers.specs.declared.Registers.{Registers}
use Rattle.registers.specs.Table.{register_at, register_run}
use Rattle.registers.specs.Run.{reads_as}
use Rattle.registers.proofs.Written.{written_reads_back}
use Rattle.words.specs.Words.{word_at_address, words_of, bytes_of, word_run, words_written}
use Rattle.words.proofs.Carried.{bytes_of_words_of}
use Rattle.words.proofs.Loops.{length_word_run}
use Rattle.words.proofs.Written.{words_read_back, still_as_many}
use Rattle.commands.specs.Outcome.{outcome}
use Rattle.commands.proofs.DoneWrites.{registers_passed, WordsPassed, words_passed}
use Rattle.touch.specs.Setup.{checking_of}
use Rattle.panel.specs.State.{header_of}
use Rattle.panel.specs.Reachable.{Reachable, by_report}
use Rattle.panel.proofs.Invariant.{always_256_registers}
use Rattle.demands.specs.Calls.{Moment, Call, ask, after, after_all, number_given, handed_over, AllTyped}
use Rattle.demands.specs.Demand2.{NamesWord, NamesRegister, SomeCall, leaving, after_write, after_store}
use Rattle.demands.specs.Counts.{reply_to}
use Rattle.demands.specs.Replied.{Replied}
use Rattle.demands.proofs.Calls.{calls_reached}
use Rattle.demands.proofs.Counts.{replied_by}
use Rattle.demands.proofs.ReadsDone.{read_of_written_is_done, fetch_of_stored_is_done}
use Rattle.demands.proofs.Contents.{content_bytes}
use Rattle.demands.proofs.Named.{word_stays_or_is_named, register_stays_or_is_named}
use Rattle.demands.proofs.FrameAsked.{handed_asks}
use Rattle.commands.specs.Effect.{registers_left}
use Rattle.demands.proofs.Access.{is_done_lem, writes_registers, writes_words}

-- registers that agree over a run read alike
same_run : (a b : Registers) (n address : ℕ) → ((i : ℕ) → i < n → register_at a (address + i) ≡ register_at b (address + i))
    → register_run a address n ≡ register_run b address n
unfolding register_run
same_run a b zero address agree = refl
same_run a b (suc n) address agree =
    let here : address + 0 ≡ address = omega arith in
    rw (
      ap (register_at a) (sym here) ∙ agree 0 (omega arith) ∙ ap (register_at b) here,
      same_run a b n (suc address) (λ i h. ap (register_at a) (next i) ∙ agree (suc i) (omega arith) ∙ ap (register_at b) (sym (next i))),
    )
  where
    next : (i : ℕ) → suc address + i ≡ address + suc i
    next i = omega arith

not_named : {A B : Type 0} → A ⊎ B → (B → ⊥) → A
not_named (inl a) none = a
not_named (inr b) none = absurd (none b)

-- a part of a run
run_front : (r : Registers) (n address count : ℕ) → count ≤ n → register_run r address count ≡ take count (register_run r address n)
unfolding register_run
run_front r n address zero fits = refl
run_front r zero address (suc count) fits = absurd (omega arith)
run_front r (suc n) address (suc count) fits = ap (λ (l : List ℕ). register_at r address ∷ l) (run_front r n (suc address) count (omega arith))

run_part : (r : Registers) (k n address count : ℕ) → k + count ≤ n → register_run r (address + k) count ≡ take count (drop k (register_run r address n))
unfolding register_run
run_part r zero n address count fits =
    let here : address + 0 ≡ address = omega arith in rw here (run_front r n address count (omega arith))
run_part r (suc k) zero address count fits = absurd (omega arith)
run_part r (suc k) (suc n) address count fits =
    let next : address + suc k ≡ suc address + k = omega arith in rw next (run_part r k n (suc address) count (omega arith))

module _ (now : Moment) (reached : Reachable now.panel) (content : List ℕ) (writes : handed_over now ask ≡ accepted_frame 0x80 content ∷ [])
    (done : number_given now ask ≡ 0) (calls : List Call) (typed : AllTyped calls) (address count : ℕ) (from : byte_at content 0 ≤ address)
    (to : address + count ≤ byte_at content 0 + length (drop 1 content))
    (none : (k : ℕ) → address ≤ k → k < address + count → SomeCall (λ then call. NamesRegister then k call) (after now ask) calls → ⊥) where
  fits_registers : byte_at content 0 + length (drop 1 content) ≤ register_count
  unfolding outcome
  fits_registers = (registers_passed now.panel.setup.pages content (is_done_lem now reached content done 0x80 (handed_asks now 0x80 content writes))).fits

  registers_now : (after now ask).panel.registers ≡ registers_left now.panel.registers content
  unfolding after_write leaving
  registers_now = ap (λ (m : Moment). m.panel.registers) (writes_registers now reached content done writes)

  reached_next : Reachable (after now ask).panel
  unfolding after
  reached_next = by_report now.panel now.lent reached

  run_still : register_run (after_all (after now ask) calls).panel.registers address count
      ≡ take count (drop (address - byte_at content 0) (reads_as (byte_at content 0) (drop 1 content)))
  unfolding registers_left
  run_still =
      let first = byte_at content 0 in
      let all = length (drop 1 content) in
      let left = registers_left now.panel.registers content in
      let place : first + (address - first) ≡ address = omega arith in
      same_run (after_all (after now ask) calls).panel.registers (after now ask).panel.registers count address
      (λ i inside. not_named (register_stays_or_is_named (after now ask) reached_next calls typed (address + i)) (none (address + i) (omega arith) (omega arith)))
      ∙ ap (λ (r : Registers). register_run r address count) registers_now
      ∙ ap (λ (at : ℕ). register_run left at count) (sym place)
      ∙ run_part left (address - first) all first count (omega arith)
      ∙ ap (λ (run : List ℕ). take count (drop (address - first) run))
      (written_reads_back now.panel.registers (always_256_registers now.panel reached) first (drop 1 content) fits_registers)

  -- "Reply 0x81, address, count, bytes": those bytes, as a frame right behind the acknowledgement
  pub what_80_wrote_81_replies :
      handed_over (after_all (after now ask) calls) ask ≡ accepted_frame 0x81 (address ∷ count ∷ []) ∷ []
      → Replied (after_all (after now ask) calls) 0x81 (address ∷ count ∷ []) (address ∷ count ∷ take count (drop (address - byte_at content 0) (reads_as (byte_at content 0) (drop 1 content))))
  unfolding reply_to
  what_80_wrote_81_replies reads =
      let then = after_all (after now ask) calls in
      let setup = then.panel.setup in
      let there = calls_reached (after now ask) calls typed reached_next in
      let answered = read_of_written_is_done now reached content writes done address count from to then there reads in
      replied_by then there 0x81 (address ∷ count ∷ []) _ reads answered
      (rw (eq-eqb (number_given then ask) 0 answered)
      (ap (λ (run : List ℕ). frame_of (checking_of setup) (header_of setup) 0x81 (address ∷ count ∷ run)) run_still))

-- words that agree over a run read alike
same_words : (a b : List ℕ) (address n : ℕ) → address + n ≤ length a → address + n ≤ length b
    → ((i : ℕ) → i < n → word_at_address a (address + i) ≡ word_at_address b (address + i)) → word_run a address n ≡ word_run b address n
unfolding word_run word_at_address
same_words a b address n in-a in_b agree =
    let long-a : length (take n (drop address a)) ≡ n = unfold word_run in length_word_run a address n in-a in
    let long-b : length (take n (drop address b)) ≡ n = unfold word_run in length_word_run b address n in_b in
    ext_get_or 0 (take n (drop address a)) (take n (drop address b)) (long-a ∙ sym long-b)
    (λ i h.
    let inside : i < n = omega arith in
    get_or-take n (drop address a) i 0 inside ∙ get_or-drop address a i 0 ∙ agree i inside ∙ sym (get_or-take n (drop address b) i 0 inside ∙ get_or-drop address b i 0))

-- a part of a run of words, and the bytes that carry it
front_part : (count k n : ℕ) (l : List ℕ) → k + count ≤ n → take count (drop k (take n l)) ≡ take count (drop k l)
front_part count zero n l fits = take-take count n l (omega arith)
front_part count (suc k) zero l fits = absurd (omega arith)
front_part count (suc k) (suc n) [] fits = refl
front_part count (suc k) (suc n) (w ∷ l) fits = front_part count k n l (omega arith)

word_part : (words : List ℕ) (address k n count : ℕ) → k + count ≤ n → word_run words (address + k) count ≡ take count (drop k (word_run words address n))
unfolding word_run
word_part words address k n count fits = ap (take count) (sym (drop-drop k address words)) ∙ sym (front_part count k n (drop address words) fits)

bytes_of_take : (count : ℕ) (words : List ℕ) → bytes_of (take count words) ≡ take (2 * count) (bytes_of words)
unfolding bytes_of
bytes_of_take zero words = refl
bytes_of_take (suc count) [] = sym (take-nil (2 * suc count))
bytes_of_take (suc count) (w ∷ words) =
    let two : 2 * suc count ≡ suc (suc (2 * count)) = omega arith in
    rw two (ap (λ (l : List ℕ). high_byte w ∷ low_byte w ∷ l) (bytes_of_take count words))

bytes_of_drop : (k : ℕ) (words : List ℕ) → bytes_of (drop k words) ≡ drop (2 * k) (bytes_of words)
unfolding bytes_of
bytes_of_drop zero words = refl
bytes_of_drop (suc k) [] = sym (drop-nil (2 * suc k))
bytes_of_drop (suc k) (w ∷ words) =
    let two : 2 * suc k ≡ suc (suc (2 * k)) = omega arith in
    rw two (bytes_of_drop k words)

module _ (now : Moment) (reached : Reachable now.panel) (content : List ℕ) (writes : handed_over now ask ≡ accepted_frame 0x82 content ∷ [])
    (done : number_given now ask ≡ 0) (calls : List Call) (typed : AllTyped calls) (address count : ℕ) (from : word_at content 0 ≤ address)
    (to : address + count ≤ word_at content 0 + length (words_of (drop 2 content)))
    (none : (k : ℕ) → address ≤ k → k < address + count → SomeCall (λ then call. NamesWord then k call) (after now ask) calls → ⊥) where
  abbrev n : ℕ
  n = length (words_of (drop 2 content))

  -- how far behind the first word of the run the part begins
  abbrev k : ℕ
  k = address - word_at content 0

  -- the moment after the write and further calls
  abbrev then : Moment
  then = after_all (after now ask) calls

  passed : WordsPassed word_count content
  unfolding outcome
  passed = words_passed word_count content (is_done_lem now reached content done 0x82 (handed_asks now 0x82 content writes))

  fits_words : word_at content 0 + n ≤ length now.lent.words
  fits_words = let whole = (handed_asks now 0x82 content writes).well.words in omega (arith, passed.fits)

  words_now : (after now ask).lent.words ≡ words_written now.lent.words (word_at content 0) (drop 2 content)
  unfolding after_store leaving
  words_now = ap (λ (m : Moment). m.lent.words) (writes_words now reached content done writes)

  words_still : length then.lent.words ≡ word_count → word_run then.lent.words address count ≡ take count (drop k (words_of (drop 2 content)))
  words_still whole =
      let first = word_at content 0 in
      let left = words_written now.lent.words first (drop 2 content) in
      let place : first + k ≡ address = omega arith in
      let long : length (after now ask).lent.words ≡ length now.lent.words =
      ap length words_now ∙ still_as_many now.lent.words (drop 2 content) first fits_words in
      same_words then.lent.words (after now ask).lent.words address count (omega (arith, passed.fits)) (omega (arith, fits_words))
      (λ i inside. not_named (word_stays_or_is_named (after now ask) calls (address + i)) (none (address + i) (omega arith) (omega arith)))
      ∙ ap (λ (w : List ℕ). word_run w address count) words_now
      ∙ ap (λ (at : ℕ). word_run left at count) (sym place)
      ∙ word_part left first k n count (omega arith)
      ∙ ap (λ (run : List ℕ). take count (drop k run)) (words_read_back now.lent.words (drop 2 content) first fits_words)

  bytes_still : length then.lent.words ≡ word_count → bytes_of (word_run then.lent.words address count) ≡ take (2 * count) (drop (2 * k) (drop 2 content))
  bytes_still whole =
      let are : Bytes (drop 2 content) = bytes_drop 2 content (content_bytes now reached 0x82 content writes) in
      let even : length (drop 2 content) % 2 ≡ 0 = simp length-drop (omega (arith, passed.even, passed.long)) in
      ap bytes_of (words_still whole)
      ∙ bytes_of_take count (drop k (words_of (drop 2 content)))
      ∙ ap (take (2 * count)) (bytes_of_drop k (words_of (drop 2 content)) ∙ ap (drop (2 * k)) (bytes_of_words_of (drop 2 content) are even))

  -- "Reply 0x83, address, count, words": the data that was written, as a frame right behind the acknowledgement
  pub what_82_wrote_83_replies :
      handed_over (after_all (after now ask) calls) ask ≡ accepted_frame 0x83 (high_first address ++ (count ∷ [])) ∷ []
      → 3 + 2 * count ≤ most_data (checking_of (after_all (after now ask) calls).panel.setup)
      → Replied (after_all (after now ask) calls) 0x83 (high_first address ++ (count ∷ []))
      (high_first address ++ (count ∷ take (2 * count) (drop (2 * (address - word_at content 0)) (drop 2 content))))
  unfolding reply_to after
  what_82_wrote_83_replies reads few =
      let setup = then.panel.setup in
      let question = high_first address ++ (count ∷ []) in
      let there : Reachable then.panel = calls_reached (after now ask) calls typed (by_report now.panel now.lent reached) in
      let answered = fetch_of_stored_is_done now reached content writes done address count to then there few reads in
      let same : word_at question 0 ≡ address = omega arith in
      let run = bytes_still (handed_asks then 0x83 question reads).well.words in
      replied_by then there 0x83 question _ reads answered
      (rw (eq-eqb (number_given then ask) 0 answered)
      (ap (λ (at : ℕ). frame_of (checking_of setup) (header_of setup) 0x83 (high_first at ++ (count ∷ bytes_of (word_run then.lent.words at count)))) same
      ∙ ap (λ (l : List ℕ). frame_of (checking_of setup) (header_of setup) 0x83 (high_first address ++ (count ∷ l))) run))
