-- A read of a part of a run that was written is not refused: of registers never, of words where the reply fits a frame.
use mathlib.Core.Path.{◌≡◌, refl, sym, ap, ◌∙◌}
use mathlib.Core.Bool.{Bool, true, false}
use mathlib.Core.List.{List, [], ◌∷◌, ◌++◌}
use Prim.Native.Nat.{ℕ, zero, suc, ◌+◌, ◌*◌, ◌≤◌}
use native.Mathlib.Omega.{arith}
use borrow.Author.Tests.{le-ltb, leb-true, leb-false, eqb-true, eqb-false}
use lib.Dec.{eqb, leb}
use lib.ListN.{length, drop}
use Rattle.wire.specs.ByteOrder.{high_first, byte_at, word_at}
use Rattle.frame.specs.Frame.{check_length, most_data}
use Rattle.frame.proofs.Writers.{length_most}
use Rattle.reading.specs.Place.{accepted_frame}
use Rattle.wire.proofs.Truths.{never, and_left, and_right}
use Rattle.wire.specs.Addresses.{register_count, word_count}
use Rattle.registers.specs.Table.{is_clock, writable}
use Rattle.registers.specs.Run.{all_writable, unwritable_run}
use Rattle.registers.proofs.Allowed.{run_is_writable}
use Rattle.words.specs.Words.{words_of}
use Rattle.commands.specs.Outcome as Outcome
use Rattle.commands.specs.Outcome.{reply_too_long, read_registers_outcome, read_words_outcome, outcome}
use Rattle.commands.proofs.DoneWrites.{registers_passed, words_passed}
use Rattle.touch.specs.Setup.{checking_of}
use Rattle.panel.specs.Reachable.{Reachable}
use Rattle.panel.proofs.Invariant.{reachable_sound}
use Rattle.demands.specs.Calls.{Moment, ask, number_given, handed_over}
use Rattle.demands.proofs.FrameAsked.{handed_asks, done_number}
use Rattle.demands.proofs.Access.{is_done_lem}

-- 06, the touch status, is not writable: a run from before it that may be written ends before it
before_status : (n address : ℕ) → all_writable address n ≡ true → address ≤ 0x06 → address + n ≤ 0x06
unfolding all_writable writable is_clock
before_status zero address all from = omega arith
before_status (suc n) address all from =
    go (eqb address 0x06) refl (before_status n (suc address) (and_right (writable address) (all_writable (suc address) n) all))
  where
    go : (b : Bool) → eqb address 0x06 ≡ b → (suc address ≤ 0x06 → suc address + n ≤ 0x06) → address + suc n ≤ 0x06
    go true is further =
        let may : writable 0x06 ≡ true = ap writable (sym (eqb-true address 0x06 is)) ∙ and_left (writable address) (all_writable (suc address) n) all in
        never (cc)
    go false is further =
        let other = eqb-false address 0x06 is in
        let rest = further (omega arith) in
        omega arith

-- so a run that may be written, lying before 06 or behind it, is so short that an 0x81 of it is not refused with 7
short_run : (n address : ℕ) → unwritable_run address n ≡ false → address + n ≤ register_count → n ≤ 249
short_run n address may fits = go (leb address 0x06) refl
  where
    go : (b : Bool) → leb address 0x06 ≡ b → n ≤ 249
    go true is = omega (arith, before_status n address (run_is_writable address n may) (leb-true address 0x06 is))
    go false is = omega (arith, leb-false address 0x06 is)

check_short : (checking : Bool) → check_length checking ≤ 2
unfolding check_length
check_short true = omega arith
check_short false = omega arith

registers_answer : (checking : Bool) (address n : ℕ) → address + n ≤ register_count → n ≤ 249
    → Outcome.number_of_outcome (read_registers_outcome checking (address ∷ n ∷ [])) ≡ 0
unfolding read_registers_outcome reply_too_long Outcome.number_of_outcome
registers_answer checking address n fits few =
    rw (le-ltb register_count (address + n) fits, le-ltb 255 (1 + (2 + n) + check_length checking) (omega (arith, check_short checking)))

words_answer : (checking : Bool) (address n : ℕ) → address + n ≤ word_count → 3 + 2 * n ≤ most_data checking
    → Outcome.number_of_outcome (read_words_outcome word_count checking (high_first address ++ (n ∷ []))) ≡ 0
unfolding read_words_outcome reply_too_long Outcome.number_of_outcome
words_answer checking address n fits few =
    let there : word_at (high_first address ++ (n ∷ [])) 0 ≡ address = omega arith in
    rw (
      there,
      le-ltb word_count (address + n) fits,
      le-ltb 255 (1 + (3 + (n + n)) + check_length checking) (omega (arith, length_most checking)),
    )

-- an 0x81 of a part of the run of an 0x80 that was done
pub read_of_written_is_done : (now : Moment) → Reachable now.panel → (content : List ℕ) → handed_over now ask ≡ accepted_frame 0x80 content ∷ []
    → number_given now ask ≡ 0 → (address count : ℕ) → byte_at content 0 ≤ address → address + count ≤ byte_at content 0 + length (drop 1 content)
    → (then : Moment) → Reachable then.panel → handed_over then ask ≡ accepted_frame 0x81 (address ∷ count ∷ []) ∷ [] → number_given then ask ≡ 0
unfolding outcome
read_of_written_is_done now reached content writes done address count from to then there reads =
    let passed = registers_passed now.panel.setup.pages content (is_done_lem now reached content done 0x80 (handed_asks now 0x80 content writes)) in
    let question = address ∷ count ∷ [] in
    let few = short_run (length (drop 1 content)) (byte_at content 0) passed.may passed.fits in
    done_number then (reachable_sound then.panel there) 0x81 question (handed_asks then 0x81 question reads)
    ∙ registers_answer (checking_of then.panel.setup) address count (omega (arith, passed.fits)) (omega arith)

-- an 0x83 of a part of the run of an 0x82 that was done, where the reply fits a frame
pub fetch_of_stored_is_done : (now : Moment) → Reachable now.panel → (content : List ℕ) → handed_over now ask ≡ accepted_frame 0x82 content ∷ []
    → number_given now ask ≡ 0 → (address count : ℕ) → address + count ≤ word_at content 0 + length (words_of (drop 2 content))
    → (then : Moment) → Reachable then.panel → 3 + 2 * count ≤ most_data (checking_of then.panel.setup)
    → handed_over then ask ≡ accepted_frame 0x83 (high_first address ++ (count ∷ [])) ∷ [] → number_given then ask ≡ 0
unfolding outcome
fetch_of_stored_is_done now reached content writes done address count to then there few reads =
    let passed = words_passed word_count content (is_done_lem now reached content done 0x82 (handed_asks now 0x82 content writes)) in
    let question = high_first address ++ (count ∷ []) in
    done_number then (reachable_sound then.panel there) 0x83 question (handed_asks then 0x83 question reads)
    ∙ words_answer (checking_of then.panel.setup) address count (omega (arith, passed.fits)) few
