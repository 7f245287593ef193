-- Laws of the two reads: what is done is within the end and not too long, and its reply is laid.
use mathlib.Core.Path.{◌≡◌, refl, sym, ap, ◌∙◌}
use mathlib.Core.Bool.{Bool, true, false, cond, not}
use mathlib.Core.List.{List}
use Prim.Native.Nat.{ℕ, ◌+◌, ◌≤◌}
use native.Mathlib.Omega.{arith}
use borrow.Author.Tests.{ltb-false}
use lib.Dec.{eqb, ltb}
use lib.ListN.{length, get_or}
use Rattle.wire.specs.ByteOrder.{byte_at, word_at}
use Rattle.wire.specs.Room.{Laid, lays}
use Rattle.frame.specs.Frame.{header_bytes, check_length, most_data}
use Rattle.frame.specs.Writer.{frame_laid}
use Rattle.frame.proofs.Writers.{length_most}
use Rattle.registers.specs.declared.Registers.{Registers}
use Rattle.commands.specs.declared.Fixed.{Fixed}
use Rattle.commands.specs.declared.Performed.{Performed}
use Rattle.commands.specs.Outcome.{Outcome, is_done, reply_too_long, read_registers_outcome, read_words_outcome}
use Rattle.std.specs.Prelude.{Ok, Err}
use Rattle.commands.specs.declared.Refusal.TheVariants.{WrongData, PastEnd, ReplyTooLong}
use Rattle.commands.specs.Reply.{registers_reply, words_reply}
use Rattle.commands.specs.Effect.{answered, replies, replying, registers_replying, words_replying}

-- what is done has passed the first test
pub peel : (c : Bool) (refusal rest : Outcome) → is_done refusal ≡ false → is_done (cond c refusal rest) ≡ true → (c ≡ false) × (is_done rest ≡ true)
peel true refusal rest none done = absurd (let z : ◌≡◌ {A = ℕ} 0 1 = cc in omega arith)
peel false refusal rest none done = (refl, done)

pub short_reply : (checking : Bool) (k : ℕ) → reply_too_long checking k ≡ false → k ≤ most_data checking
unfolding reply_too_long
short_reply checking k is = omega (arith, ltb-false 255 (1 + k + check_length checking) is, length_most checking)

-- the tests of a read, in order
passed : (shape past long : Bool) (o : Outcome) → o ≡ cond shape (Err WrongData) (cond past (Err PastEnd) (cond long (Err ReplyTooLong) (Ok tt))) → is_done o ≡ true
    → (past ≡ false) × (long ≡ false)
passed shape past long o is done =
    let one = peel shape (Err WrongData) (cond past (Err PastEnd) (cond long (Err ReplyTooLong) (Ok tt))) refl (ap is_done (sym is) ∙ done) in
    let two = peel past (Err PastEnd) (cond long (Err ReplyTooLong) (Ok tt)) refl one.1 in
    (two.0, (peel long (Err ReplyTooLong) (Ok tt) refl two.1).0)

module _ (fixed : Fixed) (content : List ℕ) (o : Outcome) (b : Bool) (is-o : o ≡ read_registers_outcome fixed.checking content) (is_b : b ≡ is_done o) where
  pub registers_short : (first n : ℕ) → b ≡ true → first ≡ get_or content 0 0 → n ≡ get_or content 1 0 → 2 + n ≤ most_data fixed.checking
  unfolding read_registers_outcome
  registers_short first n done is-first is-n =
      let count = get_or content 1 0 in
      let tests = passed (not (eqb (length content) 2)) (ltb 256 (get_or content 0 0 + count)) (reply_too_long fixed.checking (2 + count)) o is-o (sym is_b ∙ done) in
      rw is-n (short_reply fixed.checking (2 + count) tests.1)

module _ (fixed : Fixed) (words content : List ℕ) (o : Outcome) (b : Bool) (is-o : o ≡ read_words_outcome (length words) fixed.checking content)
    (is_b : b ≡ is_done o) where
  words_read_fits : (a n : ℕ) → b ≡ true → a ≡ word_at content 0 → n ≡ get_or content 2 0 → (a + n ≤ length words) × (3 + (n + n) ≤ most_data fixed.checking)
  unfolding read_words_outcome
  words_read_fits a n done is-a is-n =
      let count = get_or content 2 0 in
      let tests = passed (not (eqb (length content) 3)) (ltb (length words) (word_at content 0 + count)) (reply_too_long fixed.checking (3 + (count + count))) o is-o
      (sym is_b ∙ done) in (
        rw (is-a, is-n) (ltb-false (length words) (word_at content 0 + get_or content 2 0) tests.0),
        rw is-n (short_reply fixed.checking (3 + (get_or content 2 0 + get_or content 2 0)) tests.1),
      )

  module _ (a n : ℕ) (done : b ≡ true) (is-a : a ≡ word_at content 0) (is-n : n ≡ get_or content 2 0) where
    pub words_within : a + n ≤ length words
    words_within = (words_read_fits a n done is-a is-n).0

    pub words_short : 3 + (n + n) ≤ most_data fixed.checking
    words_short = (words_read_fits a n done is-a is-n).1

-- a reply laid as judged
laid_done : (fixed : Fixed) (command : ℕ) (payload room left : List ℕ) (count : ℕ)
    → lays count left ≡ frame_laid fixed.checking (header_bytes fixed.header) command payload room
    → replies (answered (Ok tt) count) left ≡ replying fixed (Ok tt) command payload room
unfolding replying
laid_done fixed command payload room left count is = ap (λ (l : Laid). replies (answered (Ok tt) l.count) l.room) is

module _ (fixed : Fixed) (content room left : List ℕ) (a n count : ℕ) (answer : Performed) (is-answer : answer ≡ answered (Ok tt) count) where
  pub registers_read : (registers : Registers) → Ok tt ≡ read_registers_outcome fixed.checking content → a ≡ byte_at content 0 → n ≡ byte_at content 1
      → lays count left ≡ frame_laid fixed.checking (header_bytes fixed.header) 0x81 (registers_reply registers a n) room
      → replies answer left ≡ registers_replying fixed registers content room
  unfolding registers_replying
  registers_read registers done is-a is-n is =
      rw (is-answer, ← done, ← is-a, ← is-n) (laid_done fixed 0x81 (registers_reply registers a n) room left count is)

  pub words_read : (words : List ℕ) → Ok tt ≡ read_words_outcome (length words) fixed.checking content → a ≡ word_at content 0 → n ≡ byte_at content 2
      → lays count left ≡ frame_laid fixed.checking (header_bytes fixed.header) 0x83 (words_reply words a n) room
      → replies answer left ≡ words_replying fixed words content room
  unfolding words_replying
  words_read words done is-a is-n is =
      rw (is-answer, ← done, ← is-a, ← is-n) (laid_done fixed 0x83 (words_reply words a n) room left count is)
