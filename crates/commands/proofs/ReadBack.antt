-- What 0x80 wrote 0x81 reads back, EB as 00, and what 0x82 wrote 0x83.
use mathlib.Core.Path.{◌≡◌, refl}
use mathlib.Core.Bool.{true}
use mathlib.Core.List.{List, [], ◌∷◌}
use Prim.Native.Nat.{ℕ, ◌+◌, ◌%◌, ◌<◌}
use native.Mathlib.Omega.{arith}
use lib.ListN.{length, drop, length-drop}
use lib.Seq.{get_or-drop}
use Rattle.wire.specs.Bytes.{Bytes}
use Rattle.wire.specs.ByteOrder.{byte_at, word_at, word, high_byte, low_byte}
use Rattle.wire.specs.Addresses.{register_count}
use Rattle.frame.specs.Frame.{header_bytes}
use Rattle.frame.specs.Writer.{frame_laid}
use Rattle.registers.specs.declared.Registers.{Registers}
use Rattle.registers.specs.Run.{reads_as}
use Rattle.registers.proofs.Written.{written_reads_back}
use Rattle.words.specs.Words.{words_of}
use Rattle.words.proofs.Written.{words_read_back}
use Rattle.words.proofs.Carried.{bytes_of_words_of}
use Rattle.commands.specs.declared.Fixed.{Fixed}
use Rattle.commands.specs.Lent.{Lent, with_words, with_room}
use Rattle.commands.specs.Outcome.{Outcome, is_done, write_registers_outcome, read_registers_outcome, write_words_outcome, read_words_outcome}
use Rattle.std.specs.Prelude.{Ok, Err}
use Rattle.commands.specs.declared.Refusal.TheVariants.{UnknownCommand, WrongData, PastEnd, Unwritable, WrongValue, ReplyTooLong}
use Rattle.commands.specs.Reply.{registers_reply, words_reply}
use Rattle.commands.specs.Effect.{answered, registers_left, replying, registers_replying, words_replying}
use Rattle.commands.specs.Perform.{Performance, performs, performance}
use Rattle.commands.proofs.DoneWrites.{registers_passed, words_passed}
use Rattle.commands.proofs.Named.{words_as_done}

done_is : (o : Outcome) → is_done o ≡ true → o ≡ Ok tt
done_is (Ok tt) done = refl
done_is (Err UnknownCommand) done = cc
done_is (Err WrongData) done = cc
done_is (Err PastEnd) done = cc
done_is (Err Unwritable) done = cc
done_is (Err WrongValue) done = cc
done_is (Err ReplyTooLong) done = cc

-- a read that is done: nothing changes but the room, over which the reply with this data is laid
abbrev pub replies_with : Fixed → (command : ℕ) → (payload : List ℕ) → Lent → Performance
replies_with fixed command payload lent =
    let laid = frame_laid fixed.checking (header_bytes fixed.header) command payload lent.room in
    performs (answered (Ok tt) laid.count) (with_room lent laid.room)

module _ (fixed : Fixed) (lent : Lent) where
  reads_registers : (registers : Registers) (first n : ℕ) (payload : List ℕ) → is_done (read_registers_outcome fixed.checking (first ∷ n ∷ [])) ≡ true
      → registers_reply registers first n ≡ payload
      → performance fixed registers 0x81 (first ∷ n ∷ []) lent ≡ replies_with fixed 0x81 payload lent
  unfolding performance registers_replying replying
  reads_registers registers first n payload done is = rw (done_is (read_registers_outcome fixed.checking (first ∷ n ∷ [])) done, is)

  reads_words : (registers : Registers) (high low n : ℕ) (payload : List ℕ)
      → is_done (read_words_outcome (length lent.words) fixed.checking (high ∷ low ∷ n ∷ [])) ≡ true
      → words_reply lent.words (word high low) n ≡ payload
      → performance fixed registers 0x83 (high ∷ low ∷ n ∷ []) lent ≡ replies_with fixed 0x83 payload lent
  unfolding performance words_replying replying
  reads_words registers high low n payload done is =
      rw (done_is (read_words_outcome (length lent.words) fixed.checking (high ∷ low ∷ n ∷ [])) done, is)

module _ (fixed : Fixed) (registers : Registers) (content : List ℕ) (lent : Lent) where
  -- the words after an 0x82
  abbrev words_after : List ℕ
  words_after = (performance fixed registers 0x82 content lent).lent.words

  -- "Reply 0x81, address, count, bytes"
  pub registers_come_back : length registers.bytes ≡ register_count → is_done (write_registers_outcome fixed.pages content) ≡ true
      → registers_reply (registers_left registers content) (byte_at content 0) (length (drop 1 content)) ≡ byte_at content 0 ∷ length (drop 1 content) ∷ reads_as (byte_at content 0) (drop 1 content)
  unfolding registers_reply registers_left
  registers_come_back whole done =
      rw (written_reads_back registers whole (byte_at content 0) (drop 1 content) (registers_passed fixed.pages content done).fits)

  pub what_80_wrote_81_reads : (lent' : Lent) → length registers.bytes ≡ register_count → is_done (write_registers_outcome fixed.pages content) ≡ true
      → is_done (read_registers_outcome fixed.checking (byte_at content 0 ∷ length (drop 1 content) ∷ [])) ≡ true
      → performance fixed (registers_left registers content) 0x81 (byte_at content 0 ∷ length (drop 1 content) ∷ []) lent'
      ≡ replies_with fixed 0x81 (byte_at content 0 ∷ length (drop 1 content) ∷ reads_as (byte_at content 0) (drop 1 content)) lent'
  what_80_wrote_81_reads lent' whole done ask =
      reads_registers fixed lent' (registers_left registers content) (byte_at content 0) (length (drop 1 content)) _ ask (registers_come_back whole done)

  -- "Reply 0x83, address, count, words"
  pub words_come_back : Bytes content → is_done (write_words_outcome (length lent.words) content) ≡ true
      → words_reply words_after (word_at content 0) (length (words_of (drop 2 content)))
      ≡ byte_at content 0 ∷ byte_at content 1 ∷ length (words_of (drop 2 content)) ∷ drop 2 content
  unfolding words_reply
  words_come_back are done =
      let passed = words_passed (length lent.words) content done in
      let low : byte_at content 1 < 256 = are 1 in
      let first : high_byte (word_at content 0) ≡ byte_at content 0 = omega arith in
      let second : low_byte (word_at content 0) ≡ byte_at content 1 = omega arith in
      let rest : Bytes (drop 2 content) = λ i. rw (get_or-drop 2 content i 0) (are (2 + i)) in
      let even : length (drop 2 content) % 2 ≡ 0 = simp length-drop (omega (arith, passed.even, passed.long)) in
      rw (
        words_as_done fixed registers content lent 0x82 true refl done,
        words_read_back lent.words (drop 2 content) (word_at content 0) passed.fits,
        bytes_of_words_of (drop 2 content) rest even,
        first,
        second,
      )

  pub what_82_wrote_83_reads : (registers' : Registers) (lent' : Lent) → Bytes content → is_done (write_words_outcome (length lent.words) content) ≡ true
      → is_done (read_words_outcome (length words_after) fixed.checking (byte_at content 0 ∷ byte_at content 1 ∷ length (words_of (drop 2 content)) ∷ [])) ≡ true
      → performance fixed registers' 0x83 (byte_at content 0 ∷ byte_at content 1 ∷ length (words_of (drop 2 content)) ∷ []) (with_words lent' words_after)
      ≡ replies_with fixed 0x83 (byte_at content 0 ∷ byte_at content 1 ∷ length (words_of (drop 2 content)) ∷ drop 2 content) (with_words lent' words_after)
  what_82_wrote_83_reads registers' lent' are done ask =
      reads_words fixed (with_words lent' words_after) registers' (byte_at content 0) (byte_at content 1) (length (words_of (drop 2 content))) _ ask
      (words_come_back are done)
