-- 01, "Numbers given back": "otherwise a refusal changes nothing." Demand 1: "beyond that a refusal leaves the panel, the variable words and the
-- reply room as they stood."
use mathlib.Core.Path.{◌≡◌, refl, ap}
use mathlib.Core.Bool.{Bool, true, false, cond}
use mathlib.Core.List.{List}
use Prim.Native.Nat.{ℕ, ◌≤◌, ◌<◌}
use native.Mathlib.Omega.{arith}
use lib.Dec.{eqb}
use lib.ListN.{length}
use Rattle.wire.specs.ByteOrder.{byte_at, word_at}
use Rattle.registers.specs.declared.Registers.{Registers}
use Rattle.commands.specs.Outcome.{Outcome, number_of_outcome, is_done, write_registers_outcome, read_registers_outcome, write_words_outcome, read_words_outcome, add_curves_outcome, outcome}
use Rattle.std.specs.Prelude.{Ok, Err}
use Rattle.commands.specs.declared.Refusal.TheVariants.{UnknownCommand, WrongData, PastEnd, Unwritable, WrongValue, ReplyTooLong}
use Rattle.commands.specs.declared.Performed.{Performed}
use Rattle.commands.specs.declared.Fixed.{Fixed}
use Rattle.commands.specs.Lent.{Lent}
use Rattle.commands.specs.Reply.{registers_reply, words_reply}
use Rattle.commands.specs.Effect.{answered, registers_writing, curves_adding, leaves_words, words_writing, replies, replying, registers_replying, words_replying}
use Rattle.commands.specs.Perform.{performs, on_words, on_room, performance}

-- a number above 0 is a refusal
pub number_refuses : (o : Outcome) → 0 < number_of_outcome o → is_done o ≡ false
unfolding number_of_outcome
number_refuses (Ok tt) above = absurd (omega arith)
number_refuses (Err why) above = refl

-- "Numbers 2 to 7 are answers beside a frame's report"
pub number_at_most_7 : (o : Outcome) → number_of_outcome o ≤ 7
unfolding number_of_outcome
number_at_most_7 (Ok tt) = omega arith
number_at_most_7 (Err UnknownCommand) = omega arith
number_at_most_7 (Err WrongData) = omega arith
number_at_most_7 (Err PastEnd) = omega arith
number_at_most_7 (Err Unwritable) = omega arith
number_at_most_7 (Err WrongValue) = omega arith
number_at_most_7 (Err ReplyTooLong) = omega arith

-- each command, refused
registers_refused : (pages : ℕ) (content : List ℕ) → is_done (write_registers_outcome pages content) ≡ false
    → registers_writing pages content ≡ answered (write_registers_outcome pages content) 0
unfolding registers_writing
registers_refused pages content refused = rw refused

words_refused : (words content : List ℕ) → is_done (write_words_outcome (length words) content) ≡ false
    → words_writing words content ≡ leaves_words (answered (write_words_outcome (length words) content) 0) words
unfolding words_writing
words_refused words content refused = rw refused

unread : (fixed : Fixed) (o : Outcome) (command : ℕ) (payload room : List ℕ) → is_done o ≡ false → replying fixed o command payload room ≡ replies (answered o 0) room
unfolding replying
unread fixed o command payload room refused = rw refused

curves_refused : (content : List ℕ) → is_done (add_curves_outcome content) ≡ false → curves_adding content ≡ answered (add_curves_outcome content) 0
unfolding curves_adding
curves_refused content refused = rw refused

module _ (fixed : Fixed) (registers : Registers) (content : List ℕ) (lent : Lent) where
  -- by command: 0x80, 0x81, 0x82, 0x83, 0x84 or another
  by_command_lem : (a b c d e : Bool)
      → is_done (cond a (write_registers_outcome fixed.pages content) (cond b (read_registers_outcome fixed.checking content)
      (cond c (write_words_outcome (length lent.words) content) (cond d (read_words_outcome (length lent.words) fixed.checking content)
      (cond e (add_curves_outcome content) (Err UnknownCommand)))))) ≡ false
      → cond a (performs (registers_writing fixed.pages content) lent) (cond b (on_room lent (registers_replying fixed registers content lent.room))
      (cond c (on_words lent (words_writing lent.words content)) (cond d (on_room lent (words_replying fixed lent.words content lent.room))
      (cond e (performs (curves_adding content) lent) (performs (answered (Err UnknownCommand) 0) lent)))))
      ≡ performs (answered (cond a (write_registers_outcome fixed.pages content) (cond b (read_registers_outcome fixed.checking content)
      (cond c (write_words_outcome (length lent.words) content) (cond d (read_words_outcome (length lent.words) fixed.checking content)
      (cond e (add_curves_outcome content) (Err UnknownCommand)))))) 0) lent
  unfolding registers_replying words_replying
  by_command_lem true b c d e refused = ap (λ (p : Performed). performs p lent) (registers_refused fixed.pages content refused)
  by_command_lem false true c d e refused =
      ap (on_room lent)
      (unread fixed (read_registers_outcome fixed.checking content) 0x81 (registers_reply registers (byte_at content 0) (byte_at content 1)) lent.room refused)
  by_command_lem false false true d e refused = ap (on_words lent) (words_refused lent.words content refused)
  by_command_lem false false false true e refused =
      ap (on_room lent)
      (unread fixed (read_words_outcome (length lent.words) fixed.checking content) 0x83 (words_reply lent.words (word_at content 0) (byte_at content 2)) lent.room refused)
  by_command_lem false false false false true refused = ap (λ (p : Performed). performs p lent) (curves_refused content refused)
  by_command_lem false false false false false refused = refl

  -- a refused command leaves all that is lent as it stood, asks for nothing to be written, dropped or added, and has no reply
  pub refusal_changes_nothing : (command : ℕ) → is_done (outcome fixed (length lent.words) command content) ≡ false
      → performance fixed registers command content lent ≡ performs (answered (outcome fixed (length lent.words) command content) 0) lent
  unfolding performance outcome
  refusal_changes_nothing command refused =
      by_command_lem (eqb command 0x80) (eqb command 0x81) (eqb command 0x82) (eqb command 0x83) (eqb command 0x84) refused
