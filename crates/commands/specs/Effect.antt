-- 01, "Commands" and "Numbers given back", and 02, §2: what each of the five commands answers and leaves. "otherwise a refusal changes nothing."
use Rattle.std.specs.Prelude.{ℕ, Bool, false, cond, ◌&&◌, List, length, drop}
use Rattle.wire.specs.ByteOrder.{byte_at, word_at}
use Rattle.wire.specs.Room.{lays}
use Rattle.frame.specs.Frame.{header_bytes}
use Rattle.frame.specs.Writer.{frame_laid}
use Rattle.registers.specs.declared.Registers.{Registers}
use Rattle.registers.specs.Run.{registers_after, drops_catch, clear_value}
use Rattle.words.specs.Words.{words_written}
use Rattle.curves.specs.declared.Counts.{Counts}
use Rattle.curves.specs.Clearing.{cleared}
use Rattle.commands.specs.declared.Fixed.{Fixed}
use Rattle.commands.specs.Outcome.{Outcome, is_done, write_registers_outcome, read_registers_outcome, write_words_outcome, read_words_outcome, add_curves_outcome}
use Rattle.commands.specs.declared.Performed.{Performed}
use Rattle.commands.specs.Reply.{registers_reply, words_reply}

-- an outcome with so long a reply, of a command that leaves registers, catch and curves, and has nothing noted
abbrev pub answered : Outcome → (replied : ℕ) → Performed
answered o replied = record { outcome = o; writes = false; drops = false; adds = false; notes = false; replied = replied }

-- "0x80, address (1), one or more bytes: write registers.": what a write with this data leaves of the registers, where it is done
unfoldable pub registers_left : Registers → (content : List ℕ) → Registers
registers_left registers content = registers_after registers (byte_at content 0) (drop 1 content)

-- "Every page write by a command .. drops the catch.": whether a write with this data does, where it is done
unfoldable pub catch_dropped : (content : List ℕ) → Bool
catch_dropped content = drops_catch (byte_at content 0) (drop 1 content)

-- "0x80, address (1), one or more bytes: write registers.": its answer; one that is done asks the panel to write, and to drop the catch where it must
unfoldable pub registers_writing : (pages : ℕ) → (content : List ℕ) → Performed
registers_writing pages content =
    let o = write_registers_outcome pages content in
    record { outcome = o; writes = is_done o; drops = is_done o && catch_dropped content; adds = false; notes = false; replied = 0 }

-- 02, §2: "Register EB .. clears: 55 all, 56 to 5D channel 0 to 7": what a write with this data leaves of the channels' counts, where it is done
unfoldable pub counts_left : Counts → (content : List ℕ) → Counts
counts_left counts content = cleared (clear_value (byte_at content 0) (drop 1 content)) counts

-- 02, §2: "Add command 0x84": its answer; one that is done asks the panel to add its numbers to the channels
unfoldable pub curves_adding : (content : List ℕ) → Performed
curves_adding content =
    let o = add_curves_outcome content in
    record { outcome = o; writes = false; drops = false; adds = is_done o; notes = false; replied = 0 }

-- what a write of words answers, and the words as it leaves them
pub record WordsWriting : Type 0 where
  pub performed : Performed
  pub words : List ℕ

-- builds one
abbrev pub leaves_words : Performed → List ℕ → WordsWriting
leaves_words performed words = record { performed = performed; words = words }

-- "0x82, address (2), one or more words: write variables."; "otherwise a refusal changes nothing". 02, §4: "Line writes note the new value": one that is done
-- asks the panel to note it
unfoldable pub words_writing : (words content : List ℕ) → WordsWriting
words_writing words content =
    let o = write_words_outcome (length words) content in
    leaves_words (record { outcome = o; writes = false; drops = false; adds = false; notes = is_done o; replied = 0 })
    (cond (is_done o) (words_written words (word_at content 0) (drop 2 content)) words)

-- what a read answers, and the room as it leaves it
pub record Replying : Type 0 where
  pub performed : Performed
  pub room : List ℕ

-- builds one
abbrev pub replies : Performed → List ℕ → Replying
replies performed room = record { performed = performed; room = room }

-- a read that is done lays its reply over the front of the room; "otherwise a refusal changes nothing"
unfoldable pub replying : Fixed → Outcome → (command : ℕ) → (payload room : List ℕ) → Replying
replying fixed o command payload room =
    let laid = cond (is_done o) (frame_laid fixed.checking (header_bytes fixed.header) command payload room) (lays 0 room) in
    replies (answered o laid.count) laid.room

-- "0x81, address (1), count (1): read registers. Reply 0x81, address, count, bytes."
unfoldable pub registers_replying : Fixed → Registers → (content room : List ℕ) → Replying
registers_replying fixed registers content room =
    replying fixed (read_registers_outcome fixed.checking content) 0x81 (registers_reply registers (byte_at content 0) (byte_at content 1)) room

-- "0x83, address (2), count (1): read variables. Reply 0x83, address, count, words."
unfoldable pub words_replying : Fixed → (words content room : List ℕ) → Replying
words_replying fixed words content room =
    replying fixed (read_words_outcome (length words) fixed.checking content) 0x83 (words_reply words (word_at content 0) (byte_at content 2)) room
