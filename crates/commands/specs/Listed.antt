-- 01, "Numbers given back": "2 to 7 in turn", each number with its printed condition, and beside it how long a reply was laid.
use Rattle.std.specs.Prelude.{ℕ, ◌+◌, ◌%◌, Bool, false, cond, not, ◌||◌, List, [], ◌∷◌, eqb, ltb, leb, length, drop}
use Rattle.wire.specs.Addresses.{register_count}
use Rattle.wire.specs.ByteOrder.{byte_at, word_at}
use Rattle.wire.specs.Numbers.{Said, says, Listed, ◌when◌, first_said}
use Rattle.frame.specs.Frame.{header_bytes, check_length}
use Rattle.registers.specs.Run.{unwritable_run, wrong_value}
use Rattle.words.specs.Words.{words_of}
use Rattle.curves.specs.Rounds.{wrong_rounds}
use Rattle.commands.specs.declared.Fixed.{Fixed}
use Rattle.commands.specs.declared.Performed.{Performed}
use Rattle.commands.specs.Outcome.{number_of_outcome, reply_too_long}

-- what is said of a command: its number, and how long its reply is
unfoldable pub performed_said : Performed → Said
performed_said performed = says (number_of_outcome performed.outcome) (performed.replied ∷ [])

-- 02, §2: "2 now means not 80 to 84"
unfoldable pub not_command : ℕ → List ℕ → Bool
not_command command content = ltb command 0x80 || ltb 0x84 command

-- a condition on 0x80, on 0x81, on 0x82, on 0x83 and on 0x84
unfoldable pub by_command : ℕ → (write read store fetch add : Bool) → Bool
by_command command write read store fetch add =
    cond (eqb command 0x80) write
    (cond (eqb command 0x81) read (cond (eqb command 0x82) store (cond (eqb command 0x83) fetch (cond (eqb command 0x84) add false))))

-- 3: "data too short, too long, or an odd word byte". "0x80, address (1), one or more bytes"; "0x81, address (1), count (1)"; "0x82, address (2),
-- one or more words"; "0x83, address (2), count (1)". 02, §2: "3 for mode 00, no round or an unfinished one"
unfoldable pub wrong_data : ℕ → List ℕ → Bool
wrong_data command content =
    by_command command
    (ltb (length content) 2)
    (not (eqb (length content) 2))
    (ltb (length content) 4 || eqb (length content % 2) 1)
    (not (eqb (length content) 3))
    (wrong_rounds content)

-- 4: "address or its run passes the end". "Address plus count may not pass 256 (registers) or 28,672 (words)"; `end` is how many words are lent
unfoldable pub passes_end : (end : ℕ) → ℕ → List ℕ → Bool
passes_end end command content =
    by_command command
    (ltb register_count (byte_at content 0 + length (drop 1 content)))
    (ltb register_count (byte_at content 0 + byte_at content 1))
    (ltb end (word_at content 0 + length (words_of (drop 2 content))))
    (ltb end (word_at content 0 + byte_at content 2))
    false

-- 5: "a write touches an unwritable register or half the page"; 02, §6: "5 for a write touching some but not all eight or joined with others"
unfoldable pub touches_unwritable : ℕ → List ℕ → Bool
touches_unwritable command content = by_command command (unwritable_run (byte_at content 0) (length (drop 1 content))) false false false false

-- 6: "backlight above 3F, or page not below P"; 02, §2: "6 for any other value in EB"; 02, §6: "6 for a first byte other than 5A, a bad digit outside the weekday, or
-- a date or time that doesn't exist"
unfoldable pub value_wrong : (pages : ℕ) → ℕ → List ℕ → Bool
value_wrong pages command content = by_command command (wrong_value (byte_at content 0) (drop 1 content) pages) false false false false

-- 7: "reply frame's L would pass 255". "Reply 0x81, address, count, bytes"; "Reply 0x83, address, count, words"
unfoldable pub reply_passes : (checking : Bool) → ℕ → List ℕ → Bool
reply_passes checking command content =
    by_command command
    false
    (reply_too_long checking (2 + byte_at content 1))
    false
    (reply_too_long checking (3 + (byte_at content 2 + byte_at content 2)))
    false

-- "2 to 7 in turn"; a refused command has no reply
unfoldable pub perform_listed : Fixed → (end command : ℕ) → (content : List ℕ) → List Listed
perform_listed fixed end command content =
    (says 2 (0 ∷ []) when not_command command content)
    ∷ (says 3 (0 ∷ []) when wrong_data command content)
    ∷ (says 4 (0 ∷ []) when passes_end end command content)
    ∷ (says 5 (0 ∷ []) when touches_unwritable command content)
    ∷ (says 6 (0 ∷ []) when value_wrong fixed.pages command content)
    ∷ (says 7 (0 ∷ []) when reply_passes fixed.checking command content)
    ∷ []

-- "L counts command, data and check bytes, so a frame has 3 + L bytes": the frame with so much data
unfoldable pub frame_length : Fixed → (payload : ℕ) → ℕ
frame_length fixed payload = length (header_bytes fixed.header) + 1 + (1 + payload + check_length fixed.checking)

-- "Reply 0x81, address, count, bytes"; "Reply 0x83, address, count, words"; a write has no reply, nor have numbers for curves
unfoldable pub reply_length : Fixed → (command : ℕ) → (content : List ℕ) → ℕ
reply_length fixed command content =
    cond (eqb command 0x81) (frame_length fixed (2 + byte_at content 1))
    (cond (eqb command 0x83) (frame_length fixed (3 + (byte_at content 2 + byte_at content 2))) 0)

-- a reply is laid whole, or not at all where the room is less
unfoldable pub laid_length : (room n : ℕ) → ℕ
laid_length room n = cond (leb n room) n 0

-- "0: done"
unfoldable pub perform_said : Fixed → (end room command : ℕ) → (content : List ℕ) → Said
perform_said fixed end room command content =
    first_said (perform_listed fixed end command content) (says 0 (laid_length room (reply_length fixed command content) ∷ []))
