-- 01, "Numbers given back": "asking for a report 14, then 2 to 7 in turn". Each list below stands in that order; the first condition that
-- holds gives the number.
use Rattle.std.specs.Prelude.{ℕ, ◌+◌, ◌%◌, Bool, cond, not, ◌||◌, List, eqb, ltb, length, drop, Result, Ok, Err, is_ok}
use Rattle.wire.specs.ByteOrder.{byte_at, word_at}
use Rattle.frame.specs.Frame.{check_length}
use Rattle.wire.specs.Addresses.{register_count}
use Rattle.registers.specs.Run.{unwritable_run, wrong_value}
use Rattle.words.specs.Words.{words_of}
use Rattle.curves.specs.Rounds.{wrong_rounds}
use Rattle.commands.specs.declared.Fixed.{Fixed}
use Rattle.commands.specs.declared.Refusal.{Refusal}
use Rattle.commands.specs.declared.Refusal.TheVariants.{UnknownCommand, WrongData, PastEnd, Unwritable, WrongValue, ReplyTooLong}

-- what a command is answered with: done, or why it is refused
abbrev pub Outcome : Type 0
Outcome = Result Unit Refusal

-- "0: done", 02, §2: "2 now means not 80 to 84", "3: data too short, too long, or an odd word byte", "4: address or its run passes the end",
-- "5: a write touches an unwritable register or half the page" and 02, §6: "5 for a write touching some but not all eight or joined with others",
-- "6: backlight above 3F, or page not below P", 02, §2: "6 for any other value in EB" and 02, §6: "6 for a first byte other than 5A, a bad digit outside the weekday,
-- or a date or time that doesn't exist", "7: reply frame's L would pass 255"
unfoldable pub number_of_outcome : Outcome → ℕ
number_of_outcome (Ok tt) = 0
number_of_outcome (Err UnknownCommand) = 2
number_of_outcome (Err WrongData) = 3
number_of_outcome (Err PastEnd) = 4
number_of_outcome (Err Unwritable) = 5
number_of_outcome (Err WrongValue) = 6
number_of_outcome (Err ReplyTooLong) = 7

-- "0: done"
abbrev pub is_done : Outcome → Bool
is_done o = is_ok o

-- "reply frame's L would pass 255": the reply has its command and this much data
unfoldable pub reply_too_long : Bool → ℕ → Bool
reply_too_long checking payload = ltb 255 (1 + payload + check_length checking)

-- "0x80, address (1), one or more bytes: write registers."
unfoldable pub write_registers_outcome : ℕ → List ℕ → Outcome
write_registers_outcome pages content =
    let address = byte_at content 0 in
    let bytes = drop 1 content in
    cond (ltb (length content) 2) (Err WrongData)
    (cond (ltb register_count (address + length bytes)) (Err PastEnd)
    (cond (unwritable_run address (length bytes)) (Err Unwritable)
    (cond (wrong_value address bytes pages) (Err WrongValue)
    (Ok tt))))

-- "0x81, address (1), count (1): read registers."
unfoldable pub read_registers_outcome : Bool → List ℕ → Outcome
read_registers_outcome checking content =
    let address = byte_at content 0 in
    let count = byte_at content 1 in
    cond (not (eqb (length content) 2)) (Err WrongData)
    (cond (ltb register_count (address + count)) (Err PastEnd)
    (cond (reply_too_long checking (2 + count)) (Err ReplyTooLong)
    (Ok tt)))

-- "0x82, address (2), one or more words: write variables." `end` is how many words are lent
unfoldable pub write_words_outcome : ℕ → List ℕ → Outcome
write_words_outcome end content =
    let address = word_at content 0 in
    cond (ltb (length content) 4 || eqb (length content % 2) 1) (Err WrongData)
    (cond (ltb end (address + length (words_of (drop 2 content)))) (Err PastEnd)
    (Ok tt))

-- "0x83, address (2), count (1): read variables."
unfoldable pub read_words_outcome : ℕ → Bool → List ℕ → Outcome
read_words_outcome end checking content =
    let address = word_at content 0 in
    let count = byte_at content 2 in
    cond (not (eqb (length content) 3)) (Err WrongData)
    (cond (ltb end (address + count)) (Err PastEnd)
    (cond (reply_too_long checking (3 + (count + count))) (Err ReplyTooLong)
    (Ok tt)))

-- 02, §2: "Add command 0x84 ..: a mode byte, bit n for channel n, then 16-bit numbers in rounds"; "3 for mode 00, no round or an unfinished one"
unfoldable pub add_curves_outcome : List ℕ → Outcome
add_curves_outcome content = cond (wrong_rounds content) (Err WrongData) (Ok tt)

-- 02, §2: "2 now means not 80 to 84"
unfoldable pub outcome : Fixed → (end : ℕ) → (command : ℕ) → (content : List ℕ) → Outcome
outcome fixed end command content =
    cond (eqb command 0x80) (write_registers_outcome fixed.pages content)
    (cond (eqb command 0x81) (read_registers_outcome fixed.checking content)
    (cond (eqb command 0x82) (write_words_outcome end content)
    (cond (eqb command 0x83) (read_words_outcome end fixed.checking content)
    (cond (eqb command 0x84) (add_curves_outcome content)
    (Err UnknownCommand)))))
