-- Demand 1: "Every call takes any input and answers as document 01 lists, each number exactly under its printed condition and order."
-- 01's table "Numbers given back" as data: for each call its numbers in the printed order, each with its printed condition. The theorems are in
-- proofs/Demand1. That no call is ever "an undefined act or an unending one" has no theorem of its own: the checker takes no function that it
-- has not proved to be safe and to end, on every input.
use Rattle.std.specs.Prelude.{ℕ, ◌*◌, ◌%◌, ◌≤◌, ◌<◌, ◌≡◌, ◌⊎◌, Bool, true, false, not, ◌&&◌, ◌||◌, List, [], ◌∷◌, ◌++◌, map, eqb, ltb, length}
use Rattle.wire.specs.Room.{over}
use Rattle.wire.specs.Numbers.{Entry, ◌when◌, first_said}
use Rattle.wire.specs.Addresses.{word_count}
use Rattle.frame.specs.Frame.{most_data}
use Rattle.frame.specs.Writer.{least_room}
use Rattle.reading.specs.Place.{Report, bad_check, accepted_frame}
use Rattle.registers.specs.Touched.{is_down, is_touch_off}
use Rattle.curves.specs.Area.{curve_words}
use Rattle.watch.specs.Judge.{wrong_list}
use Rattle.commands.specs.Listed.{not_command, wrong_data, passes_end, touches_unwritable, value_wrong, reply_passes}
use Rattle.commands.specs.Lent.{with_room}
use Rattle.touch.specs.declared.Setup.{Setup}
use Rattle.touch.specs.declared.Record.{Record}
use Rattle.touch.specs.Setup.{checking_of, good_setup}
use Rattle.touch.specs.Table.{most_records, record_bytes, record_at, records_of}
use Rattle.touch.specs.Judge.{good_record}
use Rattle.panel.specs.declared.Panel.{Panel}
use Rattle.panel.specs.Inputs.{fed_byte}
use Rattle.demands.specs.Calls.{Moment, Call, lend, byte, bytes, mark, second, ask, contact, lift, after, after_all, number_given, handed_over}
use Rattle.demands.specs.Reports.{report_waits, waiting_report, read_behind, acknowledgement_of}

-- "Given exactly when": a number of the table and whether its condition holds
abbrev pub Condition : Type 0
Condition = Entry ℕ

-- "The first number in order whose condition holds is given"; "0: done"
abbrev pub first_number : List Condition → ℕ
first_number cs = first_said cs 0

-- no condition of a list holds
unfoldable pub none_holds : List Condition → Bool
none_holds [] = true
none_holds (c ∷ cs) = not c.holds && none_holds cs

-- "each number exactly under its printed condition and order": it stands in its list under a condition that holds, and none before it does
pub record GivenUnder (cs : List Condition) (n : ℕ) : Type 0 where
  pub before : List Condition
  pub condition : Condition
  pub behind : List Condition
  pub place : cs ≡ before ++ (condition ∷ behind)
  pub number : condition.said ≡ n
  pub holds : condition.holds ≡ true
  pub none_before : none_holds before ≡ true

-- 1: "an input comes while a report waits"; of bytes one after the other, one of them does
unfoldable pub one_comes_while_waiting : Panel → List ℕ → Bool
one_comes_while_waiting panel [] = false
one_comes_while_waiting panel (b ∷ bs) = report_waits panel || one_comes_while_waiting (fed_byte panel b).panel bs

-- 2 to 7: "Numbers 2 to 7 are answers beside a frame's report": conditions of the accepted frame that is handed over, each as commands/specs/Listed states it
unfoldable pub of_frame : List Report → (ℕ → List ℕ → Bool) → Bool
of_frame [] test = false
of_frame (bad_check command ∷ reports) test = false
of_frame (accepted_frame command content ∷ reports) test = test command content

-- 14: "words lent aren't 28,672"
unfoldable pub words_not_lent : List ℕ → Bool
words_not_lent words = not (eqb (length words) word_count)

-- 02, §2: "14 also for a curve area of the wrong length"
unfoldable pub area_not_lent : List ℕ → Bool
area_not_lent curves = not (eqb (length curves) curve_words)

-- 14: "reply or writer's room below 265"
unfoldable pub room_too_small : List ℕ → Bool
room_too_small room = ltb (length room) least_room

-- 12: "table longer than 128 records or not whole records". "records of 32 bytes"
unfoldable pub not_whole_records : List ℕ → Bool
not_whole_records table = ltb (most_records * record_bytes) (length table) || not (eqb (length table % record_bytes) 0)

-- 13: "a record is wrong"
unfoldable pub one_wrong : Setup → List Record → Bool
one_wrong setup [] = false
one_wrong setup (r ∷ rs) = not (good_record setup r) || one_wrong setup rs

-- 8: "contact off the screen"
unfoldable pub off_screen : Setup → (x y : ℕ) → Bool
off_screen setup x y = not (ltb x setup.width && ltb y setup.height)

-- "Order: asking for a report 14, then 2 to 7 in turn; byte or mark 1; contact 14, 1, 12, 13, 9, 8; lift 1, 10". 02, §4: "16, two entries in use share a word or
-- one in use has an address not below 0x7000, or the list is longer than 16, right after 14 at contacts and reports", "14 also for reply room at a contact". 02, §6: "1
-- for a second while a report waits"
unfoldable pub printed : Moment → Call → List Condition
printed now (lend lent) = []
printed now (byte b) = (1 when report_waits now.panel) ∷ []
printed now (bytes bs) = (1 when one_comes_while_waiting now.panel bs) ∷ []
printed now mark = (1 when report_waits now.panel) ∷ []
printed now second = (1 when report_waits now.panel) ∷ []
printed now ask =
    let setup = now.panel.setup in
    let report = waiting_report now.panel in
    (14 when words_not_lent now.lent.words || area_not_lent now.lent.curves || room_too_small now.lent.room)
    ∷ (16 when wrong_list now.lent.watched)
    ∷ (2 when of_frame report not_command)
    ∷ (3 when of_frame report wrong_data)
    ∷ (4 when of_frame report (passes_end word_count))
    ∷ (5 when of_frame report touches_unwritable)
    ∷ (6 when of_frame report (value_wrong setup.pages))
    ∷ (7 when of_frame report (reply_passes (checking_of setup)))
    ∷ []
printed now (contact c) =
    let setup = now.panel.setup in
    (14 when words_not_lent now.lent.words || room_too_small now.lent.room)
    ∷ (16 when wrong_list now.lent.watched)
    ∷ (1 when report_waits now.panel)
    ∷ (12 when not_whole_records c.table)
    ∷ (13 when one_wrong setup (records_of c.table))
    ∷ (9 when is_touch_off now.panel.registers)
    ∷ (8 when off_screen setup c.x c.y)
    ∷ []
printed now lift = (1 when report_waits now.panel) ∷ (10 when not (is_down now.panel.registers)) ∷ []

-- ".. start 11, 12, 13"
unfoldable pub printed_start : Setup → (table : List ℕ) → List Condition
printed_start setup table =
    (11 when not (good_setup setup)) ∷ (12 when not_whole_records table) ∷ (13 when one_wrong setup (records_of table)) ∷ []

-- frame writer: "it refuses with 14, then 3". 3: "frame writer: data over the limit"
unfoldable pub printed_writer : (checking : Bool) → (payload room : List ℕ) → List Condition
printed_writer checking payload room = (14 when room_too_small room) ∷ (3 when ltb (most_data checking) (length payload)) ∷ []

-- 13: "the first wrong one is named"
pub record NamesFirstWrong (setup : Setup) (table : List ℕ) (i : ℕ) : Type 0 where
  -- one of the table's records, before the one that ends it
  pub within : i < length (records_of table)
  pub is_wrong : good_record setup (record_at table i) ≡ false
  pub first : (k : ℕ) → k < i → good_record setup (record_at table k) ≡ true

-- "A refused command is still handed over and acknowledged as printed": its report is, the reader goes on behind it, and the acknowledgement is laid over
-- the room; "beyond that" the panel and what is lent are as they stood
pub record OnlyHandedOver (now later : Moment) : Type 0 where
  pub command : ℕ
  pub content : List ℕ
  pub handed_over : handed_over now ask ≡ accepted_frame command content ∷ []
  pub only_read_on : later.panel ≡ read_behind now.panel
  pub only_acknowledged : later.lent ≡ with_room now.lent (over (acknowledgement_of now.panel.setup command true) now.lent.room)

-- "beyond that a refusal leaves the panel, the variable words and the reply room as they stood", the curve area and the watch list: what a refused call leaves, by its number
pub data RefusalLeaves (now : Moment) : Call → Type 0 where
  -- 2 to 7: "answers beside a frame's report, which counts as handed over, and its acknowledgement is written"
  only_handed_over : 2 ≤ number_given now ask → number_given now ask ≤ 7 → OnlyHandedOver now (after now ask) → RefusalLeaves now ask
  -- "otherwise a refusal changes nothing"
  as_it_stood : (call : Call) → (number_given now call ≡ 1) ⊎ (8 ≤ number_given now call) → after now call ≡ now → RefusalLeaves now call
  -- of bytes one after the other, those in front were taken one by one, and the next comes while a report waits
  as_those_taken : (bs taken : List ℕ) (b : ℕ) (rest : List ℕ) → bs ≡ taken ++ (b ∷ rest) → after now (bytes bs) ≡ after_all now (map byte taken)
      → report_waits (after now (bytes bs)).panel ≡ true → RefusalLeaves now (bytes bs)
