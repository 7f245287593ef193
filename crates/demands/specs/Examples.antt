-- 01, "Proved examples", a to j: "Examples a to j are one proved table under a single claim."; c and d as 02, §1, changes them, and j by both sheets of 02, §5.
-- A row puts what the definitions give beside what 01 prints; the claim is that every row is right.
use Rattle.std.specs.Prelude.{ℕ, ◌≡◌, Bool, true, false, List, [], ◌∷◌, ◌++◌, map, ℤ, pos, neg_ℤ, replicate, None, Some, Ok}
use Rattle.wire.specs.Addresses.{word_count}
use Rattle.check_value.specs.CheckValue.{check_value}
use Rattle.frame.specs.Acknowledgement.{acknowledgement}
use Rattle.frame.specs.Writer.{least_room}
use Rattle.reading.specs.Place.{Report, accepted_frame}
use Rattle.reading.specs.Line.{byte, mark, line_reports}
use Rattle.reading.specs.Demand3.{checked}
use Rattle.stores.specs.Store.{signed, word_of}
use Rattle.stores.specs.Step.{step_stores}
use Rattle.stores.specs.Slider.{slider_stores}
use Rattle.words.specs.Words.{word_at_address}
use Rattle.curves.specs.Area.{curve_words}
use Rattle.watch.specs.Watched.{none_watched}
use Rattle.commands.specs.Lent.{lending}
use Rattle.touch.specs.declared.Setup.{Setup}
use Rattle.touch.specs.Rounding.{rounding_of}
use Rattle.panel.specs.declared.Panel.{Panel}
use Rattle.panel.specs.Answers.{AskAnswer}
use Rattle.panel.specs.declared.Handed.TheVariants as handed
use Rattle.panel.specs.Start.{started}
use Rattle.panel.specs.Inputs.{fed_bytes, fed_mark}
use Rattle.panel.specs.Reporting.{Reporting, reporting}

-- what the definitions give, and what 01 prints
pub data Row : Type 0 where
  number : (given printed : ℕ) → Row
  whole : (given printed : ℤ) → Row
  frame : (given printed : List ℕ) → Row
  reading : (given printed : List Report) → Row
  answered : (given printed : List AskAnswer) → Row

-- the two are the same
abbrev pub Right : Row → Type 0
Right (number given printed) = given ≡ printed
Right (whole given printed) = given ≡ printed
Right (frame given printed) = given ≡ printed
Right (reading given printed) = given ≡ printed
Right (answered given printed) = given ≡ printed

-- every row of a table is right
abbrev pub AllRight : List Row → Type 0
AllRight [] = Unit {0}
AllRight (row ∷ rows) = Right row × AllRight rows

-- the header of every printed frame, "5A A5"
abbrev pub header : List ℕ
header = 0x5A ∷ 0xA5 ∷ []

-- a setup with it, and with 01's trace example's pages and screen; flags 1 is checking on, 0 off; 4 the revised sheet, 0 the old
abbrev pub setup_with : (flags : ℕ) → Setup
setup_with flags = record { h1 = 0x5A; h2 = 0xA5; flags = flags; pages = 2; width = 800; height = 480 }

-- a panel started so, with an empty table
abbrev pub started_with : (flags : ℕ) → Panel
started_with flags = (started (setup_with flags) []).panel

-- asking it for a report, lent 28,672 words of 0 and a reply room of 265 bytes
abbrev pub asking : Panel → Reporting
asking panel = reporting panel (lending (replicate word_count 0) (replicate curve_words 0) (replicate least_room 0) none_watched)

-- e: "5A A5 40, 5A A5 05 81 00 01 E0 28"
abbrev pub noise_and_read : List ℕ
noise_and_read = 0x5A ∷ 0xA5 ∷ 0x40 ∷ 0x5A ∷ 0xA5 ∷ 0x05 ∷ 0x81 ∷ 0x00 ∷ 0x01 ∷ 0xE0 ∷ 0x28 ∷ []

-- e, to a panel with "Checking on": the bytes and the mark are given, then a report is asked for
abbrev pub first_asked : Reporting
first_asked = asking (fed_mark (fed_bytes (started_with 1) noise_and_read).panel).panel

-- and then another
abbrev pub second_asked : Reporting
second_asked = asking first_asked.reported.panel

-- f: "Checking off, 5A A5 05 82 00 10 01 F4", to a panel: the bytes are given, then a report is asked for
abbrev pub write_asked : Reporting
write_asked = asking (fed_bytes (started_with 0) (0x5A ∷ 0xA5 ∷ 0x05 ∷ 0x82 ∷ 0x00 ∷ 0x10 ∷ 0x01 ∷ 0xF4 ∷ [])).panel

-- g: "98 up 5 in 0..100" and the like, a step upward on a whole word
abbrev pub step_up : (value step least greatest : ℕ) (round : Bool) → ℕ
step_up value step least greatest round = step_stores 0 value true round step least greatest

-- h to j: "Slider 100..300", on a whole word, whose begin, end and stored word are read as signed numbers, in a panel with these flags
abbrev pub slider_by : (flags : ℕ) (begin end : ℤ) (at : ℕ) → ℤ
slider_by flags begin end at = signed (slider_stores (rounding_of (setup_with flags)) 0 0 (word_of begin) (word_of end) 100 300 at)

-- "0 for the old": by the old sheet, as 01 prints them
abbrev pub slider : (begin end : ℤ) (at : ℕ) → ℤ
slider = slider_by 0

-- 02, §5: "flag bit 2 of setup chooses": by the revised sheet
abbrev pub revised_slider : (begin end : ℤ) (at : ℕ) → ℤ
revised_slider = slider_by 4

-- "Examples a to j are one proved table under a single claim"
abbrev pub examples : List Row
examples =
    -- a. "Check of no bytes FFFF."
    number (check_value []) 0xFFFF ∷
    -- b. "Check of 81 00 01: 28E0."
    number (check_value (0x81 ∷ 0x00 ∷ 0x01 ∷ [])) 0x28E0 ∷
    -- c. "Good acknowledgement", as 02, §1, changes it: 5A A5 02 81 FF 21 A0
    frame (acknowledgement header 0x81 true) (0x5A ∷ 0xA5 ∷ 0x02 ∷ 0x81 ∷ 0xFF ∷ 0x21 ∷ 0xA0 ∷ []) ∷
    -- d. "Bad one", changed in the same way: 5A A5 02 81 00 61 E0
    frame (acknowledgement header 0x81 false) (0x5A ∷ 0xA5 ∷ 0x02 ∷ 0x81 ∷ 0x00 ∷ 0x61 ∷ 0xE0 ∷ []) ∷
    -- e. "Checking on: 5A A5 40, 5A A5 05 81 00 01 E0 28, quiet: one accepted 81.": of the reading, and of a panel, which replies 9 bytes
    reading (line_reports (checked 0x5A 0xA5) (map byte noise_and_read ++ (mark ∷ []))) (accepted_frame 0x81 (0x00 ∷ 0x01 ∷ []) ∷ []) ∷
    answered (first_asked.reported.handed ∷ second_asked.reported.handed ∷ []) (Ok (Some (handed.Accepted 0x81 2 (Ok tt) 0 9)) ∷ Ok None ∷ []) ∷
    -- f. "Checking off, 5A A5 05 82 00 10 01 F4: word 0010 becomes 500."
    number (word_at_address write_asked.lent.words 0x0010) 500 ∷
    -- g. "98 up 5 in 0..100: stop 100, round 0."
    number (step_up 98 5 0 100 false) 100 ∷
    number (step_up 98 5 0 100 true) 0 ∷
    -- h. "Slider 100..300, 0 to 1000, at 101: 5; 1000 to 0: 995."
    whole (slider (pos 0) (pos 1000) 101) (pos 5) ∷
    whole (slider (pos 1000) (pos 0) 101) (pos 995) ∷
    -- i. "−10 to 10 at 150: −5."
    whole (slider (neg_ℤ (pos 10)) (pos 10) 150) (neg_ℤ (pos 5)) ∷
    -- j. "0 to 7 at 299: 6; at 300: 7."
    whole (slider (pos 0) (pos 7) 299) (pos 6) ∷
    whole (slider (pos 0) (pos 7) 300) (pos 7) ∷
    -- j by 02, §5: "Example j at 299 gives 7 by the new sheet."; at 300 both give 7
    whole (revised_slider (pos 0) (pos 7) 299) (pos 7) ∷
    whole (revised_slider (pos 0) (pos 7) 300) (pos 7) ∷
    []
