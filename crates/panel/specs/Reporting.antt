-- 01: "asking for a report 14, then 2 to 7 in turn". "An accepted frame takes effect when its report is handed over."
use Rattle.std.specs.Prelude.{Option, None, Some, Ok, Err}
use Rattle.line.specs.declared.Report.{Report}
use Rattle.std.specs.Prelude.{ℕ, Bool, true, false, cond, not, ◌&&◌, List, [], ◌++◌, eqb, leb, length, take, drop}
use Rattle.wire.specs.Addresses.{word_count}
use Rattle.wire.specs.ByteOrder.{word_at}
use Rattle.wire.specs.Room.{Laid, lays}
use Rattle.frame.specs.Frame.{most_payload}
use Rattle.frame.specs.Writer.{least_room, acknowledgement_laid}
use Rattle.line.specs.declared.Report.TheVariants as line
use Rattle.line.specs.declared.Asked.{Asked}
use Rattle.line.specs.State.{padded}
use Rattle.line.specs.Methods.{asked}
use Rattle.registers.specs.declared.Registers.{Registers}
use Rattle.words.specs.Words.{words_of}
use Rattle.curves.specs.declared.Counts.{Counts}
use Rattle.curves.specs.Area.{curve_words, Drawn, draws}
use Rattle.curves.specs.Adding.{added}
use Rattle.watch.specs.Watched.{Watched, with_values}
use Rattle.watch.specs.Judge.{wrong_list}
use Rattle.watch.specs.Noting.{noted}
use Rattle.commands.specs.Lent.{Lent, lending, with_room}
use Rattle.commands.specs.Effect.{registers_left, counts_left}
use Rattle.commands.specs.Perform.{performance}
use Rattle.touch.specs.declared.Setup.{Setup}
use Rattle.contact.specs.Contact.{Catch}
use Rattle.panel.specs.declared.Panel.{Panel}
use Rattle.panel.specs.Answers.{AskAnswer}
use Rattle.panel.specs.declared.Handed.{Handed}
use Rattle.panel.specs.declared.Handed.TheVariants as handed
use Rattle.panel.specs.declared.LentError.TheVariants as lent_error
use Rattle.panel.specs.declared.Effected.{Effected}
use Rattle.panel.specs.declared.HandedOver.{HandedOver}
use Rattle.panel.specs.declared.Reported.{Reported}
use Rattle.panel.specs.State.{header_of, fixed_for, answering}

-- the opposite of "14: words lent aren't 28,672, or reply .. room below 265"; 02, §2: "14 also for a curve area of the wrong length"
unfoldable pub enough : (words curves room : ℕ) → Bool
enough words curves room = eqb words word_count && eqb curves curve_words && leb least_room room

-- the same of what is lent
abbrev pub enough_lent : Lent → Bool
enough_lent lent = enough (length lent.words) (length lent.curves) (length lent.room)

-- neither 14 nor 16 is given: 02, §4, "16, two entries in use share a word or one in use has an address not below 0x7000, or the list is longer than 16"
abbrev pub well_lent : Lent → Bool
well_lent lent = enough_lent lent && not (wrong_list lent.watched)

-- "With checking and acknowledging both on, each accepted frame is first answered by header, length, command, 0xFF, check; each bad check
-- by the same with 0x00."
unfoldable pub acknowledged : Setup → (command : ℕ) → (good : Bool) → (room : List ℕ) → Laid
acknowledged setup command good room = cond (answering setup) (acknowledgement_laid (header_of setup) command good room) (lays 0 room)

-- what an accepted frame does, how long its acknowledgement is, and what is lent as it leaves it
pub record Effects : Type 0 where
  pub effected : Effected
  pub lent : Lent

-- builds one
abbrev pub effects : Effected → Lent → Effects
effects effected lent = record { effected = effected; lent = lent }

-- "The reply follows the acknowledgement at once in the same room." "A refused command still has its acknowledgement."
unfoldable pub accepting : Setup → Registers → (command : ℕ) → (content : List ℕ) → Lent → Effects
accepting setup registers command content lent =
    let answer = acknowledged setup command true lent.room in
    let done = performance (fixed_for setup) registers command content (with_room lent (drop answer.count answer.room)) in
    effects (record { performed = done.performed; acknowledged = answer.count })
    (with_room done.lent (take answer.count answer.room ++ done.lent.room))

-- a report that is handed over: what is answered, whether the frame's data is to be written into the registers, whether the catch is to be dropped, whether
-- the data is to be added to the curves, whether its words are to be noted; and what is lent as that leaves it
pub record HandingOver : Type 0 where
  pub over : HandedOver
  pub lent : Lent

-- builds one
abbrev pub overs : HandedOver → Lent → HandingOver
overs over lent = record { over = over; lent = lent }

-- a report that is handed over and asks nothing of the panel
abbrev pub only_handed : Option Handed → HandedOver
only_handed handed = record { handed = handed; writes = false; drops = false; adds = false; notes = false }

-- "Numbers 2 to 7 are answers beside a frame's report, which counts as handed over": the report of an accepted frame, with what it asks of the panel
abbrev pub accepted_over : (command count : ℕ) → Effected → HandedOver
accepted_over command count e =
    record {
      handed = Some (handed.Accepted command count e.performed.outcome e.acknowledged e.performed.replied);
      writes = e.performed.writes;
      drops = e.performed.drops;
      adds = e.performed.adds;
      notes = e.performed.notes;
    }

-- "'Nothing' changes nothing, the reply room included."; "each bad check by the same with 0x00"; "An accepted frame takes effect when its report is handed over."
unfoldable pub handing_over : Setup → Registers → Option Report → (payload : List ℕ) → Lent → HandingOver
handing_over setup registers None payload lent = overs (only_handed None) lent
handing_over setup registers (Some (line.BadCheck command)) payload lent =
    let answer = acknowledged setup command false lent.room in
    overs (only_handed (Some (handed.BadCheck command answer.count))) (with_room lent answer.room)
handing_over setup registers (Some (line.Accepted command count)) payload lent =
    let done = accepting setup registers command (take count payload) lent in
    overs (accepted_over command count done.effected) done.lent

-- how much data an accepted frame has
abbrev pub length_of : Option Report → ℕ
length_of None = 0
length_of (Some (line.BadCheck command)) = 0
length_of (Some (line.Accepted command count)) = count

-- "Every page write by a command .. drops the catch."
abbrev pub catch_after : Bool → Catch → Catch
catch_after drops catch = cond drops None catch

-- what a report does to the curves. 02, §2: the numbers of "command 0x84" are added to their channels; "Register EB .. clears"; nothing else changes them
abbrev pub drawing : (writes adds : Bool) → Counts → (content area : List ℕ) → Drawn
drawing writes adds counts content area =
    cond adds (added counts content area) (cond writes (draws (counts_left counts content) area) (draws counts area))

-- what a report does to the watch list. 02, §4: "Line writes note the new value": the words of the run, as the write left them; nothing else notes
abbrev pub noting : (notes : Bool) → (content words : List ℕ) → Watched → Watched
noting notes content words watched =
    cond notes (with_values watched (noted words watched (word_at content 0) (length (words_of (drop 2 content))))) watched

-- what asking for a report answers, and what is lent as it leaves it
pub record Reporting : Type 0 where
  pub reported : Reported
  pub lent : Lent

-- builds one
abbrev pub reports : Reported → Lent → Reporting
reports reported lent = record { reported = reported; lent = lent }

-- "An accepted frame takes effect when its report is handed over.": the panel behind a report, its reader gone on
unfoldable pub handing : Asked → Option Report → Panel → Lent → Reporting
handing a report panel lent =
    let done = handing_over panel.setup panel.registers report a.payload lent in
    let content = take (length_of report) a.payload in
    let drawn = drawing done.over.writes done.over.adds panel.counts content lent.curves in
    reports
    (record {
      handed = Ok done.over.handed;
      payload = a.payload;
      panel = record {
        setup = panel.setup;
        registers = cond done.over.writes (registers_left panel.registers content) panel.registers;
        catch = catch_after done.over.drops panel.catch;
        counts = drawn.counts;
        reader = a.reader;
      };
    })
    (lending done.lent.words drawn.area done.lent.room (noting done.over.notes content done.lent.words lent.watched))

-- of the two, "16, .., right after 14 at contacts and reports": 14 is given first
abbrev pub refusal : Lent → AskAnswer
refusal lent = cond (enough_lent lent) (Err lent_error.WrongList) (Err lent_error.NotLent)

-- "With 14 the report still waits."; 02, §4, with 16: "the report still waiting"
abbrev pub refused : AskAnswer → Panel → Reported
refused given panel = record { handed = given; payload = padded most_payload []; panel = panel }

-- "asking for a report 14, then 2 to 7 in turn", with 16 "right after 14"
unfoldable pub reporting : Panel → Lent → Reporting
reporting panel lent =
    let a = asked panel.reader in
    cond (well_lent lent) (handing a a.report panel lent) (reports (refused (refusal lent) panel) lent)
