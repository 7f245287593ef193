-- 01, "Reading the line": when an input is answered 1, and when asking is answered "nothing", over the reading of all that was given.
use Rattle.std.specs.Prelude.{ℕ, ◌≡◌, List, [], ◌∷◌, ◌++◌, map, None, Ok}
use Rattle.wire.specs.Bytes.{Bytes}
use Rattle.reading.specs.Place.{Report}
use Rattle.commands.specs.Lent.{Lent}
use Rattle.touch.specs.declared.Setup.{Setup}
use Rattle.panel.specs.Start.{started}
use Rattle.panel.specs.Contacts.{Contact}
use Rattle.panel.specs.Reporting.{reporting}
use Rattle.demands.specs.Calls.{Moment, WellLent, TouchLent, Call, byte, bytes, mark, second, ask, contact, lift, begun, after_all, number_given, handed_over, handed_over_all, AllTyped}
use Rattle.demands.specs.AsRead.{reading_of}
use Rattle.demands.specs.Done.{Exactly}

-- "The reports asked for, in order, are those of the reading of all that was given. While one of them is left, ..": behind those handed over there
-- is one more
pub record OneIsLeft (setup : Setup) (now : Moment) (calls : List Call) : Type 0 where
  pub report : Report
  pub later : List Report
  pub left : reading_of setup now calls ≡ handed_over_all now calls ++ (report ∷ later)

-- "While one of them is left", and the opposite: those handed over are all of them
abbrev pub NoneIsLeft : Setup → Moment → List Call → Type 0
NoneIsLeft setup now calls = handed_over_all now calls ≡ reading_of setup now calls

-- "1: an input comes while a report waits", of bytes one after the other: one of them comes while one is left
pub record OneComesWhileLeft (setup : Setup) (now : Moment) (calls : List Call) (bs : List ℕ) : Type 0 where
  pub taken : List ℕ
  pub refused : ℕ
  pub rest : List ℕ
  pub place : bs ≡ taken ++ (refused ∷ rest)
  pub while_left : OneIsLeft setup now (calls ++ map byte taken)

-- 1: "an input comes while a report waits", and "While one of them is left, a report waits". "byte or mark 1; contact 14, 1, ..; lift 1, ..": only 14 can
-- come before it, of a contact, and 16, 02, §4: "right after 14"; 02, §6: "1 for a second while a report waits"
pub record AnsweredOne (setup : Setup) (now : Moment) (calls : List Call) : Type 0 where
  pub of_byte : (b : ℕ) → Exactly (number_given (after_all now calls) (byte b) ≡ 1) (OneIsLeft setup now calls)
  pub of_mark : Exactly (number_given (after_all now calls) mark ≡ 1) (OneIsLeft setup now calls)
  pub of_second : Exactly (number_given (after_all now calls) second ≡ 1) (OneIsLeft setup now calls)
  pub of_lift : Exactly (number_given (after_all now calls) lift ≡ 1) (OneIsLeft setup now calls)
  pub of_contact : (c : Contact) → TouchLent (after_all now calls).lent
      → Exactly (number_given (after_all now calls) (contact c) ≡ 1) (OneIsLeft setup now calls)
  pub of_bytes : (bs : List ℕ) → Bytes bs → Exactly (number_given (after_all now calls) (bytes bs) ≡ 1) (OneComesWhileLeft setup now calls bs)

-- "reports are then asked for one at a time until the answer is 'nothing'": that answer
abbrev pub AnswersNothing : Moment → Type 0
AnswersNothing now = (reporting now.panel now.lent).reported.handed ≡ Ok None

-- what the answer 'nothing' tells: no report is handed over, and the number is 0
abbrev pub HandsNothingOver : Moment → Type 0
HandsNothingOver now = (handed_over now ask ≡ []) × (number_given now ask ≡ 0)

-- "until the answer is 'nothing'": it is answered exactly where none is left
pub record AnsweredNothing (setup : Setup) (now : Moment) (calls : List Call) : Type 0 where
  pub answer : Exactly (AnswersNothing (after_all now calls)) (NoneIsLeft setup now calls)
  pub no_report : Exactly (HandsNothingOver (after_all now calls)) (NoneIsLeft setup now calls)

-- "While one of them is left, a report waits": from every start, over any sequence of calls
abbrev pub OneWhileLeft : Type 0
OneWhileLeft =
    (setup : Setup) (table : List ℕ) (lent : Lent) → (started setup table).answer ≡ Ok tt
    → (calls : List Call) → AllTyped calls → AnsweredOne setup (begun setup table lent) calls

-- "until the answer is 'nothing'": from every start, over any sequence of calls, where what must be lent is lent at the end of it
abbrev pub NothingWhereNoneLeft : Type 0
NothingWhereNoneLeft =
    (setup : Setup) (table : List ℕ) (lent : Lent) → (started setup table).answer ≡ Ok tt
    → (calls : List Call) → AllTyped calls → WellLent (after_all (begun setup table lent) calls).lent
    → AnsweredNothing setup (begun setup table lent) calls
