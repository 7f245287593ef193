-- 01, "Reading the line": what is asked for and what is held, from a start and over any sequence of calls.
use Rattle.std.specs.Prelude.{ℕ, ◌≤◌, ◌≡◌, false, List, ◌++◌, length, replicate, None, Ok}
use Rattle.frame.specs.Frame.{longest_frame}
use Rattle.reading.specs.Place.{Report}
use Rattle.reading.specs.Stretch.{reports}
use Rattle.reading.specs.Line.{line_reports}
use Rattle.reading.specs.Run.{line_held}
use Rattle.reading.specs.Demand3.{one_less_than_longest}
use Rattle.line.specs.State.{rules_for, kept_of}
use Rattle.commands.specs.Lent.{Lent}
use Rattle.touch.specs.declared.Setup.{Setup}
use Rattle.panel.specs.declared.Panel.{Panel}
use Rattle.panel.specs.Start.{started}
use Rattle.panel.specs.Sound.{line_of}
use Rattle.panel.specs.Reporting.{reporting}
use Rattle.demands.specs.Calls.{Moment, WellLent, Call, ask, begun, after_all, handed_over_all, AllTyped, Arises}
use Rattle.demands.specs.Reports.{report_waits}
use Rattle.demands.specs.Given.{given_all}

-- what a panel keeps of the line
abbrev pub kept_by : Panel → List ℕ
kept_by panel = (kept_of panel.reader).bytes

-- "While one of them is left": the reports that are still to be handed over, those of what is kept
abbrev pub still_to_hand : Setup → Panel → List Report
still_to_hand setup panel = reports (rules_for (line_of setup)) panel.reader.closed (kept_by panel)

-- the reports of "the reading of all that was given"
abbrev pub reading_of : Setup → Moment → List Call → List Report
reading_of setup now calls = line_reports (rules_for (line_of setup)) (given_all now calls)

-- what holds after any sequence of calls from a start
pub record AsRead (setup : Setup) (now : Moment) (calls : List Call) : Type 0 where
  -- "The reports asked for, in order, are those of the reading of all that was given": those handed over, and then those still to be handed over
  pub in_order : reading_of setup now calls ≡ handed_over_all now calls ++ still_to_hand setup (after_all now calls).panel
  -- "While one of them is left, a report waits": where none waits, all of them have been handed over
  pub while_left : report_waits (after_all now calls).panel ≡ false → handed_over_all now calls ≡ reading_of setup now calls
  -- and where all of them have been handed over, none waits
  pub no_longer : handed_over_all now calls ≡ reading_of setup now calls → report_waits (after_all now calls).panel ≡ false
  -- "otherwise the bytes from the waiting place on are held"
  pub held : report_waits (after_all now calls).panel ≡ false → kept_by (after_all now calls).panel ≡ line_held (rules_for (line_of setup)) (given_all now calls)
  -- "a frame has 3 + L bytes, at most 258": one byte less is held at most, 257 with two header bytes
  pub at_most_257 : report_waits (after_all now calls).panel ≡ false
      → length (kept_by (after_all now calls).panel) ≤ one_less_than_longest (rules_for (line_of setup)).header

-- from every start, after any sequence of calls
abbrev pub AlwaysAsRead : Type 0
AlwaysAsRead =
    (setup : Setup) (table : List ℕ) (lent : Lent) → (started setup table).answer ≡ Ok tt
    → (calls : List Call) → AllTyped calls → AsRead setup (begun setup table lent) calls

-- "reports are then asked for one at a time until the answer is 'nothing'": at a panel that is lent what it must be, the answer says
-- that no report waits, and 258 asks are enough for it
pub record AskedUntilNothing (now : Moment) : Type 0 where
  pub nothing_waits : (reporting now.panel now.lent).reported.handed ≡ Ok None → report_waits now.panel ≡ false
  pub comes : report_waits (after_all now (replicate longest_frame ask)).panel ≡ false

-- at every moment that calls lead to, where what must be lent is lent
abbrev pub AlwaysUntilNothing : Type 0
AlwaysUntilNothing =
    (now : Moment) → Arises now → WellLent now.lent → AskedUntilNothing now
