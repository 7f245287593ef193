-- Demand 3, over a panel and any sequence of calls. The words about frames (good frames end to end, what has come of one that is not whole, no place
-- that begins one, the frames accepted) are those of crate reading, specs/Demand3.
use Rattle.std.specs.Prelude.{ℕ, ◌≤◌, ◌≡◌, true, false, List, [], ◌∷◌, ◌++◌, map, length, Ok}
use Rattle.reading.specs.Place.{Report}
use Rattle.reading.specs.Line as Line
use Rattle.reading.specs.Line.{Input}
use Rattle.reading.specs.Demand3.{one_less_than_longest, GoodFrames, joined, Cut, BeginsNone, accepted_of, report_of_frame, NothingHeldOrWaiting}
use Rattle.line.specs.State.{kept_of}
use Rattle.commands.specs.Lent.{Lent}
use Rattle.touch.specs.declared.Setup.{Setup}
use Rattle.touch.specs.Setup.{checking_of}
use Rattle.panel.specs.Start.{new_panel, started}
use Rattle.demands.specs.Calls.{Moment, Call, begun, after_all, handed_over_all, AllTyped, Arises}
use Rattle.demands.specs.Reports.{rules_of, report_waits}
use Rattle.demands.specs.Given.{given_all}

-- "Checking is on, nothing is held or waiting": at any moment that calls lead to from a start
pub record Ready (now : Moment) : Type 0 where
  pub arises : Arises now
  pub checking_on : checking_of now.panel.setup ≡ true
  pub nothing : NothingHeldOrWaiting (rules_of now.panel) (kept_of now.panel.reader)

-- ".. and all reports are asked for": none waits any more
abbrev pub AllAskedFor : Moment → List Call → Type 0
AllAskedFor now calls = report_waits (after_all now calls).panel ≡ false

-- "Checking is on, nothing is held or waiting, and damage of any bytes arrives, then good frames end to end, unbroken by a mark. If no place in the damage
-- begins a run of bytes, in it or reaching past it, that is itself a good frame, then once 257 bytes have followed the damage on a line still open, or a quiet
-- mark has come right behind a whole good frame, and all reports are asked for, the frames accepted are exactly those good frames that had come whole, in order."

-- What the sentence supposes of a moment, of the calls that are made from then on and of the good frames that these give whole: on a line still open, once
-- so many bytes have followed the damage. `tail` is what has come of a good frame that has not come whole.
pub record ComeOnAnOpenLine (figure : ℕ) (now : Moment) (calls : List Call) (frames : List (List ℕ)) : Type 0 where
  -- "Checking is on, nothing is held or waiting, .."
  pub ready : Ready now
  pub typed : AllTyped calls
  -- ".. and damage of any bytes arrives, then good frames end to end, unbroken by a mark."
  pub damage : List ℕ
  pub tail : List ℕ
  pub good : GoodFrames (rules_of now.panel) frames
  pub cut : Cut (rules_of now.panel) tail
  pub came : given_all now calls ≡ map Line.byte (damage ++ (joined frames ++ tail))
  -- "If no place in the damage begins a run of bytes, in it or reaching past it, that is itself a good frame, .."
  pub begins_none : BeginsNone (rules_of now.panel) damage (joined frames ++ tail)
  -- ".. then once 257 bytes have followed the damage on a line still open, .."
  pub followed : figure ≤ length (joined frames ++ tail)
  -- ".. and all reports are asked for, .."
  pub all_asked : AllAskedFor now calls

-- The same where ".. a quiet mark has come right behind a whole good frame, and all reports are asked for, .."
pub record ComeBehindAMark (now : Moment) (calls : List Call) (frames : List (List ℕ)) : Type 0 where
  pub ready : Ready now
  pub typed : AllTyped calls
  pub damage : List ℕ
  pub good : GoodFrames (rules_of now.panel) frames
  pub came : given_all now calls ≡ map Line.byte (damage ++ joined frames) ++ (Line.mark ∷ [])
  pub begins_none : BeginsNone (rules_of now.panel) damage (joined frames)
  pub all_asked : AllAskedFor now calls

-- ".. those good frames that had come whole, in order": the reports that they are accepted with
abbrev pub as_accepted : Moment → List (List ℕ) → List Report
as_accepted now frames = map (report_of_frame (rules_of now.panel)) frames

-- ".. the frames accepted are exactly those good frames that had come whole, in order."
abbrev pub OnAnOpenLine : Type 0
OnAnOpenLine =
    (now : Moment) (calls : List Call) (frames : List (List ℕ))
    → ComeOnAnOpenLine (one_less_than_longest (rules_of now.panel).header) now calls frames
    → accepted_of (handed_over_all now calls) ≡ as_accepted now frames

-- the same, ".. or a quiet mark has come right behind a whole good frame, and all reports are asked for"
abbrev pub BehindAMark : Type 0
BehindAMark =
    (now : Moment) (calls : List Call) (frames : List (List ℕ)) → ComeBehindAMark now calls frames
    → accepted_of (handed_over_all now calls) ≡ as_accepted now frames

-- two panels read alike: whatever calls follow, they take the same inputs and hand over the same reports
pub record ReadAlike (one other : Moment) : Type 0 where
  pub give_same : (calls : List Call) → given_all one calls ≡ given_all other calls
  pub hand_same : (calls : List Call) → handed_over_all one calls ≡ handed_over_all other calls

-- "After a quiet mark and its reports, with checking on or off, reading goes on as from a new panel, and no premise is needed." From any start, whatever
-- was given before the mark, and however it was mixed with asks, seconds, contacts and lifts: the panel's reader is that of a new panel, and reading goes on as
-- that of a new panel which is lent the same.
pub record AsNew (setup : Setup) (table : List ℕ) (now : Moment) : Type 0 where
  pub new_reader : now.panel.reader ≡ (new_panel setup).reader
  pub reads_as_new : ReadAlike now (begun setup table now.lent)

-- "After a quiet mark and its reports, with checking on or off, reading goes on as from a new panel, and no premise is needed.": from every start, in any calls
abbrev pub AfterAMark : Type 0
AfterAMark =
    (setup : Setup) (table : List ℕ) (lent : Lent) → (started setup table).answer ≡ Ok tt
    → (calls : List Call) → AllTyped calls
    → (before : List Input) → given_all (begun setup table lent) calls ≡ before ++ (Line.mark ∷ [])
    → AllAskedFor (begun setup table lent) calls
    → AsNew setup table (after_all (begun setup table lent) calls)

-- and so, where checking is on, the first sentence applies again
abbrev pub ReadyAgain : Type 0
ReadyAgain =
    (setup : Setup) (table : List ℕ) (lent : Lent) → Arises (begun setup table lent) → (started setup table).answer ≡ Ok tt
    → (calls : List Call) → AllTyped calls
    → (before : List Input) → given_all (begun setup table lent) calls ≡ before ++ (Line.mark ∷ [])
    → AllAskedFor (begun setup table lent) calls
    → checking_of setup ≡ true → Ready (after_all (begun setup table lent) calls)
