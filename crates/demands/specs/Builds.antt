-- A build, as far as the idle ones are told from ours: what it hands over and what it leaves, by how it was started and by all the calls that were made of it
-- since, so that it may go by anything that came before. Demands 2 and 3 are said of any build here; ours keeps both (proofs/Builds). Which inputs were given,
-- which report an ask hands over and with which number, and when all reports are asked for, is as 01 says (`since`, which is our panel) and not the build's choice.
use Rattle.std.specs.Prelude.{ℕ, ◌<◌, ◌≡◌, List, [], ◌∷◌, ◌++◌, Ok}
use Rattle.reading.specs.Place.{Report}
use Rattle.reading.specs.Demand3.{accepted_of}
use Rattle.commands.specs.Lent.{Lent}
use Rattle.touch.specs.declared.Setup.{Setup}
use Rattle.panel.specs.Start.{started}
use Rattle.demands.specs.Calls.{Moment, Call, ask, begun, after_all, handed_over_all, Halfwords, AllTyped}
use Rattle.demands.specs.Demand2.{DoesCommands}
use Rattle.demands.specs.Demand3.{ComeOnAnOpenLine, ComeBehindAMark, as_accepted}

-- a start that is not refused, and what is lent then
pub record Start : Type 0 where
  pub setup : Setup
  pub table : List ℕ
  pub lent : Lent
  pub h1 : setup.h1 < 256
  pub h2 : setup.h2 < 256
  pub words : Halfwords lent.words
  pub curves : Halfwords lent.curves
  pub taken : (started setup table).answer ≡ Ok tt

-- the moment right behind a start
abbrev pub first : Start → Moment
first s = begun s.setup s.table s.lent

-- the moment that these calls lead to from a start, as 01 says
abbrev pub since : Start → List Call → Moment
since s calls = after_all (first s) calls

-- a build: what it does from a start on, in any calls
pub record Build : Type 0 where
  -- the reports that it hands over in these calls, from a start on
  pub hands_over : Start → List Call → List Report
  -- the panel, the variable words and the reply room as these calls leave them
  pub leaves : Start → List Call → Moment

-- the one that is proved here
abbrev pub ours : Build
ours = record { hands_over = λ s. handed_over_all (first s); leaves = since }

-- what asking leaves behind these calls
abbrev pub left_by_asking : Build → Start → List Call → Moment
left_by_asking build s calls = build.leaves s (calls ++ (ask ∷ []))

-- "the frames accepted" in calls that come behind earlier ones are these
abbrev pub AcceptsThen : Build → Start → (earlier calls : List Call) → List Report → Type 0
AcceptsThen build s earlier calls accepted = accepted_of (build.hands_over s (earlier ++ calls)) ≡ accepted_of (build.hands_over s earlier) ++ accepted

-- demand 3, whatever calls came earlier: "the frames accepted are exactly those good frames that had come whole, in order"
pub record AcceptsGoodFrames (build : Build) : Type 0 where
  pub on_an_open_line : (s : Start) (earlier calls : List Call) (frames : List (List ℕ)) → AllTyped earlier → ComeOnAnOpenLine 257 (since s earlier) calls frames
      → AcceptsThen build s earlier calls (as_accepted (since s earlier) frames)
  pub behind_a_mark : (s : Start) (earlier calls : List Call) (frames : List (List ℕ)) → AllTyped earlier → ComeBehindAMark (since s earlier) calls frames
      → AcceptsThen build s earlier calls (as_accepted (since s earlier) frames)

-- demand 2, "register and word access", whatever calls came before the ask
abbrev pub DoesEachCommand : Build → Type 0
DoesEachCommand build = (s : Start) (calls : List Call) → AllTyped calls → DoesCommands (since s calls) (left_by_asking build s calls)
