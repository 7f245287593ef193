-- Our build keeps demands 2 and 3 as specs/Builds says them of any build.
use mathlib.Core.Path.{◌≡◌, refl, ap, ◌∙◌}
use mathlib.Core.List.{List, [], ◌∷◌, ◌++◌}
use Rattle.frame.specs.Frame.{header_bytes}
use Rattle.reading.specs.Place.{Report, bad_check, accepted_frame}
use Rattle.reading.specs.Demand3.{accepted_of}
use Rattle.demands.specs.Calls.{Call, ask, after_all, handed_over_all, AllTyped, Arises}
use Rattle.demands.specs.Builds.{Start, first, since, ours, AcceptsThen, AcceptsGoodFrames, DoesEachCommand}
use Rattle.demands.proofs.Calls.{after_then, handed_then_lem, sequence_arises}
use Rattle.demands.proofs.Demand2.{does_commands}
use Rattle.demands.proofs.Demand3.{demand3_open, demand3_closed}

pub accepted_then : (these more : List Report) → accepted_of (these ++ more) ≡ accepted_of these ++ accepted_of more
unfolding accepted_of
accepted_then [] more = refl
accepted_then (bad_check command ∷ these) more = accepted_then these more
accepted_then (accepted_frame command content ∷ these) more = ap (λ (l : List Report). accepted_frame command content ∷ l) (accepted_then these more)

pub since_arises : (s : Start) (calls : List Call) → AllTyped calls → Arises (since s calls)
since_arises s calls typed = sequence_arises s.setup s.table s.lent s.h1 s.h2 s.words s.curves s.taken calls typed

-- what ours accepts behind earlier calls is what it accepts from the moment on that they lead to
ours_accepts : (s : Start) (earlier calls : List Call) (accepted : List Report) → accepted_of (handed_over_all (since s earlier) calls) ≡ accepted
    → AcceptsThen ours s earlier calls accepted
ours_accepts s earlier calls accepted is =
    ap accepted_of (handed_then_lem (first s) earlier calls)
    ∙ accepted_then (handed_over_all (first s) earlier) (handed_over_all (since s earlier) calls)
    ∙ ap (λ (l : List Report). accepted_of (handed_over_all (first s) earlier) ++ l) is

-- demand 3 (`demand3_open`, `demand3_closed`)
pub ours_accepts_good_frames : AcceptsGoodFrames ours
unfolding header_bytes
ours_accepts_good_frames =
    record {
      on_an_open_line = λ s earlier calls frames typed come. ours_accepts s earlier calls _ (demand3_open (since s earlier) calls frames come);
      behind_a_mark = λ s earlier calls frames typed come. ours_accepts s earlier calls _ (demand3_closed (since s earlier) calls frames come);
    }

-- demand 2 (`does_commands`)
pub ours_does_each_command : DoesEachCommand ours
unfolding after_all
ours_does_each_command s calls typed = rw (after_then (first s) calls (ask ∷ [])) (does_commands (since s calls) (since_arises s calls typed))
