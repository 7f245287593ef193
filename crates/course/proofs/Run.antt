-- The moves, however inputs and asks are mixed, are the course of all that was given.
use mathlib.Core.Path.{◌≡◌, refl, ◌∙◌}
use mathlib.Core.Bool.{Bool, true, false, cond}
use mathlib.Core.List.{List, [], ◌∷◌, ◌++◌}
use Rattle.reading.specs.Place.{Rules, Seen}
use Rattle.reading.specs.Line.{Input}
use Rattle.reading.specs.Moves.{Kept, fresh, waiting, after_report}
use Rattle.reading.specs.Run.{Event, offer, ask, Ran, giving, with_input, run, closing}
use Rattle.reading.proofs.Settling.{Settled, fresh_settled}
use Rattle.reading.proofs.Moves.{input_settled, report_settled}
use Rattle.course.specs.Course.{reports_in}
use Rattle.course.specs.Lines.{line_seen, seen_on}
use Rattle.course.specs.Steps.{giving_input, ask_steps, steps_made}
use Rattle.course.proofs.Course.{reports_of}
use Rattle.course.proofs.Moves.{Onward, stays_kept, onward_then, input_onward, input_reports, report_onward, ask_reports}

-- all that holds between a state and the one that events have led to by these steps
pub record Led (rules : Rules) (kept : Kept) (made : List Seen) (ran : Ran) : Type 0 where
  pub onward : Onward rules kept ran.given made ran.kept
  pub hands : reports_in rules made ≡ ran.handed_over

pub led : (rules : Rules) (kept : Kept) (events : List Event) → Settled rules kept → Led rules kept (steps_made rules kept events) (run rules kept events)
unfolding run steps_made
led rules kept [] now = record { onward = stays_kept rules kept; hands = unfold reports_in in refl }
led rules kept (offer input ∷ events) now =
    go (waiting rules kept) refl (led rules kept events now) (led rules (with_input rules kept input) events (input_settled rules kept input))
  where
    go : (b : Bool) → waiting rules kept ≡ b → Led rules kept (steps_made rules kept events) (run rules kept events)
        → Led rules (with_input rules kept input) (steps_made rules (with_input rules kept input) events) (run rules (with_input rules kept input) events)
        → Led rules kept (cond b (steps_made rules kept events) ((giving_input rules kept input).steps ++ steps_made rules (with_input rules kept input) events))
        (cond b (run rules kept events) (giving input (run rules (with_input rules kept input) events)))
    go true waits refused taken = refused
    go false quiet refused taken =
        record {
          onward = onward_then (input_onward rules kept input (now.is_open quiet)) taken.onward;
          hands = reports_of rules false (giving_input rules kept input).steps (steps_made rules (with_input rules kept input) events)
              ∙ rw (input_reports rules kept input) taken.hands;
        }
led rules kept (ask ∷ events) now =
    let later = led rules (after_report rules kept) events (report_settled rules kept now) in
    record {
      onward = onward_then (report_onward rules kept) later.onward;
      hands = reports_of rules false (ask_steps rules kept) (steps_made rules (after_report rules kept) events) ∙ rw (ask_reports rules kept, later.hands);
    }

-- from a new reader, for every list of events
module _ (rules : Rules) (events : List Event) where
  abbrev all_led : Led rules fresh (steps_made rules fresh events) (run rules fresh events)
  all_led = led rules fresh events (fresh_settled rules)

  -- the moves, one after the other, are the course of all that was given: for any further inputs, it goes on from what is kept alone
  pub moves_are_the_course : (more : List Input)
      → line_seen rules [] ((run rules fresh events).given ++ more) ≡ steps_made rules fresh events ++ seen_on rules (run rules fresh events).kept more
  unfolding seen_on closing
  moves_are_the_course more = all_led.onward.along more

  -- and what they report has been handed over
  pub made_is_handed : reports_in rules (steps_made rules fresh events) ≡ (run rules fresh events).handed_over
  made_is_handed = all_led.hands
