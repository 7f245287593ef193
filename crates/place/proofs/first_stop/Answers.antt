-- `place::first_stop` meets its contract.
use Rattle.place.proofs.Said.{stop_said_lem}
use Rattle.place.proofs.Stops.{goes_on, stops_here, stops_behind}
use Rattle.place.proofs.first_stop.Goals as goal

pub loop-at-preserved : goal.loop-at-preserved
loop-at-preserved c = search (goes_on, c.in-Pass.ensures.value)

pub returns-in_default : goal.returns-in_default
returns-in_default c = let both = stop_said_lem _ _ _ _ _ (search stops_here) in record { value = both.0; result_value = both.1 }

pub returns : goal.returns
returns c = let both = stop_said_lem _ _ _ _ _ (search stops_behind) in record { value = both.0; result_value = both.1 }
