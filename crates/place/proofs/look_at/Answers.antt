-- `place::look_at` meets its contract.
use Rattle.place.proofs.Places.{places}
use Rattle.place.proofs.Said.{look_said_lem}
use Rattle.place.proofs.look_at.Goals as goal

pub returns-in-empty : goal.returns-in-empty
returns-in-empty c = let both = look_said_lem _ _ _ _ _ (search places) in record { value = both.0; result_value = both.1 }

pub returns-in-len1-up : goal.returns-in-len1-up
returns-in-len1-up c = let both = look_said_lem _ _ _ _ _ (search places) in record { value = both.0; result_value = both.1 }

pub returns-in_default : goal.returns-in_default
returns-in_default c = let both = look_said_lem _ _ _ _ _ (search places) in record { value = both.0; result_value = both.1 }
