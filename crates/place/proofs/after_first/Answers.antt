-- `place::after_first` meets its contract.
use Rattle.place.proofs.Places.{places}
use Rattle.place.proofs.after_first.Goals as goal

pub returns-in-empty : goal.returns-in-empty
returns-in-empty c = search places

pub returns-in-len1-up : goal.returns-in-len1-up
returns-in-len1-up c = search places

pub returns-in_default : goal.returns-in_default
returns-in_default c = search places
