-- `place::after_header` meets its contract.
use Rattle.place.proofs.Places.{places}
use Rattle.place.proofs.after_header.Goals as goal

pub returns-in_default : goal.returns-in_default
returns-in_default c = search places

pub returns-then-n-check_length : goal.returns-then-n-check_length
returns-then-n-check_length c = search places

pub returns-then-behind-n : goal.returns-then-behind-n
returns-then-behind-n c = search places

pub returns : goal.returns
returns c = search places
