-- `place::by_check` meets its contract.
use Rattle.place.proofs.Places.{places}
use Rattle.place.proofs.by_check.Goals as goal

pub returns-then-right_check : goal.returns-then-right_check
returns-then-right_check c = search places

pub returns-else-right_check : goal.returns-else-right_check
returns-else-right_check c = search places
