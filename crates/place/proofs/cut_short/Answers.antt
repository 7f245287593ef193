-- `place::cut_short` meets its contract.
use Rattle.place.proofs.Places.{places}
use Rattle.place.proofs.cut_short.Goals as goal

pub returns-then-closed : goal.returns-then-closed
returns-then-closed c = search places

pub returns-else-closed : goal.returns-else-closed
returns-else-closed c = search places
