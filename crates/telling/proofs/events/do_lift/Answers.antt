-- `telling::events::do_lift` meets its contract.
use Rattle.telling.proofs.Telling.{lift_left, lift_printed}
use Rattle.telling.proofs.events.do_lift.Goals as goal

pub returns : goal.returns
returns c = (search lift_left, search lift_printed)
