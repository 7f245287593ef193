-- `telling::events::do_second` meets its contract.
use Rattle.telling.proofs.Telling.{second_fed}
use Rattle.telling.proofs.events.do_second.Goals as goal

pub returns : goal.returns
returns c = search second_fed
