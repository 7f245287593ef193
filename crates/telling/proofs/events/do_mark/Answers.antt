-- `telling::events::do_mark` meets its contract.
use Rattle.telling.proofs.Telling.{mark_fed}
use Rattle.telling.proofs.events.do_mark.Goals as goal

pub returns : goal.returns
returns c = search mark_fed
