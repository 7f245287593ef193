-- `telling::events::do_byte` meets its contract.
use Rattle.telling.proofs.Telling.{byte_fed}
use Rattle.telling.proofs.events.do_byte.Goals as goal

pub returns : goal.returns
returns c = search byte_fed
