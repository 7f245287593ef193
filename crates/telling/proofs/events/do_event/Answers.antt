-- `telling::events::do_event` meets its contract.
use Rattle.telling.proofs.Telling.{event_byte, event_mark, event_contact, event_second, event_lift, event_other}
use Rattle.telling.proofs.events.do_event.Goals as goal

pub returns-in_default : goal.returns-in_default
returns-in_default c = search (event_other, c.in_default.ensures.1)

pub returns-in-LineByte : goal.returns-in-LineByte
returns-in-LineByte c = search (event_byte, c.in-Ok.ensures)

pub returns-in-Mark : goal.returns-in-Mark
returns-in-Mark c = search (event_mark, c.in-Ok.ensures)

pub returns-in-Contact : goal.returns-in-Contact
returns-in-Contact c = search (event_contact, c.in-Ok.ensures)

pub returns-in-Second : goal.returns-in-Second
returns-in-Second c = search (event_second, c.in-Ok.ensures)

pub returns-in_default-kind : goal.returns-in_default-kind
returns-in_default-kind c = search (event_lift, c.in-Ok.ensures)
