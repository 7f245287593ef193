-- `telling::events::do_contact` meets its contract.
use Rattle.telling.proofs.Telling.{contact_printed}
use Rattle.telling.proofs.events.do_contact.Goals as goal

-- a contact says for every curve area what it leaves: it is asked at the one in question, and listed, since a panel leaves more facts than a search looks at
pub returns : goal.returns
returns c curves = search (contact_printed, c.contact-done.ensures.values_after curves, c.zeros-reply.ensures)
