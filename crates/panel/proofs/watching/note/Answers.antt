-- `panel::watching::note` meets its contract.
use Rattle.panel.proofs.Watchings.{only_sent, words_noted, nothing_noted}
use Rattle.panel.proofs.watching.note.Goals as goal

pub returns-then-notes : goal.returns-then-notes
returns-then-notes c = record { noted = search words_noted; list_after = search only_sent }

pub returns-else-notes-clause-noted : goal.returns-else-notes-clause-noted
returns-else-notes-clause-noted c = search nothing_noted
