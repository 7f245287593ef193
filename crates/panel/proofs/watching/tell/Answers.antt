-- `panel::watching::tell` meets its contract.
use Rattle.panel.proofs.Watchings.{only_sent, none_told, one_told}
use Rattle.panel.proofs.watching.tell.Goals as goal

pub returns-in-None : goal.returns-in-None
returns-in-None c = record { told = search none_told; list_after = search only_sent }

pub returns-in-Some : goal.returns-in-Some
returns-in-Some c = record { told = search one_told; list_after = search only_sent }
