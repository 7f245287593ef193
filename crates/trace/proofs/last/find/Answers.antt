-- `trace::last::find` meets its contract.
use Rattle.trace.proofs.Ending.{no_setup, last_page, after_failure, cut_item}
use Rattle.trace.proofs.last.find.Goals as goal

pub returns-in-Bare : goal.returns-in-Bare
returns-in-Bare c = search no_setup

pub returns-in_default : goal.returns-in_default
returns-in_default c = search last_page

pub returns-in-Over : goal.returns-in-Over
returns-in-Over c = search after_failure

pub returns : goal.returns
returns c = search cut_item
