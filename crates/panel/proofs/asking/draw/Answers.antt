-- `panel::asking::draw` meets its contract.
use Rattle.panel.proofs.Reports.{drawn_added, drawn_cleared, drawn_nothing}
use Rattle.panel.proofs.asking.draw.Goals as goal

pub returns-then-adds : goal.returns-then-adds
returns-then-adds c = search drawn_added

pub returns-then-writes : goal.returns-then-writes
returns-then-writes c = search drawn_cleared

pub returns : goal.returns
returns c = search drawn_nothing
