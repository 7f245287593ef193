-- `words::read` meets its contract.
use Rattle.words.proofs.Loops.{read_past, read_no_room, read_done}
use Rattle.words.proofs.read.Goals as goal
use Rattle.words.proofs.read.Goals.{then-passes_end-via-then-passes_end, then-passes_end-via-else-passes_end+then-room-m}

pub returns-then-passes_end : goal.returns-then-passes_end
returns-then-passes_end c =
    elim c.then-passes_end.branch [ then-passes_end-via-then-passes_end w ↦ search read_past | then-passes_end-via-else-passes_end+then-room-m w ↦ search read_no_room ]

pub returns : goal.returns
returns c = search read_done
