-- `watch::WatchList::note` meets its contract.
use mathlib.Core.Path.{◌≡◌}
use Rattle.watch.specs.Watched.{list_of, with_sent}
use Rattle.watch.specs.Noting.{noted_below}
use Rattle.watch.proofs.WatchList.note.Given as goal

-- the first i entries are gone through
abbrev pub invariant-loop-i : goal.invariant-loop-i
invariant-loop-i l = l.self ≡ with_sent l.initial.self (noted_below l.words (list_of l.initial.self) l.first.0 l.n l.i)
