-- `panel_bench::stream_on` meets its contract. The loop's invariant: what flows from here on leads to the end of the whole.
use Rattle.watch.specs.Watched.{none_watched}
use Rattle.commands.specs.Lent.{lending}
use Rattle.panel_bench.specs.Stream.{runs, end_of}
use Rattle.panel_bench.specs.Inner.{flow}
use Rattle.panel_bench.proofs.Streaming.{Flowing, turns_left}
use Rattle.panel_bench.proofs.stream_on.Given as goal

abbrev pub invariant-loop-words : goal.invariant-loop-words
invariant-loop-words l = Flowing (end_of (flow (runs l.initial.panel (lending l.initial.words l.initial.curves l.initial.room none_watched) 0) l.initial.rest)) l.panel (lending l.words l.curves l.room none_watched) l.sum l.rest

abbrev pub decreases-loop-words : goal.decreases-loop-words
decreases-loop-words l = turns_left l.rest l.panel
