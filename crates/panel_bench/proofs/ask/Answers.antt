-- `panel_bench::ask` meets its contract.
use Rattle.std.proofs.Common.{ap}
use Rattle.watch.specs.Watched.{list_of}
use Rattle.panel_bench.proofs.Asks.{none_left}
use Rattle.panel_bench.proofs.ask.Goals as goal

pub returns : goal.returns
returns c = none_left _ _ _ _ _ _ _ _ c.report.new.list (ap list_of c.report.ensures.list_after) c.report.ensures.values_after
