-- `trace::run::feed_run` meets its contract.
use borrow.Author.Rules.{rules}
use Rattle.trace.proofs.Runs.{run_used}
use Rattle.trace.proofs.run.feed_run.Goals as goal

pub returns : goal.returns
returns c = (search rules, search run_used)
