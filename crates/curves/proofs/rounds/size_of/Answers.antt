-- `curves::rounds::size_of` meets its contract.
use Rattle.std.proofs.Common.{rules}
use Rattle.curves.proofs.Naming.{places_counted}
use Rattle.curves.proofs.rounds.size_of.Goals as goal

pub returns-clause-value : goal.returns-clause-value
returns-clause-value c = search (rules, places_counted)
