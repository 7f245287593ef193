-- `trace::records::met` meets its contract.
use borrow.Author.Rules.{rules}
use Rattle.trace.proofs.Taking.{record_counted_lem}
use Rattle.trace.proofs.records.met.Goals as goal

pub returns : goal.returns
returns c = (search record_counted_lem, search rules)
