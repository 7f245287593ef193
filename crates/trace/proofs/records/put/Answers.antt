-- `trace::records::put` meets its contract.
use Rattle.trace.proofs.Items.{record_laid, not_put}
use Rattle.trace.proofs.records.put.Goals as goal

pub returns-then-records-lt-KEPT_RECORDS : goal.returns-then-records-lt-KEPT_RECORDS
returns-then-records-lt-KEPT_RECORDS c = search record_laid

pub returns-else-records-lt-KEPT_RECORDS : goal.returns-else-records-lt-KEPT_RECORDS
returns-else-records-lt-KEPT_RECORDS c = search not_put
