-- `panel::asking::accept` meets its contract.
use borrow.Author.Rules.{rules}
use Rattle.panel.proofs.Reports.{reply_begins, accepts}
use Rattle.panel.proofs.asking.accept.Goals as goal

pub slice_bounds-perform-count : goal.slice_bounds-perform-count
slice_bounds-perform-count c = search (rules, reply_begins)

pub slice_bounds-perform-start : goal.slice_bounds-perform-start
slice_bounds-perform-start c = search (rules, reply_begins)

pub returns : goal.returns
returns c = search accepts
