-- `line::ask::put_payload` meets its contract.
use Rattle.line.proofs.Handing.{payload_short, payload_within, payload_room, payload_long}
use Rattle.line.proofs.Asking.{body_inside}
use borrow.Author.Rules.{rules}
use Rattle.line.proofs.ask.put_payload.Goals as goal

pub slice_bounds-put_short-end : goal.slice_bounds-put_short-end
slice_bounds-put_short-end c = search (rules, body_inside)

pub returns-then-end-lt5 : goal.returns-then-end-lt5
returns-then-end-lt5 c = search (rules, payload_short)

pub put_held-requires : goal.put_held-requires
put_held-requires c = (search rules, search (rules, payload_within), search (rules, payload_room))

pub returns : goal.returns
returns c = search (rules, payload_long)
