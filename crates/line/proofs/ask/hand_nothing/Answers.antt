-- `line::ask::hand_nothing` meets its contract.
use Rattle.line.proofs.Handing.{empty_room, all_stays}
use borrow.Author.Rules.{rules}
use Rattle.line.proofs.ask.hand_nothing.Goals as goal

pub put_held-requires : goal.put_held-requires
put_held-requires c = (search rules, search rules, search (rules, empty_room))

pub returns : goal.returns
returns c = (search rules, search (rules, all_stays))
