-- `line::ask::put_short` meets its contract.
use Rattle.line.proofs.Handing.{first_place, second_place, third_place, short_none, short_one, short_two, short_three}
use borrow.Author.Rules.{rules}
use Rattle.line.proofs.ask.put_short.Goals as goal

pub returns-then-end-lt2 : goal.returns-then-end-lt2
returns-then-end-lt2 c = search short_none

pub bounds-out-0 : goal.bounds-out-0
bounds-out-0 c = search first_place

pub returns-then-end-lt3 : goal.returns-then-end-lt3
returns-then-end-lt3 c = search (rules, short_one)

pub bounds-out-1 : goal.bounds-out-1
bounds-out-1 c = search second_place

pub returns-then-end-lt4 : goal.returns-then-end-lt4
returns-then-end-lt4 c = search (rules, short_two)

pub bounds-out-2 : goal.bounds-out-2
bounds-out-2 c = search third_place

pub returns : goal.returns
returns c = search (rules, short_three)
