-- `words::write` meets its contract.
use native.Mathlib.Omega.{arith}
use borrow.Author.Rules.{rules}
use Rattle.words.proofs.Loops.{stored, not_stored}
use Rattle.words.proofs.write.Goals as goal

pub returns-then-passes_end : goal.returns-then-passes_end
returns-then-passes_end c = search (arith, not_stored)

pub store_run-requires : goal.store_run-requires
store_run-requires c = search (rules, arith)

pub returns : goal.returns
returns c = search (arith, stored)
