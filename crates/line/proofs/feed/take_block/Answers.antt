-- `line::feed::take_block` meets its contract.
use borrow.Author.Rules.{rules}
use Rattle.line.proofs.Blocks.{block_laid, byte_behind}
use Rattle.line.proofs.feed.take_block.Goals as goal

pub returns-then-k-lt16 : goal.returns-then-k-lt16
returns-then-k-lt16 c = (search rules, search rules, search rules, search byte_behind)

pub returns : goal.returns
returns c = (search rules, search rules, search rules, search (rules, block_laid))
