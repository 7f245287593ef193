-- `line::Reader::ask` meets its contract.
use borrow.Author.Rules.{rules}
use Rattle.line.proofs.Padding.{zeros_empty}
use Rattle.line.proofs.Said.{ask_said}
use Rattle.line.proofs.Reader.ask.Goals as goal

pub hand_over-handed-requires : goal.hand_over-handed-requires
hand_over-handed-requires c = (search zeros_empty, search zeros_empty)

pub returns : goal.returns
returns c = let both = ask_said _ _ (search rules) in record { value = both.0; report_value = both.1 }
