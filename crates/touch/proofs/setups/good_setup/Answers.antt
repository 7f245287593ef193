-- `touch::setups::good_setup` meets its contract.
use Rattle.std.proofs.Common.{arith}
use Rattle.std.proofs.lemmas.Grind.{common_steps}
use Rattle.touch.proofs.Said.{setup_said_lem}
use Rattle.touch.proofs.setups.good_setup.Goals as goal

pub returns-then-contains-2-clause-result_value : goal.returns-then-contains-2-clause-result_value
returns-then-contains-2-clause-result_value c = setup_said_lem _ _ (grind (arith, common_steps))

pub returns-else-contains-2-clause-result_value : goal.returns-else-contains-2-clause-result_value
returns-else-contains-2-clause-result_value c = setup_said_lem _ _ (grind (arith, common_steps))
