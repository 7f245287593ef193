-- `commands::performing::perform` meets its contract.
use Rattle.commands.proofs.Performance.{performs_80, performs_81, performs_82, performs_83, performs_84, performs_none}
use Rattle.commands.proofs.Said.{perform_said_lem}
use Rattle.commands.proofs.performing.perform.Goals as goal

pub returns-in-128 : goal.returns-in-128
returns-in-128 c = let both = perform_said_lem _ _ _ _ _ _ _ _ _ (λ rest. search performs_80) in record { room_after = both.0; result_value = both.1 }

pub returns-in-129 : goal.returns-in-129
returns-in-129 c = let both = perform_said_lem _ _ _ _ _ _ _ _ _ (λ rest. search performs_81) in record { room_after = both.0; result_value = both.1 }

pub returns-in-130 : goal.returns-in-130
returns-in-130 c = let both = perform_said_lem _ _ _ _ _ _ _ _ _ (λ rest. search performs_82) in record { room_after = both.0; result_value = both.1 }

pub returns-in-131 : goal.returns-in-131
returns-in-131 c = let both = perform_said_lem _ _ _ _ _ _ _ _ _ (λ rest. search performs_83) in record { room_after = both.0; result_value = both.1 }

pub returns-in-132 : goal.returns-in-132
returns-in-132 c = let both = perform_said_lem _ _ _ _ _ _ _ _ _ (λ rest. search performs_84) in record { room_after = both.0; result_value = both.1 }

pub returns-in_default : goal.returns-in_default
returns-in_default c = let both = perform_said_lem _ _ _ _ _ _ _ _ _ (λ rest. search performs_none) in record { room_after = both.0; result_value = both.1 }
