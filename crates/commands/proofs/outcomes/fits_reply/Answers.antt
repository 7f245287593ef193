-- `commands::outcomes::fits_reply` meets its contract.
use Rattle.std.proofs.Common.{arith, ◌+◌, ◌<◌, ◌≤◌}
use borrow.Author.Tests.{lt-ltb, le-ltb}
use Rattle.frame.specs.Frame.{check_length}
use Rattle.frame.proofs.Writers.{length_most}
use Rattle.commands.specs.Outcome.{reply_too_long}
use Rattle.commands.proofs.outcomes.fits_reply.Goals as goal

pub returns-then-most_data-payload-clause-outcome : goal.returns-then-most_data-payload-clause-outcome
unfolding reply_too_long
returns-then-most_data-payload-clause-outcome c =
    let a = c.args in
    let long : 255 < 1 + a.payload + check_length a.checking = omega (arith, length_most a.checking) in
    rw (lt-ltb 255 (1 + a.payload + check_length a.checking) long)

pub returns-clause-outcome : goal.returns-clause-outcome
unfolding reply_too_long
returns-clause-outcome c =
    let a = c.args in
    let short : 1 + a.payload + check_length a.checking ≤ 255 = omega (arith, length_most a.checking) in
    rw (le-ltb 255 (1 + a.payload + check_length a.checking) short)
