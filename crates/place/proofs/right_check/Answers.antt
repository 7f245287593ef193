-- `place::right_check` meets its contract.
use native.Mathlib.Omega.{arith}
use Rattle.wire.specs.Bytes.{Bytes}
use Rattle.place.proofs.Places.{places, check_compared}
use Rattle.place.proofs.right_check.Goals as goal

pub returns-then-not-checking : goal.returns-then-not-checking
returns-then-not-checking c = search places

pub returns-in-Some : goal.returns-in-Some
returns-in-Some c =
    let parts = c.in-Some.ensures.cases in
    let are : Bytes c.args.body.now = λ i. omega (arith, c.type_inv.body i) in
    search (check_compared, parts.0, parts.1)

pub returns-in-None : goal.returns-in-None
returns-in-None c = search places
