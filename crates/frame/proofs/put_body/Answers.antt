-- `frame::put_body` meets its contract.
use native.Mathlib.Omega.{arith}
use mathlib.Core.List.{List, ◌∷◌}
use Prim.Native.Nat.{ℕ, ◌+◌}
use lib.ListN.{length}
use Rattle.frame.proofs.Laying.{content_checked, command_laid}
use Rattle.frame.proofs.put_body.Goals as goal

pub returns : goal.returns
returns c =
    let a = c.args in
    let content : List ℕ = a.command ∷ a.payload.now in (
      c.put_check.ensures.0,
      content_checked a.checking (1 + length a.payload.now) content a.body.now _ _ (omega arith) (command_laid a.command a.payload.now a.body.now _ (omega arith) c.copy_from_slice.ensures.after) c.put_check.ensures.1,
    )
