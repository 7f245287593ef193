-- `frame::put_enclosed` meets its contract.
use mathlib.Core.List.{List, ◌∷◌}
use Prim.Native.Nat.{ℕ}
use native.Mathlib.Omega.{arith}
use Rattle.frame.specs.Frame.{header_bytes}
use Rattle.frame.proofs.Laying.{length_enclosed, enclosed_laid}
use Rattle.frame.proofs.put_enclosed.Goals as goal

pub returns : goal.returns
returns c = let a = c.args in
    let prefix = c.put_prefix in
    let header = c.length-k in
    let body = c.put_body in
    let content : List ℕ = a.command ∷ a.payload.now in (
      omega (arith, length_enclosed a.checking (header_bytes a.header) a.l content, header.ensures.value, body.ensures.0),
      enclosed_laid a.checking (header_bytes a.header) a.l header.result content a.room.now _ _ header.ensures.value prefix.ensures body.ensures.1,
    )
