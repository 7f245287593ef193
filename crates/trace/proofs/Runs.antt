-- Laws of a run of line bytes that is given to the panel.
use mathlib.Core.Path.{◌≡◌, ap}
use mathlib.Core.Bool.{Bool, true, false, cond}
use mathlib.Core.List.{List, [], ◌∷◌}
use Prim.Native.Nat.{ℕ, suc, ◌*◌, ◌≤◌}
use native.Mathlib.Omega.{arith}
use lib.ListN.{length}
use Rattle.line.specs.declared.Reader.{Reader}
use Rattle.line.specs.Methods.{busy, given_byte, gave, plus, given_bytes}
use Rattle.panel.specs.declared.Panel.{Panel}
use Rattle.panel.specs.declared.FedBytes.{FedBytes}
use Rattle.panel.specs.Inputs.{fed_bytes}
use Rattle.trace.specs.declared.Trace.{Trace}
use Rattle.trace.specs.State.{with_panel}
use Rattle.trace.specs.Steps.{longest_run, ran_bytes}

given_within : (reader : Reader) (bytes : List ℕ) → (given_bytes reader bytes).used ≤ length bytes
unfolding given_bytes
given_within reader [] = omega arith
given_within reader (b ∷ bytes) = go (busy reader) (given_within (given_byte reader b).reader bytes)
  where
    go : (stops : Bool) → (given_bytes (given_byte reader b).reader bytes).used ≤ length bytes
        → (cond stops (gave 0 reader) (plus 1 (given_bytes (given_byte reader b).reader bytes))).used ≤ suc (length bytes)
    go true within = omega arith
    go false within = omega arith

pub run_used : (panel : Panel) (bytes : List ℕ) (fed : FedBytes) → fed ≡ fed_bytes panel bytes → length bytes ≤ longest_run → fed.used ≤ longest_run
unfolding fed_bytes
run_used panel bytes fed is short =
    let same : fed.used ≡ (given_bytes panel.reader bytes).used = ap (λ (f : FedBytes). f.used) is in
    omega (arith, given_within panel.reader bytes)

pub run_given : (trace : Trace) (bytes : List ℕ) (fed : FedBytes) → fed ≡ fed_bytes trace.panel bytes
    → record { trace = with_panel trace fed.panel; used = fed.used * 2; count = 0 } ≡ ran_bytes trace bytes
unfolding ran_bytes
run_given trace bytes fed is = ap (λ (f : FedBytes). record { trace = with_panel trace f.panel; used = f.used * 2; count = 0 }) is
