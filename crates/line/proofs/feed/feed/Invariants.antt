-- `line::feed::feed` meets its contract. The loop's invariant: what the whole call gives is what is still to be given from here; and below the
-- length `need` the bytes held decide nothing.
use Prim.Native.Nat.{◌-◌, ◌≤◌}
use mathlib.Core.Path.{◌≡◌}
use lib.ListN.{length, take, drop}
use Rattle.frame.specs.Frame.{longest_frame}
use Rattle.place.specs.declared.Look.TheVariants.{Wait}
use Rattle.line.specs.Inner.{opened}
use Rattle.line.specs.State.{rules_for, padded}
use Rattle.line.specs.Methods.{plus, given_bytes}
use Rattle.line.proofs.Blindness.{Blind}
use Rattle.line.proofs.feed.feed.Given as goal

abbrev pub invariant-loop-i : goal.invariant-loop-i
invariant-loop-i l = (l.i ≤ length l.bytes) × (l.n ≤ longest_frame) × (l.need ≤ longest_frame) × (length l.held ≡ longest_frame) × (l.held ≡ padded longest_frame (take l.n l.held)) ×
    Blind (rules_for l.line) (take l.n l.held) l.need ×
    (given_bytes (opened l.line l.initial.held l.initial.n Wait) l.bytes ≡ plus l.i (given_bytes (opened l.line l.held l.n l.head) (drop l.i l.bytes)))

abbrev pub decreases-loop-i : goal.decreases-loop-i
decreases-loop-i l = length l.bytes - l.i
