-- `curves::adding::add_all` meets its contract.
use Prim.Native.Nat.{◌-◌, ◌≤◌}
use mathlib.Core.Path.{◌≡◌}
use mathlib.Core.List.{◌∷◌}
use Rattle.curves.specs.Area.{channel_count, draws}
use Rattle.curves.specs.Rounds.{place_of}
use Rattle.curves.specs.Adding.{added_from}
use Rattle.curves.proofs.adding.add_all.Given as goal

abbrev pub invariant-loop-n : goal.invariant-loop-n
invariant-loop-n l = record {
  few : l.place ≤ l.n;
  place : l.place ≡ place_of l.mode l.n;
  added : added_from (l.mode ∷ l.bytes) 0 channel_count (draws l.initial.counts l.initial.area) ≡ added_from (l.mode ∷ l.bytes) l.n (channel_count - l.n) (draws l.counts l.area);
}
