-- Laws of sequences of calls: one sequence behind another, and the panels that are reached.
use Rattle.std.specs.Prelude.{Ok}
use mathlib.Core.Path.{◌≡◌, refl}
use mathlib.Core.List.{List, [], ◌∷◌, ◌++◌, append_assoc}
use Prim.Native.Nat.{ℕ, ◌<◌}
use Rattle.touch.specs.declared.Setup.{Setup}
use Rattle.panel.specs.Start.{started}
use Rattle.panel.specs.Reachable.{Reachable, by_start, by_byte, by_mark, by_second, by_bytes, by_report, by_contact, by_lift}
use Rattle.commands.specs.Lent.{Lent}
use Rattle.demands.specs.Calls.{Moment, Call, lend, byte, bytes, mark, second, ask, contact, lift, begun, after, after_all, handed_over, handed_over_all, Halfwords, Typed, AllTyped, Arises, from_start, by_call}

-- one sequence and then another
pub after_then : (now : Moment) (first next : List Call) → after_all now (first ++ next) ≡ after_all (after_all now first) next
unfolding after_all
after_then now [] next = refl
after_then now (call ∷ first) next = after_then (after now call) first next

pub handed_then_lem : (now : Moment) (first next : List Call)
    → handed_over_all now (first ++ next) ≡ handed_over_all now first ++ handed_over_all (after_all now first) next
unfolding after_all handed_over_all
handed_then_lem now [] next = refl
handed_then_lem now (call ∷ first) next =
    rw (handed_then_lem (after now call) first next, append_assoc (handed_over now call))

-- every call leaves a panel that can be reached from a start
pub call_reached : (now : Moment) (call : Call) → Typed call → Reachable now.panel → Reachable (after now call).panel
unfolding after Typed
call_reached now (lend lent) typed reached = reached
call_reached now (byte b) typed reached = by_byte now.panel b typed reached
call_reached now (bytes bs) typed reached = by_bytes now.panel bs typed reached
call_reached now mark typed reached = by_mark now.panel reached
call_reached now second typed reached = by_second now.panel reached
call_reached now ask typed reached = by_report now.panel now.lent reached
call_reached now (contact c) typed reached = by_contact now.panel c now.lent reached
call_reached now lift typed reached = by_lift now.panel reached

pub calls_reached : (now : Moment) (calls : List Call) → AllTyped calls → Reachable now.panel → Reachable (after_all now calls).panel
unfolding after_all AllTyped
calls_reached now [] typed reached = reached
calls_reached now (call ∷ calls) typed reached =
    calls_reached (after now call) calls typed.1 (call_reached now call typed.0 reached)

-- the moments that arise are those that sequences of calls lead to
pub calls_arise : (now : Moment) (calls : List Call) → AllTyped calls → Arises now → Arises (after_all now calls)
unfolding after_all AllTyped
calls_arise now [] typed arises = arises
calls_arise now (call ∷ calls) typed arises = calls_arise (after now call) calls typed.1 (by_call now call typed.0 arises)

pub sequence_arises : (setup : Setup) (table : List ℕ) (lent : Lent) → setup.h1 < 256 → setup.h2 < 256 → Halfwords lent.words
    → Halfwords lent.curves → (started setup table).answer ≡ Ok tt → (calls : List Call) → AllTyped calls → Arises (after_all (begun setup table lent) calls)
sequence_arises setup table lent h1 h2 are area is calls typed =
    calls_arise (begun setup table lent) calls typed (from_start setup table lent h1 h2 are area is)

pub arises_reachable : (now : Moment) → Arises now → Reachable now.panel
arises_reachable _ (from_start setup table lent h1 h2 are area is) = by_start setup table is
arises_reachable _ (by_call now call typed arises) = call_reached now call typed (arises_reachable now arises)
