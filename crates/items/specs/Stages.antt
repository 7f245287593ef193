-- 01, "The trace program": how far the input has come, and what may come then.
use Rattle.std.specs.Prelude.{ℕ, Bool, true, false, ◌&&◌, ◌||◌, eqb, leb}
use Rattle.items.specs.declared.Stage.{Stage}
use Rattle.items.specs.declared.Stage.TheVariants.{Bare, Ready, Started, Over}

-- "Start is made": whether it has been
unfoldable pub is_started : Stage → Bool
is_started Bare = false
is_started Ready = false
is_started Started = true
is_started Over = false

-- "and the program stops": whether it has
unfoldable pub is_over : Stage → Bool
is_over Bare = false
is_over Ready = false
is_over Started = false
is_over Over = true

-- "Setup comes first and once, records before any event; else 15, as for .. an unknown kind or no setup." 02, §6: "In the trace, kind 06 without a
-- body is the second and prints nothing": it is an event, so that it may come where the others may
unfoldable pub may_come : Stage → ℕ → Bool
may_come Bare kind = eqb kind 0
may_come Ready kind = leb 1 kind && leb kind 6
may_come Started kind = (leb 1 kind && leb kind 4) || eqb kind 6
may_come Over kind = false
