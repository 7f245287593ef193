-- What a step and the end are answered says the number that 01 gives.
use Rattle.std.specs.Prelude.{Ok, Err}
use mathlib.Core.Path.{◌≡◌, refl, ap, ◌∙◌}
use mathlib.Core.Bool.{Bool, true, false, cond, not, ◌&&◌}
use mathlib.Core.List.{List, [], ◌∷◌}
use Prim.Native.Nat.{ℕ}
use lib.Dec.{leb}
use lib.ListN.{length}
use Rattle.wire.specs.Numbers.{Said, says, first_said}
use Rattle.wire.specs.Room.{over}
use Rattle.telling.specs.Memory.{Memory}
use Rattle.telling.specs.Told.{least_text}
use Rattle.trace.specs.declared.Trace.{Trace}
use Rattle.trace.specs.declared.Stepped.{Stepped}
use Rattle.trace.specs.declared.Ended.{Ended}
use Rattle.trace.specs.declared.LentError.TheVariants.{NotLent}
use Rattle.items.specs.Records.{table_bytes}
use Rattle.trace.specs.State.{Held, is_lent}
use Rattle.trace.specs.Steps.{number_of_step, step_said, said_of_step, Step, step, Stepping, steps, step_done, stepping}
use Rattle.trace.specs.Output.{end_text, Ending, ends, ending, end_said, said_of_end}

abbrev said_by : Stepping → Said
said_by d = step_said d.stepped.answer d.stepped.used d.stepped.count

step_as_listed : (held : Held) (input room : List ℕ) → said_by (stepping held input room) ≡ said_of_step held input room
unfolding stepping said_of_step step_said number_of_step first_said
step_as_listed held input room = go (is_lent held room) (step held input)
  where
    go : (lent : Bool) (s : Step)
        → said_by (cond lent (step_done s room) (steps (record { answer = Err NotLent; used = 0; count = 0; trace = held.trace }) held.table held.memory room))
        ≡ cond (not lent) (says 14 []) (says 0 (s.used ∷ length s.shown.text ∷ []))
    go true s = refl
    go false s = refl

pub step_said_lem : (held : Held) (input room : List ℕ) (r : Stepped) (table : List ℕ) (memory : Memory) (left : List ℕ) → steps r table memory left ≡ stepping held input room
    → (steps r table memory left ≡ stepping held input room) × (step_said r.answer r.used r.count ≡ said_of_step held input room)
step_said_lem held input room r table memory left is = (is, ap said_by is ∙ step_as_listed held input room)

end_as_listed : (trace : Trace) (table room : List ℕ) → end_said (ending trace table room).ended.answer (ending trace table room).ended.count ≡ said_of_end trace table room
unfolding ending said_of_end end_said number_of_step first_said
end_as_listed trace table room = go (leb table_bytes (length table) && leb least_text (length room)) (end_text trace table)
  where
    ended : Bool → List ℕ → Ended
    ended lent text = (cond lent (ends (record { answer = Ok tt; count = length text }) (over text room)) (ends (record { answer = Err NotLent; count = 0 }) room)).ended

    go : (lent : Bool) (text : List ℕ) → end_said (ended lent text).answer (ended lent text).count ≡ cond (not lent) (says 14 []) (says 0 (length text ∷ []))
    go true text = refl
    go false text = refl

pub end_said_lem : (trace : Trace) (table room : List ℕ) (r : Ended) (left : List ℕ) → ends r left ≡ ending trace table room
    → (ends r left ≡ ending trace table room) × (end_said r.answer r.count ≡ said_of_end trace table room)
end_said_lem trace table room r left is = (is, ap (λ (d : Ending). end_said d.ended.answer d.ended.count) is ∙ end_as_listed trace table room)
