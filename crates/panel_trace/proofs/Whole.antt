-- The last line in the room; and what an input that was read to its end comes to: its texts and the line of its end are what 01 prints for it.
use mathlib.Core.Path.{◌≡◌, refl, sym, ap, subst, ◌∙◌}
use mathlib.Core.Bool.{true, ◌&&◌}
use mathlib.Core.List.{List, [], ◌++◌, append-nil}
use Prim.Native.Nat.{ℕ, ◌≤◌}
use native.Mathlib.Omega.{arith}
use borrow.Author.Tests.{le-leb}
use lib.Dec.{leb}
use lib.ListN.{length, take, length-append}
use Rattle.wire.specs.Room.{over}
use Rattle.wire.proofs.Over.{take_over}
use Rattle.telling.specs.Told.{least_text}
use Rattle.trace.specs.declared.Ended.{Ended}
use Rattle.trace.specs.declared.Trace.{Trace}
use Rattle.items.specs.Stages.{is_over}
use Rattle.items.specs.Records.{table_bytes}
use Rattle.trace.specs.State.{Held}
use Rattle.trace.specs.Output.{end_text, Ending, ends, ending, trace_output}
use Rattle.printing.specs.Reached.{HeldSound}
use Rattle.printing.proofs.ByTest.{by_test}
use Rattle.printing.proofs.Outputs.{end_output, over_output}
use Rattle.panel_trace.specs.Program.{ReadSoFar}

fits : (trace : Trace) (table room : List ℕ) → (ending trace table room).ended.count ≤ length (ending trace table room).room
unfolding ending over
fits trace table room =
    by_test (λ (s : Ending). s.ended.count ≤ length s.room) (leb table_bytes (length table) && leb least_text (length room)) _ _
    (λ lent. simp length-append (omega arith)) (λ refused. omega arith)

laid : (trace : Trace) (table room : List ℕ) → table_bytes ≤ length table → least_text ≤ length room
    → take (ending trace table room).ended.count (ending trace table room).room ≡ end_text trace table
unfolding ending
laid trace table room long lent =
    rw (le-leb table_bytes (length table) long, le-leb least_text (length room) lent) (take_over (end_text trace table) room (length (end_text trace table)) refl)

module _ (trace : Trace) (table room room' : List ℕ) (r : Ended) (e : ends r room' ≡ ending trace table room) where
  pub end_fits : r.count ≤ length room'
  end_fits = subst (λ (s : Ending). s.ended.count ≤ length s.room) (sym e) (fits trace table room)

  pub end_laid : table_bytes ≤ length table → least_text ≤ length room → take r.count room' ≡ end_text trace table
  end_laid long lent = subst (λ (s : Ending). take s.ended.count s.room ≡ end_text trace table) (sym e) (laid trace table room long lent)

pub read_whole : (held : Held) (reading : ReadSoFar held) → trace_output reading.input ≡ reading.text ++ end_text held.trace held.table
read_whole held reading =
    ap trace_output (sym (append-nil reading.input)) ∙ reading.prints [] ∙ ap (λ (l : List ℕ). reading.text ++ l) (end_output held reading.quiet)

-- "and the program stops": what was not read after an X changes nothing
pub stopped_whole : (held : Held) (reading : ReadSoFar held) (rest : List ℕ) → HeldSound held → is_over held.trace.stage ≡ true → trace_output (reading.input ++ rest) ≡ reading.text
stopped_whole held reading rest sound is = reading.prints rest ∙ ap (λ (l : List ℕ). reading.text ++ l) (over_output held rest sound is) ∙ append-nil reading.text
