-- `touch::records::first_of` meets its contract.
use mathlib.Core.Path.{◌≡◌}
use mathlib.Core.Bool.{Bool}
use Prim.Native.Nat.{◌/◌}
use lib.ListN.{length}
use Rattle.touch.specs.declared.Record.{Record}
use Rattle.touch.specs.Table.{record_bytes, records_of, first_of}
use Rattle.touch.proofs.TableAnswers.{picked}
use Rattle.touch.proofs.records.first_of.Given as goal

abbrev pub invariant-loop-i : goal.invariant-loop-i
invariant-loop-i g l =
    (test : Record → Bool) → ((r : Record) (b : Bool) → goal.F-post g l.picks r b → b ≡ test r)
    → first_of test 0 (records_of l.table) ≡ picked test l.table l.i (length l.table / record_bytes)
