-- The library called on an input, piece by piece, writes what the trace program prints for it; and every caller comes to the end.
use Rattle.std.specs.Prelude.{Ok}
use mathlib.Core.Path.{◌≡◌, refl, sym, ap, ◌∙◌}
use mathlib.Core.Logic.{◌⊎◌, inl, inr}
use mathlib.Core.Bool.{Bool, true, false, ◌&&◌, ◌||◌}
use mathlib.Core.List.{List, [], ◌∷◌, ◌++◌}
use Prim.Native.Nat.{ℕ, zero, suc, ◌+◌, ◌*◌, ◌≤◌, ◌<◌}
use native.Mathlib.Omega.{arith}
use borrow.Author.Tests.{eq-eqb, le-leb, leb-true, leb-false}
use lib.Dec.{leb}
use lib.ListN.{length, take, drop, length-append, take-append-drop}
use lib.Seq.{drop-append-le}
use Rattle.wire.specs.Bytes.{Bytes}
use Rattle.wire.specs.Addresses.{word_count}
use Rattle.curves.specs.Area.{curve_words}
use Rattle.wire.proofs.Over.{take_over}
use Rattle.reading.proofs.ByteLists.{bytes_nil, bytes_cons, bytes_append, bytes_drop}
use Rattle.wire.proofs.Truths.{never, or_left, or_right}
use Rattle.telling.specs.Told.{least_text}
use Rattle.items.specs.Stages.{is_started}
use Rattle.items.specs.Records.{table_bytes}
use Rattle.trace.specs.State.{Held, new_trace, waits, lent_to, is_lent}
use Rattle.trace.specs.Steps.{step, Stepping, stepping}
use Rattle.trace.specs.Output.{end_text, Ending, ending, new_held, trace_output}
use Rattle.printing.specs.Reached.{HeldSound, kept_by, output_from}
use Rattle.printing.specs.Feeding.{step_called, held_after, end_called, Fed, by_step, by_end, by_stop, Caller, calls, calls_each}
use Rattle.printing.proofs.ByTest.{by_test}
use Rattle.printing.proofs.HeldSound.{new_quiet, new_held_sound}
use Rattle.printing.proofs.Outputs.{quiet_output, end_output, over_output}
use Rattle.printing.proofs.Onward.{step_onward}

-- what a call of `step` that is done leaves
pub record CallOnward (held : Held) (chunk rest : List ℕ) (s : Stepping) : Type 0 where
  pub sound : HeldSound (held_after s)
  pub within : s.stepped.used ≤ length chunk
  pub prints : output_from held (chunk ++ rest) ≡ take s.stepped.count s.room ++ output_from (held_after s) (drop s.stepped.used chunk ++ rest)
  pub nearer : (waits held.trace ≡ true) ⊎ (0 < length chunk)
      → length (drop s.stepped.used chunk) * calls_each + kept_by (held_after s) < length chunk * calls_each + kept_by held

pub call_onward : (held : Held) (chunk rest room : List ℕ) → HeldSound held → Bytes chunk → (step_called held chunk room).stepped.answer ≡ Ok tt
    → CallOnward held chunk rest (step_called held chunk room)
unfolding stepping
call_onward held chunk rest room sound are =
    by_test (λ (s : Stepping). s.stepped.answer ≡ Ok tt → CallOnward held chunk rest s) (is_lent held room) _ _
    (λ lent done.
    let s = step held chunk in
    let on = step_onward held chunk rest sound are in
    record {
      sound = on.sound;
      within = on.within;
      prints = rw (take_over s.shown.text room (length s.shown.text) refl) on.prints;
      nearer = on.nearer;
    })
    (λ refused done. never (cc))

end_call : (held : Held) (room : List ℕ) → (end_called held room).ended.answer ≡ Ok tt
    → take (end_called held room).ended.count (end_called held room).room ≡ end_text held.trace held.table
unfolding ending
end_call held room =
    let text = end_text held.trace held.table in
    by_test (λ (e : Ending). e.ended.answer ≡ Ok tt → take e.ended.count e.room ≡ text)
    (leb table_bytes (length held.table) && leb least_text (length room)) _ _
    (λ lent done. take_over text room (length text) refl) (λ refused done. never (cc))

bytes_front : (xs ys : List ℕ) → Bytes (xs ++ ys) → Bytes xs
bytes_front [] ys are = bytes_nil
bytes_front (x ∷ xs) ys are = bytes_cons x xs (are 0) (bytes_front xs ys (λ i. are (suc i)))

bytes_behind : (xs ys : List ℕ) → Bytes (xs ++ ys) → Bytes ys
bytes_behind [] ys are = are
bytes_behind (x ∷ xs) ys are = bytes_behind xs ys (λ i. are (suc i))

bytes_left : (k : ℕ) (chunk rest : List ℕ) → Bytes (chunk ++ rest) → Bytes (drop k chunk ++ rest)
bytes_left k chunk rest are = bytes_append (drop k chunk) rest (bytes_drop k chunk (bytes_front chunk rest are)) (bytes_behind chunk rest are)

fed_prints : (held : Held) (input text : List ℕ) → HeldSound held → Bytes input → Fed held input text → text ≡ output_from held input
fed_prints _ _ _ sound are (by_end held room quiet done) = end_call held room done ∙ sym (end_output held quiet)
fed_prints _ _ _ sound are (by_stop held left is) = sym (over_output held left sound is)
fed_prints _ _ _ sound are (by_step held chunk rest room text done next) =
    let s = step_called held chunk room in
    let on = call_onward held chunk rest room sound (bytes_front chunk rest are) done in
    let later = fed_prints (held_after s) (drop s.stepped.used chunk ++ rest) text on.sound (bytes_left s.stepped.used chunk rest are) next in
    ap (λ (l : List ℕ). take s.stepped.count s.room ++ l) later ∙ sym on.prints

-- However an input is cut into pieces, and whatever rooms are lent, the calls write what the program prints.
pub feeding_prints : (input text : List ℕ) → Bytes input → Fed new_held input text → text ≡ trace_output input
unfolding new_held trace_output
feeding_prints input text are fed = fed_prints new_held input text new_held_sound are fed ∙ quiet_output new_held input new_quiet

new_keeps_none : kept_by new_held ≡ 0
unfolding new_held new_trace is_started
new_keeps_none = refl

-- ---- Every caller comes to the end

pub call_done : (held : Held) (chunk room : List ℕ) → HeldSound held → least_text ≤ length room → (step_called held chunk room).stepped.answer ≡ Ok tt
unfolding stepping lent_to
call_done held chunk room sound lent =
    rw (le-leb table_bytes (length held.table) sound.table, eq-eqb (length held.memory.words) word_count sound.memory.words, eq-eqb (length held.memory.curves) curve_words sound.memory.curves, le-leb least_text (length room) lent)

end_done : (held : Held) (room : List ℕ) → HeldSound held → least_text ≤ length room → (end_called held room).ended.answer ≡ Ok tt
unfolding ending
end_done held room sound lent = rw (le-leb table_bytes (length held.table) sound.table, le-leb least_text (length room) lent)

end_fed : (held : Held) (left room : List ℕ) → HeldSound held → least_text ≤ length room → waits held.trace ≡ false → leb 1 (length left) ≡ false
    → Fed held left (take (end_called held room).ended.count (end_called held room).room)
end_fed held [] room sound lent quiet none = by_end held room quiet (end_done held room sound lent)
end_fed held (x ∷ left) room sound lent quiet none = absurd (omega (arith, leb-false 1 (length (x ∷ left)) none))

some_handed : (k : ℕ) (left : List ℕ) → leb 1 (length left) ≡ true → 0 < length (take (suc k) left)
some_handed k [] some = absurd (omega (arith, leb-true 1 0 some))
some_handed k (x ∷ left) some = omega arith

module _ (held : Held) (left room text : List ℕ) (k : ℕ) (sound : HeldSound held) (are : Bytes left) (lent : least_text ≤ length room) where
  abbrev called : Stepping
  called = step_called held (take (suc k) left) room

  whole : take (suc k) left ++ drop (suc k) left ≡ left
  whole = take-append-drop (suc k) left

  are_handed : Bytes (take (suc k) left)
  are_handed = bytes_front (take (suc k) left) (drop (suc k) left) (rw whole are)

  on : CallOnward held (take (suc k) left) (drop (suc k) left) called
  on = call_onward held (take (suc k) left) (drop (suc k) left) room sound are_handed (call_done held (take (suc k) left) room sound lent)

  left_is : drop called.stepped.used left ≡ drop called.stepped.used (take (suc k) left) ++ drop (suc k) left
  left_is = ap (drop called.stepped.used) (sym whole) ∙ drop-append-le called.stepped.used (take (suc k) left) (drop (suc k) left) on.within

  step_fed : Fed (held_after called) (drop called.stepped.used left) text → Fed held left (take called.stepped.count called.room ++ text)
  step_fed next =
      let fed = by_step held (take (suc k) left) (drop (suc k) left) room text (call_done held (take (suc k) left) room sound lent) (rw left_is at next) in
      rw whole at fed

  step_nearer : (waits held.trace ≡ true) ⊎ (0 < length (take (suc k) left))
      → length (drop called.stepped.used left) * calls_each + kept_by (held_after called) < length left * calls_each + kept_by held
  step_nearer some =
      let long : length left ≡ length (take (suc k) left) + length (drop (suc k) left) = ap length (sym whole) ∙ length-append (take (suc k) left) (drop (suc k) left) in
      let behind : length (drop called.stepped.used left) ≡ length (drop called.stepped.used (take (suc k) left)) + length (drop (suc k) left) =
      ap length left_is ∙ length-append (drop called.stepped.used (take (suc k) left)) (drop (suc k) left) in
      omega (arith, on.nearer some)

calls_fed : (caller : Caller) (n : ℕ) (held : Held) (left : List ℕ) → HeldSound held → Bytes left → length left * calls_each + kept_by held < n
    → Fed held left (calls caller n held left)
unfolding calls
calls_fed caller zero held left sound are few = absurd (omega arith)
calls_fed caller (suc n) held left sound are few =
    let k = caller.more held left in
    let room = caller.room held left in
    let lent = caller.lent held left in
    let s = step_called held (take (suc k) left) room in
    let later = calls_fed caller n (held_after s) (drop s.stepped.used left) in
    by_test (Fed held left) (waits held.trace || leb 1 (length left)) _ _
    (λ going. step_fed held left room _ k sound are lent
    (later (on held left room [] k sound are lent).sound (bytes_drop s.stepped.used left are)
    (omega (arith, step_nearer held left room [] k sound are lent (some (waits held.trace) refl going)))))
    (λ over. end_fed held left room sound lent (or_left (waits held.trace) (leb 1 (length left)) over) (or_right (waits held.trace) (leb 1 (length left)) over))
  where
    some : (w : Bool) → waits held.trace ≡ w → (w || leb 1 (length left)) ≡ true
        → (waits held.trace ≡ true) ⊎ (0 < length (take (suc (caller.more held left)) left))
    some true is going = inl is
    some false is going = inr (some_handed (caller.more held left) left going)

-- Every caller's calls are done, and come to the end: `calls_each` for each byte of the input, and one, are enough.
pub every_caller_feeds : (caller : Caller) (input : List ℕ) → Bytes input → Fed new_held input (calls caller (suc (length input * calls_each)) new_held input)
every_caller_feeds caller input are = calls_fed caller (suc (length input * calls_each)) new_held input new_held_sound are (omega (arith, new_keeps_none))

pub every_caller_prints : (caller : Caller) (input : List ℕ) → Bytes input → calls caller (suc (length input * calls_each)) new_held input ≡ trace_output input
every_caller_prints caller input are = feeding_prints input (calls caller (suc (length input * calls_each)) new_held input) are (every_caller_feeds caller input are)
