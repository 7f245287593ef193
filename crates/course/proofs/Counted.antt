-- Every byte given is passed over, inside an accepted frame, or still kept: at every moment, however inputs and asks are mixed.
use mathlib.Core.Path.{◌≡◌, refl, ap, ◌∙◌}
use mathlib.Core.Bool.{Bool, true, false, cond}
use mathlib.Core.List.{List, [], ◌∷◌, ◌++◌}
use Prim.Native.Nat.{ℕ, ◌+◌, ◌-◌, ◌≤◌, ◌<◌}
use native.Mathlib.Omega.{arith}
use lib.ListN.{length, length-append, length-drop}
use Rattle.reading.specs.Place.{Rules, look}
use Rattle.reading.specs.Line.{Input, byte, mark}
use Rattle.reading.specs.Moves.{Kept, fresh, settled, waiting, with_byte, with_mark, after_report}
use Rattle.reading.specs.Run.{Event, offer, ask, giving, with_input, run, line_held}
use Rattle.reading.proofs.Moves.{some_kept, nothing_changes}
use Rattle.reading.proofs.Run.{kept_is_held}
use Rattle.course.specs.Course.{stride, passed_in, inside_in, gone_past}
use Rattle.course.specs.Lines.{bytes_in}
use Rattle.course.specs.Steps.{settling, giving_byte, giving_mark, giving_input, ask_steps, steps_made}
use Rattle.course.proofs.Course.{gone_of, gone_inside}
use Rattle.course.proofs.Sums.{gone_parts}
use Rattle.course.proofs.Passing.{passes_gone, passes_within}
use Rattle.course.proofs.Settling.{settled_bytes}
use Rattle.course.proofs.Moves.{behind_report, behind_is, steps_of_ask, ask_no_steps}

module _ (rules : Rules) where
  -- the bytes before a move, and those that its steps go past and that are kept behind it
  settling_counts : (closed : Bool) (xs : List ℕ) → length xs ≡ gone_past rules (settling rules closed xs).steps + length (settled rules closed xs).bytes
  settling_counts closed xs =
      let gone = gone_past rules (settling rules closed xs).steps in
      let within : gone ≤ length xs = unfold settling in omega (arith, passes_within rules closed xs, passes_gone rules closed xs) in
      let left : length (settled rules closed xs).bytes ≡ length xs - gone = ap length (settled_bytes rules closed xs) ∙ length-drop gone xs in
      omega arith

  input_counts : (kept : Kept) (input : Input)
      → length kept.bytes + bytes_in (input ∷ []) ≡ gone_past rules (giving_input rules kept input).steps + length (with_input rules kept input).bytes
  unfolding giving_input with_input giving_byte giving_mark with_byte with_mark bytes_in
  input_counts kept (byte b) =
      let all = settling_counts false (kept.bytes ++ (b ∷ [])) in
      let long : length (kept.bytes ++ (b ∷ [])) ≡ length kept.bytes + 1 = length-append kept.bytes (b ∷ []) in
      omega arith
  input_counts kept mark = let all = settling_counts true kept.bytes in omega arith

  stride_within : (closed : Bool) (xs : List ℕ) → 0 < length xs → stride rules (look rules closed xs) ≤ length xs
  stride_within closed [] some = absurd (omega arith)
  stride_within closed (x ∷ xs) some = gone_inside rules closed x xs (look rules closed (x ∷ xs)) refl

  ask_counts : (kept : Kept) → length kept.bytes ≡ gone_past rules (ask_steps rules kept) + length (after_report rules kept).bytes
  unfolding gone_past
  ask_counts kept = go (waiting rules kept) refl
    where
      go : (b : Bool) → waiting rules kept ≡ b → length kept.bytes ≡ gone_past rules (ask_steps rules kept) + length (after_report rules kept).bytes
      go true waits =
          let s = stride rules (look rules kept.closed kept.bytes) in
          let some : 0 < length kept.bytes = some_kept rules kept.closed kept.bytes (unfold waiting in waits) in
          let within : s ≤ length kept.bytes = stride_within kept.closed kept.bytes some in
          let left : length (behind_report rules kept) ≡ length kept.bytes - s = length-drop s kept.bytes in
          let rest = settling_counts kept.closed (behind_report rules kept) in
          rw (steps_of_ask rules kept waits, behind_is rules kept waits) (omega arith)
      go false quiet = rw (ask_no_steps rules kept quiet, nothing_changes rules kept quiet) (omega arith)

  bytes_cons : (input : Input) (line : List Input) → bytes_in (input ∷ line) ≡ bytes_in (input ∷ []) + bytes_in line
  unfolding bytes_in
  bytes_cons (byte b) line = omega arith
  bytes_cons mark line = omega arith

  run_counts : (kept : Kept) (events : List Event)
      → length kept.bytes + bytes_in (run rules kept events).given ≡ gone_past rules (steps_made rules kept events) + length (run rules kept events).kept.bytes
  unfolding run steps_made bytes_in gone_past
  run_counts kept [] = omega arith
  run_counts kept (offer input ∷ events) = go (waiting rules kept) (run_counts kept events) (run_counts (with_input rules kept input) events)
    where
      go : (b : Bool)
          → length kept.bytes + bytes_in (run rules kept events).given ≡ gone_past rules (steps_made rules kept events) + length (run rules kept events).kept.bytes
          → length (with_input rules kept input).bytes + bytes_in (run rules (with_input rules kept input) events).given
          ≡ gone_past rules (steps_made rules (with_input rules kept input) events) + length (run rules (with_input rules kept input) events).kept.bytes
          → length kept.bytes + bytes_in (cond b (run rules kept events) (giving input (run rules (with_input rules kept input) events))).given
          ≡ gone_past rules (cond b (steps_made rules kept events) ((giving_input rules kept input).steps ++ steps_made rules (with_input rules kept input) events))
          + length (cond b (run rules kept events) (giving input (run rules (with_input rules kept input) events))).kept.bytes
      go true refused rest = refused
      go false refused rest =
          let steps = (giving_input rules kept input).steps in
          let here = input_counts kept input in
          let one = bytes_cons input (run rules (with_input rules kept input) events).given in
          let all = gone_of rules false steps (steps_made rules (with_input rules kept input) events) in
          omega arith
  run_counts kept (ask ∷ events) =
      let here = ask_counts kept in
      let rest = run_counts (after_report rules kept) events in
      let all = gone_of rules false (ask_steps rules kept) (steps_made rules (after_report rules kept) events) in
      omega arith

-- from a new reader: at every moment the bytes given are those passed over, those inside accepted frames, and those kept
pub all_accounted : (rules : Rules) (events : List Event)
    → bytes_in (run rules fresh events).given
    ≡ passed_in (steps_made rules fresh events) + inside_in rules (steps_made rules fresh events) + length (run rules fresh events).kept.bytes
all_accounted rules events =
    let all = run_counts rules fresh events in
    let parts = gone_parts rules (steps_made rules fresh events) in
    omega arith

-- and once no report waits, what is kept is what is held
pub given_is_passed_inside_held : (rules : Rules) (events : List Event) → waiting rules (run rules fresh events).kept ≡ false
    → bytes_in (run rules fresh events).given
    ≡ passed_in (steps_made rules fresh events) + inside_in rules (steps_made rules fresh events) + length (line_held rules (run rules fresh events).given)
given_is_passed_inside_held rules events quiet =
    let held : length (run rules fresh events).kept.bytes ≡ length (line_held rules (run rules fresh events).given) =
    ap (λ (k : Kept). length k.bytes) (kept_is_held rules events quiet) in
    let all = all_accounted rules events in
    omega arith
