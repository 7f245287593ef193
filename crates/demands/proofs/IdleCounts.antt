-- How many frames are accepted of a stretch by the build of specs/IdleBuilds that reads its first frame only.
use Rattle.std.specs.Prelude.{None, Some, Ok, Err}
use mathlib.Core.Path.{◌≡◌, refl, sym, ap, ◌∙◌}
use mathlib.Core.Bool.{Bool, true, false, cond, not, ◌&&◌, ◌||◌}
use mathlib.Core.List.{List, [], ◌∷◌, ◌++◌, map}
use Prim.Native.Nat.{ℕ, ◌+◌, ◌≤◌}
use native.Mathlib.Omega.{arith}
use lib.ListN.{length, length-append}
use Rattle.reading.specs.Place.{Report}
use Rattle.reading.specs.Line as Line
use Rattle.reading.specs.Line.{Input}
use Rattle.reading.specs.Demand3.{accepted_of}
use Rattle.reading.proofs.Stable.{never, true_is_not_false}
use Rattle.panel.specs.Answers.{AskAnswer}
use Rattle.panel.specs.declared.Handed.TheVariants as handed
use Rattle.panel.specs.declared.LentError.TheVariants as lent_error
use Rattle.panel.specs.Reporting.{reporting}
use Rattle.demands.specs.Calls.{Moment, Call, lend, byte, bytes, mark, second, ask, contact, lift, after, report_handed, handed_over}
use Rattle.demands.specs.Reports.{report_waits}
use Rattle.demands.specs.Given.{given, given_all}
use Rattle.demands.specs.IdleBuilds.{has_mark, has_some, has_accepted, LinePlace, between_stretches, moved, moved_by, hands_over_at}
use Rattle.demands.proofs.Builds.{accepted_then}

-- nothing comes behind a mark
unfoldable pub marks_last : List Input → Bool
marks_last [] = true
marks_last (Line.byte b ∷ inputs) = marks_last inputs
marks_last (Line.mark ∷ inputs) = not (has_some inputs)

pub stretch_ends : (stretch : List ℕ) → marks_last (map Line.byte stretch ++ (Line.mark ∷ [])) ≡ true
unfolding marks_last has_some
stretch_ends [] = refl
stretch_ends (b ∷ stretch) = stretch_ends stretch

last_on : (these more : List Input) → has_mark these ≡ false → marks_last (these ++ more) ≡ true → marks_last more ≡ true
unfolding marks_last has_mark
last_on [] more none last = last
last_on (Line.byte b ∷ these) more none last = last_on these more none last
last_on (Line.mark ∷ these) more none last = true_is_not_false none

last_ends : (these more : List Input) → has_mark these ≡ true → marks_last (these ++ more) ≡ true → more ≡ []
unfolding marks_last has_mark has_some
last_ends [] more one last = true_is_not_false (sym one)
last_ends (Line.byte b ∷ these) more one last = last_ends these more one last
last_ends (Line.mark ∷ these) more one last = go these more last
  where
    go : (xs ys : List Input) → not (has_some (xs ++ ys)) ≡ true → ys ≡ []
    go (x ∷ xs) ys last = true_is_not_false (sym last)
    go [] (y ∷ ys) last = true_is_not_false (sym last)
    go [] [] last = refl

both_empty : (these more : List Input) → these ++ more ≡ [] → (these ≡ []) × (more ≡ [])
both_empty [] more is = (refl, is)
both_empty (x ∷ these) more is = never cc

-- how many frames are accepted
abbrev pub counted : List Report → ℕ
counted reports = length (accepted_of reports)

pub counted_then : (these more : List Report) → counted (these ++ more) ≡ counted these + counted more
counted_then these more = ap (λ (l : List Report). length l) (accepted_then these more) ∙ length-append (accepted_of these) (accepted_of more)

-- a call hands over one report at most
one_handed : (h : AskAnswer) (payload : List ℕ) → counted (report_handed h payload) ≡ cond (has_accepted (report_handed h payload)) 1 0
unfolding report_handed accepted_of has_accepted
one_handed (Err lent_error.NotLent) payload = refl
one_handed (Err lent_error.WrongList) payload = refl
one_handed (Ok None) payload = refl
one_handed (Ok (Some (handed.BadCheck command acknowledged))) payload = refl
one_handed (Ok (Some (handed.Accepted command count outcome acknowledged replied))) payload = refl

one_counted : (now : Moment) (call : Call) → counted (handed_over now call) ≡ cond (has_accepted (handed_over now call)) 1 0
unfolding handed_over accepted_of has_accepted
one_counted now (lend lent) = refl
one_counted now (byte b) = refl
one_counted now (bytes bs) = refl
one_counted now mark = refl
one_counted now second = refl
one_counted now ask =
    let done = (reporting now.panel now.lent).reported in
    one_handed done.handed done.payload
one_counted now (contact c) = refl
one_counted now lift = refl

counted_here : (b : Bool) (now : Moment) (call : Call) → counted (cond b (handed_over now call) []) ≡ cond (b && has_accepted (handed_over now call)) 1 0
unfolding accepted_of
counted_here true now call = one_counted now call
counted_here false now call = refl

abbrev pub before_accepted : LinePlace → Bool
before_accepted at = at.entered && not at.accepted

-- what the first call brings, and the rest
counted_on : (now : Moment) (at : LinePlace) (call : Call) (calls : List Call)
    → counted (hands_over_at before_accepted now at (call ∷ calls))
    ≡ cond (before_accepted at && has_accepted (handed_over now call)) 1 0 + counted (hands_over_at before_accepted (after now call) (moved_by now at call) calls)
unfolding hands_over_at
counted_on now at call calls =
    let rest = hands_over_at before_accepted (after now call) (moved_by now at call) calls in
    counted_then (cond (before_accepted at) (handed_over now call) []) rest ∙ ap (λ (n : ℕ). n + counted rest) (counted_here (before_accepted at) now call)

-- the place behind a call that gives no input, one that gives bytes, one that gives a mark; and how many frames may be accepted there
module _ (past closed : Bool) where
  abbrev placed : (over entered accepted : Bool) → LinePlace
  placed over entered accepted = cond over between_stretches (record { past_first = past; entered = entered; closed = closed; accepted = accepted })

  without_input : (over entered accepted one : Bool)
      → cond ((entered && not accepted) && one) 1 0 + cond (before_accepted (placed over (entered || false) (accepted || one))) 1 0 ≤ cond (entered && not accepted) 1 0
  without_input true false accepted one = omega arith
  without_input true true true one = omega arith
  without_input true true false true = omega arith
  without_input true true false false = omega arith
  without_input false false accepted one = omega arith
  without_input false true true one = omega arith
  without_input false true false true = omega arith
  without_input false true false false = omega arith

  with_mark : (over entered some accepted one : Bool)
      → cond ((entered && not accepted) && one) 1 0 + cond (before_accepted (placed over (entered || some) (accepted || one))) 1 0 ≤ cond accepted 0 1
  with_mark true false some true one = omega arith
  with_mark true false some false one = omega arith
  with_mark true true some true one = omega arith
  with_mark true true some false true = omega arith
  with_mark true true some false false = omega arith
  with_mark false false false true one = omega arith
  with_mark false false false false one = omega arith
  with_mark false false true true one = omega arith
  with_mark false false true false true = omega arith
  with_mark false false true false false = omega arith
  with_mark false true some true one = omega arith
  with_mark false true some false true = omega arith
  with_mark false true some false false = omega arith

with_bytes : (entered accepted one : Bool) → cond ((entered && not accepted) && one) 1 0 + cond (accepted || one) 0 1 ≤ cond accepted 0 1
with_bytes false true one = omega arith
with_bytes false false true = omega arith
with_bytes false false false = omega arith
with_bytes true true one = omega arith
with_bytes true false true = omega arith
with_bytes true false false = omega arith

-- no input comes any more
none_more : (now : Moment) (at : LinePlace) (calls : List Call) → given_all now calls ≡ []
    → counted (hands_over_at before_accepted now at calls) ≤ cond (before_accepted at) 1 0
unfolding given_all hands_over_at accepted_of moved has_some has_mark
none_more now at [] none = omega arith
none_more now at (call ∷ calls) none =
    let empty = both_empty (given now call) (given_all (after now call) calls) none in
    let one = has_accepted (handed_over now call) in
    let here = ap {B = ℕ} (λ (l : List Input). cond (before_accepted (moved at l (handed_over now call) (report_waits (after now call).panel))) 1 0) empty.0 in
    let rest = none_more (after now call) (moved_by now at call) calls empty.1 in
    let closed = at.closed || false in
    let sum = without_input at.past_first closed (closed && not (report_waits (after now call).panel)) at.entered at.accepted one in
    let parts = counted_on now at call calls in
    omega (arith, here, rest, sum, parts)

-- of what comes of a stretch, up to its mark, one is accepted at most, and none where one was before
pub at_most_one : (now : Moment) (at : LinePlace) (calls : List Call) → at.closed ≡ false → marks_last (given_all now calls) ≡ true
    → counted (hands_over_at before_accepted now at calls) ≤ cond at.accepted 0 1
unfolding given_all hands_over_at accepted_of moved
at_most_one now at [] unmarked last = omega arith
at_most_one now at (call ∷ calls) unmarked last =
    go (has_mark (given now call)) refl (λ still last. at_most_one (after now call) (moved_by now at call) calls still last)
  where
    waits : Bool
    waits = report_waits (after now call).panel

    one : Bool
    one = has_accepted (handed_over now call)

    some : Bool
    some = has_some (given now call)

    -- the place that the call leads to, by whether the present stretch is then closed
    next : Bool → LinePlace
    next closed =
        cond (closed && not waits) between_stretches
        (record { past_first = at.past_first; entered = at.entered || some; closed = closed; accepted = at.accepted || one })

    rest : List Report
    rest = hands_over_at before_accepted (after now call) (moved_by now at call) calls

    go : (m : Bool) → has_mark (given now call) ≡ m
        → ((moved_by now at call).closed ≡ false → marks_last (given_all (after now call) calls) ≡ true → counted rest ≤ cond (moved_by now at call).accepted 0 1)
        → counted (hands_over_at before_accepted now at (call ∷ calls)) ≤ cond at.accepted 0 1
    go false is later =
        let stands : moved_by now at call ≡ next false = ap next (ap (λ (b : Bool). b || has_mark (given now call)) unmarked ∙ is) in
        let few = later (ap (λ (p : LinePlace). p.closed) stands) (last_on (given now call) (given_all (after now call) calls) is last) in
        let left = ap {B = ℕ} (λ (p : LinePlace). cond p.accepted 0 1) stands in
        let sum = with_bytes at.entered at.accepted one in
        let parts = counted_on now at call calls in
        omega (arith, few, left, sum, parts)
    go true is later =
        let stands : moved_by now at call ≡ next true = ap next (ap (λ (b : Bool). b || has_mark (given now call)) unmarked ∙ is) in
        let few = none_more (after now call) (moved_by now at call) calls (last_ends (given now call) (given_all (after now call) calls) is last) in
        let left = ap {B = ℕ} (λ (p : LinePlace). cond (before_accepted p) 1 0) stands in
        let sum = with_mark at.past_first true (not waits) at.entered some at.accepted one in
        let parts = counted_on now at call calls in
        omega (arith, few, left, sum, parts)
