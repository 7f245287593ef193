-- Laws of the builds of specs/IdleBuilds that hand over at some places of the line only.
use mathlib.Core.Path.{◌≡◌, refl, sym, ap, ◌∙◌}
use mathlib.Core.Bool.{Bool, true, false, cond, not, ◌&&◌, ◌||◌}
use mathlib.Core.List.{List, [], ◌∷◌, ◌++◌, append_assoc}
use Rattle.reading.specs.Place.{Report}
use Rattle.reading.specs.Line as Line
use Rattle.reading.specs.Line.{Input}
use Rattle.reading.proofs.Stable.{true_is_not_false}
use Rattle.demands.specs.Calls.{Moment, Call, after, after_all, handed_over}
use Rattle.demands.specs.Reports.{report_waits}
use Rattle.demands.specs.Given.{given, given_all}
use Rattle.demands.specs.IdleBuilds.{has_mark, has_some, has_accepted, LinePlace, between_stretches, moved, moved_by, hands_over_at}

-- where these calls lead to
unfoldable pub place_after : Moment → LinePlace → List Call → LinePlace
place_after now at [] = at
place_after now at (call ∷ calls) = place_after (after now call) (moved_by now at call) calls

pub at_then : (here : LinePlace → Bool) (now : Moment) (at : LinePlace) (these more : List Call)
    → hands_over_at here now at (these ++ more) ≡ hands_over_at here now at these ++ hands_over_at here (after_all now these) (place_after now at these) more
unfolding hands_over_at after_all place_after
at_then here now at [] more = refl
at_then here now at (call ∷ these) more =
    rw (at_then here (after now call) (moved_by now at call) these more, append_assoc (cond (here at) (handed_over now call) []))

-- marks among inputs
mark_then : (these more : List Input) → has_mark (these ++ more) ≡ (has_mark these || has_mark more)
unfolding has_mark
mark_then [] more = refl
mark_then (Line.byte b ∷ these) more = mark_then these more
mark_then (Line.mark ∷ these) more = refl

pub mark_among : (before behind : List Input) → has_mark (before ++ (Line.mark ∷ behind)) ≡ true
unfolding has_mark
mark_among [] behind = refl
mark_among (Line.byte b ∷ before) behind = mark_among before behind
mark_among (Line.mark ∷ before) behind = refl

-- a stretch whose mark has come is not left before its reports are asked for
module _ (at : LinePlace) (inputs : List Input) (reports : List Report) where
  abbrev onward : (closed : Bool) → LinePlace
  onward closed = record { past_first = at.past_first; entered = at.entered || has_some inputs; closed = closed; accepted = at.accepted || has_accepted reports }

  closed_waits : (waits : Bool) → (moved at inputs reports waits).closed ≡ true → waits ≡ true
  unfolding moved
  closed_waits true is = refl
  closed_waits false is = true_is_not_false (sym (go (at.closed || has_mark inputs) is))
    where
      go : (closed : Bool) → (cond (closed && not false) between_stretches (onward closed)).closed ≡ true → false ≡ true
      go true is = is
      go false is = is

  past_stays : (waits : Bool) → at.past_first ≡ true → (moved at inputs reports waits).past_first ≡ true
  unfolding moved
  past_stays waits is = go ((at.closed || has_mark inputs) && not waits)
    where
      go : (over : Bool) → (cond over between_stretches (onward (at.closed || has_mark inputs))).past_first ≡ true
      go true = refl
      go false = is

  -- once a mark has come the first stretch is over, or its reports wait
  moved_some : (waits more : Bool) → (at.past_first || ((at.closed || has_mark inputs) || more)) ≡ true
      → ((moved at inputs reports waits).past_first || ((moved at inputs reports waits).closed || more)) ≡ true
  unfolding moved
  moved_some waits more some = go ((at.closed || has_mark inputs) && not waits)
    where
      go : (over : Bool)
          → ((cond over between_stretches (onward (at.closed || has_mark inputs))).past_first || ((cond over between_stretches (onward (at.closed || has_mark inputs))).closed || more)) ≡ true
      go true = refl
      go false = some

or_assoc : (a b c : Bool) → (a || (b || c)) ≡ ((a || b) || c)
or_assoc true b c = refl
or_assoc false b c = refl

-- the mark of the present stretch has come only while a report waits
abbrev pub WaitsWhereClosed : Moment → LinePlace → Type 0
WaitsWhereClosed now at = at.closed ≡ true → report_waits now.panel ≡ true

next_waits : (now : Moment) (at : LinePlace) (call : Call) → WaitsWhereClosed (after now call) (moved_by now at call)
next_waits now at call = closed_waits at (given now call) (handed_over now call) (report_waits (after now call).panel)

pub not_closed : (now : Moment) (at : LinePlace) (calls : List Call) → WaitsWhereClosed now at → report_waits (after_all now calls).panel ≡ false
    → (place_after now at calls).closed ≡ false
unfolding after_all place_after
not_closed now at [] waits none = go at.closed refl
  where
    go : (closed : Bool) → at.closed ≡ closed → at.closed ≡ false
    go true is = true_is_not_false (sym (waits is) ∙ none)
    go false is = is
not_closed now at (call ∷ calls) waits none = not_closed (after now call) (moved_by now at call) calls (next_waits now at call) none

-- a mark has come, and no report waits: the first stretch is over
pub past_after : (now : Moment) (at : LinePlace) (calls : List Call) → WaitsWhereClosed now at → report_waits (after_all now calls).panel ≡ false
    → (at.past_first || (at.closed || has_mark (given_all now calls))) ≡ true → (place_after now at calls).past_first ≡ true
unfolding after_all place_after given_all has_mark
past_after now at [] waits none some = go at.past_first at.closed refl refl some
  where
    go : (past closed : Bool) → at.past_first ≡ past → at.closed ≡ closed → (past || (closed || false)) ≡ true → at.past_first ≡ true
    go true closed is-past is-closed some = is-past
    go false true is-past is-closed some = true_is_not_false (sym (waits is-closed) ∙ none)
    go false false is-past is-closed some = true_is_not_false (sym some)
past_after now at (call ∷ calls) waits none some =
    let more = has_mark (given_all (after now call) calls) in
    let moves : (at.past_first || ((at.closed || has_mark (given now call)) || more)) ≡ true =
    ap (λ (b : Bool). at.past_first || b) (sym (ap (λ (b : Bool). at.closed || b) (mark_then (given now call) (given_all (after now call) calls)) ∙ or_assoc at.closed (has_mark (given now call)) more)) ∙ some in
    past_after (after now call) (moved_by now at call) calls (next_waits now at call) none
    (moved_some at (given now call) (handed_over now call) (report_waits (after now call).panel) more moves)

-- behind it nothing is handed over by what reads the first stretch
pub none_past : (now : Moment) (at : LinePlace) (calls : List Call) → at.past_first ≡ true
    → hands_over_at (λ (p : LinePlace). not p.past_first) now at calls ≡ []
unfolding hands_over_at
none_past now at [] past = refl
none_past now at (call ∷ calls) past =
    let next = moved_by now at call in
    let stays = past_stays at (given now call) (handed_over now call) (report_waits (after now call).panel) past in
    let rest = hands_over_at (λ (p : LinePlace). not p.past_first) (after now call) next calls in
    ap (λ (b : Bool). cond (not b) (handed_over now call) [] ++ rest) past ∙ none_past (after now call) next calls stays
