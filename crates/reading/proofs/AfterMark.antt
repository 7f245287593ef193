-- Demand 3: "After a quiet mark and its reports, with checking on or off, reading goes on as from a new panel, and no premise is needed."
use mathlib.Core.Path.{◌≡◌, refl, sym, ap, ◌∙◌}
use mathlib.Core.Bool.{Bool, true, false}
use mathlib.Core.List.{List, [], ◌∷◌, ◌++◌}
use Prim.Native.Nat.{ℕ, zero, suc, ◌≤◌}
use lib.ListN.{length, drop}
use Rattle.reading.specs.Place.{Rules, look, gone_by}
use Rattle.reading.specs.Stretch.{reports}
use Rattle.reading.specs.Line.{Input, mark}
use Rattle.reading.specs.Moves.{Kept, fresh, passes, still_closed, settled, waiting, with_mark, after_report}
use Rattle.reading.specs.Run.{Event, followed, run, line_held, asks}
use Rattle.reading.proofs.Stable.{true_is_not_false}
use Rattle.reading.proofs.Course.{reports_nil}
use Rattle.reading.proofs.Lines.{held_behind_mark}
use Rattle.reading.proofs.Settling.{quiet_nil, settled_settled, settled_reports, settled_shorter}
use Rattle.reading.proofs.Moves.{nothing_changes, no_reports_quiet, report_settles}
use Rattle.reading.proofs.Run.{run_append, kept_is_held}
use Rattle.reading.proofs.Asking.{asks_end}

-- whatever was given before, and however inputs and asks were mixed: the last input given is a mark, and its reports have been handed over
pub after_mark : (rules : Rules) (events : List Event) (earlier : List Input) → (run rules fresh events).given ≡ earlier ++ (mark ∷ [])
    → waiting rules (run rules fresh events).kept ≡ false → (run rules fresh events).kept ≡ fresh
after_mark rules events earlier given quiet =
    kept_is_held rules events quiet
    ∙ ap (λ (l : List ℕ). record { closed = false; bytes = l }) (ap (line_held rules) given ∙ held_behind_mark rules earlier)

-- what follows goes as from a new reader
pub goes_on_as_new : (rules : Rules) (events later : List Event) → (run rules fresh events).kept ≡ fresh
    → run rules fresh (events ++ later) ≡ followed (run rules fresh events) (run rules fresh later)
goes_on_as_new rules events later is =
    run_append rules fresh events later ∙ ap (λ (k : Kept). followed (run rules fresh events) (run rules k later)) is

pub after_mark_as_new : (rules : Rules) (events : List Event) (earlier : List Input) (later : List Event)
    → (run rules fresh events).given ≡ earlier ++ (mark ∷ []) → waiting rules (run rules fresh events).kept ≡ false
    → run rules fresh (events ++ later) ≡ followed (run rules fresh events) (run rules fresh later)
after_mark_as_new rules events earlier later given quiet = goes_on_as_new rules events later (after_mark rules events earlier given quiet)

-- The same for every state, reached or not. What the settling of a closed stretch leaves is closed still, or as new.
abbrev FromClosed : Rules → Kept → Type 0
FromClosed rules kept = (xs : List ℕ) × (kept ≡ settled rules true xs)

pub from_closed_quiet : (rules : Rules) (xs : List ℕ) → waiting rules (settled rules true xs) ≡ false → settled rules true xs ≡ fresh
unfolding settled
from_closed_quiet rules xs quiet = go (drop (passes rules true xs) xs) ((settled_settled rules true xs).is_open quiet)
  where
    go : (ys : List ℕ) → still_closed true ys ≡ false → ◌≡◌ {A = Kept} (record { closed = still_closed true ys; bytes = ys }) fresh
    go [] is_open = λ i. record { closed = is_open i; bytes = [] }
    go (y ∷ ys) is_open = unfold still_closed in true_is_not_false is_open

from_closed_waits : (rules : Rules) (xs : List ℕ) → waiting rules (settled rules true xs) ≡ true → (settled rules true xs).closed ≡ true
unfolding settled
from_closed_waits rules xs waits = go (drop (passes rules true xs) xs) waits
  where
    go : (ys : List ℕ) → waiting rules (record { closed = still_closed true ys; bytes = ys }) ≡ true → still_closed true ys ≡ true
    go [] waits = true_is_not_false (sym waits ∙ quiet_nil rules (still_closed true []))
    go (y ∷ ys) waits = unfold still_closed in refl

from_closed_report : (rules : Rules) (kept : Kept) → FromClosed rules kept → FromClosed rules (after_report rules kept)
from_closed_report rules kept from = go (waiting rules kept) refl
  where
    go : (b : Bool) → waiting rules kept ≡ b → FromClosed rules (after_report rules kept)
    go false quiet = (from.0, nothing_changes rules kept quiet ∙ from.1)
    go true waits =
        let onward = drop (suc (gone_by rules (look rules kept.closed kept.bytes))) kept.bytes in
        let closed : kept.closed ≡ true = ap (λ (k : Kept). k.closed) from.1 ∙ from_closed_waits rules from.0 (ap (waiting rules) (sym from.1) ∙ waits) in
        (onward, report_settles rules kept waits ∙ ap (λ (c : Bool). settled rules c onward) closed)

from_closed_asks : (rules : Rules) (n : ℕ) (kept : Kept) → FromClosed rules kept → FromClosed rules (run rules kept (asks n)).kept
unfolding run asks
from_closed_asks rules zero kept from = from
from_closed_asks rules (suc n) kept from = from_closed_asks rules n (after_report rules kept) (from_closed_report rules kept from)

-- "A quiet mark .. closes a stretch": once its reports have been asked for until nothing waits, what is kept is what a new reader keeps
pub mark_then_fresh : (rules : Rules) (kept : Kept) (n : ℕ) → waiting rules (run rules (with_mark rules kept) (asks n)).kept ≡ false
    → (run rules (with_mark rules kept) (asks n)).kept ≡ fresh
unfolding with_mark
mark_then_fresh rules kept n quiet =
    let from = from_closed_asks rules n (settled rules true kept.bytes) (kept.bytes, refl) in
    from.1 ∙ from_closed_quiet rules from.0 (ap (waiting rules) (sym from.1) ∙ quiet)

-- a mark whose closing gives no report leaves as new at once
pub mark_no_report : (rules : Rules) (kept : Kept) → reports rules true kept.bytes ≡ [] → with_mark rules kept ≡ fresh
unfolding with_mark
mark_no_report rules kept none =
    let xs = kept.bytes in
    from_closed_quiet rules xs (no_reports_quiet rules (settled rules true xs) (settled_reports rules true xs ∙ none))

-- a second mark in a row does nothing
pub mark_on_fresh : (rules : Rules) → with_mark rules fresh ≡ fresh
mark_on_fresh rules = mark_no_report rules fresh (reports_nil rules true)

-- as many asks as bytes were kept are enough
pub mark_asked : (rules : Rules) (kept : Kept) → (run rules (with_mark rules kept) (asks (length kept.bytes))).kept ≡ fresh
mark_asked rules kept =
    let enough : length (with_mark rules kept).bytes ≤ length kept.bytes = unfold with_mark in settled_shorter rules true kept.bytes in
    mark_then_fresh rules kept (length kept.bytes) (asks_end rules (length kept.bytes) (with_mark rules kept) enough)
