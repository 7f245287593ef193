-- 01, "Reading the line": "reports are then asked for one at a time until the answer is 'nothing'": it comes, and so every line can be given.
use mathlib.Core.Path.{◌≡◌, refl, ap, ◌∙◌}
use mathlib.Core.Bool.{Bool, true, false}
use mathlib.Core.List.{List, [], ◌∷◌, ◌++◌}
use Prim.Native.Nat.{ℕ, zero, suc, ◌≤◌, ◌<◌}
use native.Mathlib.Nat.{le_refl}
use native.Mathlib.Omega.{arith}
use lib.ListN.{length}
use Rattle.reading.specs.Place.{Rules}
use Rattle.reading.specs.Line.{Input}
use Rattle.reading.specs.Moves.{Kept, waiting, after_report}
use Rattle.reading.specs.Run.{Event, offer, Ran, giving, followed, with_input, run, asks}
use Rattle.reading.proofs.Moves.{nothing_changes, report_shorter}
use Rattle.reading.proofs.Run.{run_append}

still_quiet : (rules : Rules) (n : ℕ) (kept : Kept) → waiting rules kept ≡ false → (run rules kept (asks n)).kept ≡ kept
unfolding run asks
still_quiet rules zero kept quiet = refl
still_quiet rules (suc n) kept quiet =
    let same = nothing_changes rules kept quiet in
    ap (λ (k : Kept). (run rules k (asks n)).kept) same ∙ still_quiet rules n kept quiet

-- asking comes to an end: each report takes bytes away
pub asks_end : (rules : Rules) (n : ℕ) (kept : Kept) → length kept.bytes ≤ n → waiting rules (run rules kept (asks n)).kept ≡ false
unfolding run asks
asks_end rules zero kept within = go (waiting rules kept) refl
  where
    go : (b : Bool) → waiting rules kept ≡ b → b ≡ false
    go true waits = let less : length (after_report rules kept).bytes < length kept.bytes = report_shorter rules kept waits in absurd (omega arith)
    go false quiet = refl
asks_end rules (suc n) kept within = go (waiting rules kept) refl (asks_end rules n (after_report rules kept))
  where
    next : Kept
    next = (run rules (after_report rules kept) (asks n)).kept

    go : (b : Bool) → waiting rules kept ≡ b → (length (after_report rules kept).bytes ≤ n → waiting rules next ≡ false) → waiting rules next ≡ false
    go true waits rest = let less : length (after_report rules kept).bytes < length kept.bytes = report_shorter rules kept waits in rest (omega arith)
    go false quiet rest = ap (waiting rules) (still_quiet rules (suc n) kept quiet) ∙ quiet

asks_give_nothing : (rules : Rules) (n : ℕ) (kept : Kept) → (run rules kept (asks n)).given ≡ []
unfolding run asks
asks_give_nothing rules zero kept = refl
asks_give_nothing rules (suc n) kept = asks_give_nothing rules n (after_report rules kept)

-- an input offered while no report waits, and then asks until none does
offered_and_asked : (rules : Rules) (kept : Kept) (input : Input) (n : ℕ) (later : List Event) → waiting rules kept ≡ false
    → run rules kept (offer input ∷ (asks n ++ later))
    ≡ giving input (followed (run rules (with_input rules kept input) (asks n)) (run rules (run rules (with_input rules kept input) (asks n)).kept later))
unfolding run
offered_and_asked rules kept input n later quiet = rw quiet (ap (giving input) (run_append rules (with_input rules kept input) (asks n) later))

-- so every line can be given, from every state in which no report waits
pub can_be_given : (rules : Rules) (kept : Kept) (line : List Input) → waiting rules kept ≡ false
    → (events : List Event) × ((run rules kept events).given ≡ line) × (waiting rules (run rules kept events).kept ≡ false)
unfolding run
can_be_given rules kept [] quiet = ([], refl, quiet)
can_be_given rules kept (input ∷ line) quiet =
    let next = with_input rules kept input in
    let n = length next.bytes in
    let asked = run rules next (asks n) in
    let rest = can_be_given rules asked.kept line (asks_end rules n next (le_refl n)) in
    let all = offered_and_asked rules kept input n rest.0 quiet in
    let none_given : asked.given ≡ [] = asks_give_nothing rules n next in (
      offer input ∷ (asks n ++ rest.0),
      ap (λ (r : Ran). r.given) all ∙ ap (λ (l : List Input). input ∷ l) (rw none_given rest.1),
      ap (λ (r : Ran). waiting rules r.kept) all ∙ rest.2,
    )
