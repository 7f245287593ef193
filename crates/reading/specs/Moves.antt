-- 01, "Reading the line": "Bytes or marks are given one at a time; reports are then asked for one at a time until the answer is 'nothing'."
-- What a reader keeps between inputs, and its moves, over lists.
use Rattle.std.specs.Prelude.{ℕ, suc, Bool, true, false, cond, List, [], ◌∷◌, ◌++◌, drop}
use Rattle.reading.specs.Place.{Rules, Seen, pass, wait, bad, accepted, Report, look, report_of, gone_by}

-- what a reader keeps between inputs: the bytes not yet gone past, and whether a mark has closed their stretch
pub record Kept : Type 0 where
  pub closed : Bool
  pub bytes : List ℕ

-- "nothing is held or waiting": what a new reader keeps
abbrev pub fresh : Kept
fresh = record { closed = false; bytes = [] }

-- "go to p+1, nothing reported": whether a place is passed over
unfoldable pub is_pass : Seen → Bool
is_pass pass = true
is_pass wait = false
is_pass (bad body) = false
is_pass (accepted body) = false

-- "go to p+1, nothing reported": how many bytes at the front are passed over so before a place waits, reports, or there are no more
unfoldable pub passes : Rules → Bool → List ℕ → ℕ
passes rules closed [] = 0
passes rules closed (x ∷ xs) = cond (is_pass (look rules closed (x ∷ xs))) (suc (passes rules closed xs)) 0

-- "A quiet mark .. closes a stretch": one that is closed and gone through is over, and the next byte begins a new one
unfoldable pub still_closed : Bool → List ℕ → Bool
still_closed false xs = false
still_closed true [] = false
still_closed true (x ∷ xs) = true

-- what is kept of these bytes once all that is passed over has been
unfoldable pub settled : Rules → Bool → List ℕ → Kept
settled rules closed xs =
    let left = drop (passes rules closed xs) xs in
    record { closed = still_closed closed left; bytes = left }

-- "report a bad check"; "report an accepted frame": whether a place reports
unfoldable pub is_report : Seen → Bool
is_report pass = false
is_report wait = false
is_report (bad body) = true
is_report (accepted body) = true

-- "While one of them is left, a report waits"
unfoldable pub waiting : Rules → Kept → Bool
waiting rules kept = is_report (look rules kept.closed kept.bytes)

-- "Bytes or marks are given one at a time": a byte that is taken
unfoldable pub with_byte : Rules → Kept → ℕ → Kept
with_byte rules kept b = settled rules false (kept.bytes ++ (b ∷ []))

-- "A quiet mark .. closes a stretch.": a mark that is taken
unfoldable pub with_mark : Rules → Kept → Kept
with_mark rules kept = settled rules true kept.bytes

-- "reports are then asked for one at a time": the report that is handed over, if one waits
unfoldable pub handed : Rules → Kept → List Report
handed rules kept = report_of rules (look rules kept.closed kept.bytes)

-- "report a bad check .., go to p+1"; "report an accepted frame .., go to p+3+L"; "'Nothing' changes nothing": what is kept after an ask
unfoldable pub after_report : Rules → Kept → Kept
after_report rules kept =
    let seen = look rules kept.closed kept.bytes in
    cond (is_report seen) (settled rules kept.closed (drop (suc (gone_by rules seen)) kept.bytes)) kept
