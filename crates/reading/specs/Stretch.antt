-- 01, "Reading the line": "Reading a stretch starts at its first byte", and goes from place to place.
use Rattle.std.specs.Prelude.{ℕ, zero, suc, Bool, false, cond, List, [], ◌∷◌, ◌++◌, map}
use Rattle.reading.specs.Place.{Rules, Report, look, report_of, gone_by, is_wait}

-- a report and the place, counted from the stretch's first byte, that it stands at
pub record Placed : Type 0 where
  pub place : ℕ
  pub report : Report

-- builds one
abbrev pub placed_at : ℕ → Report → Placed
placed_at p report = record { place = p; report = report }

-- "At a place p": the reports from there on, after n bytes that still belong to an accepted frame
unfoldable pub read_from : Rules → Bool → (p n : ℕ) → List ℕ → List Placed
read_from rules closed p n [] = []
read_from rules closed p zero (x ∷ xs) =
    let seen = look rules closed (x ∷ xs) in
    cond (is_wait seen) [] (map (placed_at p) (report_of rules seen) ++ read_from rules closed (suc p) (gone_by rules seen) xs)
read_from rules closed p (suc n) (x ∷ xs) = read_from rules closed (suc p) n xs

-- "Reading a stretch starts at its first byte.": each report with its place
unfoldable pub reading : Rules → Bool → List ℕ → List Placed
reading rules closed xs = read_from rules closed 0 0 xs

-- "At a place p": the same without the places, after n bytes that still belong to an accepted frame
unfoldable pub reports_from : Rules → Bool → ℕ → List ℕ → List Report
reports_from rules closed n [] = []
reports_from rules closed zero (x ∷ xs) =
    let seen = look rules closed (x ∷ xs) in
    cond (is_wait seen) [] (report_of rules seen ++ reports_from rules closed (gone_by rules seen) xs)
reports_from rules closed (suc n) (x ∷ xs) = reports_from rules closed n xs

-- "Reading a stretch starts at its first byte.": its reports
unfoldable pub reports : Rules → Bool → List ℕ → List Report
reports rules closed xs = reports_from rules closed 0 xs

-- "otherwise the bytes from the waiting place on are held", after n bytes that still belong to an accepted frame
unfoldable pub held_from : Rules → Bool → ℕ → List ℕ → List ℕ
held_from rules closed n [] = []
held_from rules closed zero (x ∷ xs) =
    let seen = look rules closed (x ∷ xs) in
    cond (is_wait seen) (x ∷ xs) (held_from rules closed (gone_by rules seen) xs)
held_from rules closed (suc n) (x ∷ xs) = held_from rules closed n xs

-- "in an open stretch wait": what is held of an open stretch, from its first byte on
unfoldable pub held_of : Rules → List ℕ → List ℕ
held_of rules xs = held_from rules false 0 xs
