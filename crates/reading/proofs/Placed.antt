-- The reports with their places are the reports alone, and each place is right.
use mathlib.Core.Path.{◌≡◌, refl, sym, ap, ◌∙◌}
use mathlib.Core.Bool.{Bool, true, false, cond}
use mathlib.Core.List.Memᴰ
use mathlib.Core.List.{List, [], ◌∷◌, ◌++◌, map, Memᴰ}
use mathlib.Core.Logic.{◌⊎◌, inl, inr}
use Prim.Native.Nat.{ℕ, zero, suc, ◌+◌}
use native.Mathlib.Omega.{arith}
use lib.ListN.{drop}
use Rattle.reading.specs.Place.{Rules, Seen, pass, wait, bad, accepted, Report, look, report_of, gone_by, is_wait}
use Rattle.reading.specs.Stretch.{Placed, placed_at, read_from, reading, reports_from, reports}

abbrev report_in : Placed → Report
report_in placed = placed.report

without_place : (p : ℕ) (these : List Report) (later : List Placed) → map report_in (map (placed_at p) these ++ later) ≡ these ++ map report_in later
without_place p [] later = refl
without_place p (report ∷ these) later = ap (λ (l : List Report). report ∷ l) (without_place p these later)

-- whatever place the count starts from
pub placed_from : (rules : Rules) (closed : Bool) (p n : ℕ) (xs : List ℕ)
    → map (λ (placed : Placed). placed.report) (read_from rules closed p n xs) ≡ reports_from rules closed n xs
unfolding read_from reports_from
placed_from rules closed p n [] = refl
placed_from rules closed p (suc n) (x ∷ xs) = placed_from rules closed (suc p) n xs
placed_from rules closed p zero (x ∷ xs) =
    let seen = look rules closed (x ∷ xs) in
    let gone = gone_by rules seen in
    go (is_wait seen) (report_of rules seen) (read_from rules closed (suc p) gone xs) (reports_from rules closed gone xs) (placed_from rules closed (suc p) gone xs)
  where
    go : (b : Bool) (these : List Report) (later : List Placed) (alone : List Report) → map report_in later ≡ alone
        → map report_in (cond b [] (map (placed_at p) these ++ later)) ≡ cond b [] (these ++ alone)
    go true these later alone same = refl
    go false these later alone same = without_place p these later ∙ ap (λ (l : List Report). these ++ l) same

pub placed : (rules : Rules) (closed : Bool) (xs : List ℕ)
    → map (λ (placed : Placed). placed.report) (reading rules closed xs) ≡ reports rules closed xs
unfolding reading reports
placed rules closed xs = placed_from rules closed 0 0 xs

-- a placed report stands k bytes into these, p being the first one's place
abbrev Stands : Rules → Bool → ℕ → List ℕ → Placed → Type 0
Stands rules closed p xs found = (k : ℕ) × (found.place ≡ p + k) × (report_of rules (look rules closed (drop k xs)) ≡ found.report ∷ [])

one_deeper : (rules : Rules) (closed : Bool) (p x : ℕ) (xs : List ℕ) (found : Placed) → Stands rules closed (suc p) xs found → Stands rules closed p (x ∷ xs) found
one_deeper rules closed p x xs found stands = let at = stands.1 in (suc stands.0, omega arith, stands.2)

-- of the reports that stand at one place: there is at most one
placed_here : (rules : Rules) (p : ℕ) (seen : Seen) (found : Placed) → Memᴰ found (map (placed_at p) (report_of rules seen))
    → (found.place ≡ p) × (report_of rules seen ≡ found.report ∷ [])
unfolding report_of
placed_here rules p pass found member = absurd (Memᴰ.not-nil member)
placed_here rules p wait found member = absurd (Memᴰ.not-nil member)
placed_here rules p (bad body) found member =
    let is = Memᴰ.eq_of_singleton member in
    (ap (λ (f : Placed). f.place) is, ap (λ (f : Placed). f.report ∷ []) (sym is))
placed_here rules p (accepted body) found member =
    let is = Memᴰ.eq_of_singleton member in
    (ap (λ (f : Placed). f.place) is, ap (λ (f : Placed). f.report ∷ []) (sym is))

in_either : {P : Type 0} (found : Placed) (b : Bool) (here later : List Placed) → (Memᴰ found here → P) → (Memᴰ found later → P)
    → Memᴰ found (cond b [] (here ++ later)) → P
in_either found true here later f g member = absurd (Memᴰ.not-nil member)
in_either {P} found false here later f g member = go (Memᴰ.append_cases here member)
  where
    go : Memᴰ found here ⊎ Memᴰ found later → P
    go (inl m) = f m
    go (inr m) = g m

stands_from : (rules : Rules) (closed : Bool) (p n : ℕ) (xs : List ℕ) (found : Placed) → Memᴰ found (read_from rules closed p n xs)
    → Stands rules closed p xs found
unfolding read_from
stands_from rules closed p n [] found member = absurd (Memᴰ.not-nil member)
stands_from rules closed p (suc n) (x ∷ xs) found member = one_deeper rules closed p x xs found (stands_from rules closed (suc p) n xs found member)
stands_from rules closed p zero (x ∷ xs) found member =
    let seen = look rules closed (x ∷ xs) in
    in_either found (is_wait seen) (map (placed_at p) (report_of rules seen)) (read_from rules closed (suc p) (gone_by rules seen) xs)
    (λ m. here (placed_here rules p seen found m))
    (λ m. one_deeper rules closed p x xs found (stands_from rules closed (suc p) (gone_by rules seen) xs found m))
    member
  where
    here : (found.place ≡ p) × (report_of rules (look rules closed (x ∷ xs)) ≡ found.report ∷ []) → Stands rules closed p (x ∷ xs) found
    here stands = let at = stands.0 in (0, omega arith, stands.1)

-- each report is the one of what stands at its place, counted from the stretch's first byte
pub place_is_right : (rules : Rules) (closed : Bool) (xs : List ℕ) (found : Placed) → Memᴰ found (reading rules closed xs)
    → report_of rules (look rules closed (drop found.place xs)) ≡ found.report ∷ []
unfolding reading
place_is_right rules closed xs found member =
    let stands = stands_from rules closed 0 0 xs found member in
    let at : found.place ≡ stands.0 = omega (arith, stands.1) in
    rw at stands.2
