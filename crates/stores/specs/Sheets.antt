-- What is claimed of the two scale sheets of 02, §5, said of numbers alone, so that the formulas can be held against it.
use Rattle.std.specs.Prelude.{◌≡◌, true, ◌⊎◌, ℕ, ◌+◌, ◌-◌, ◌*◌, ◌≤◌, ℤ}
use Rattle.std.specs.Int.Signed.{le_z}

-- "Both agree at the two edges": a place at the first edge or before it, at the last or behind it
abbrev pub AtEdge : (first last at : ℕ) → Type 0
AtEdge first last at = (at ≤ first) ⊎ (last ≤ at)

-- a word of ours: how far two numbers lie apart
abbrev pub apart : ℕ → ℕ → ℕ
apart a b = (a - b) + (b - a)

-- "to the nearest number, halves towards the end value": no number lies nearer to product / w than r does, and of two that lie equally near r is the
-- greater one, which is moved further towards the end; each taken w times
pub record Nearest (product w r : ℕ) : Type 0 where
  pub none_nearer : (n : ℕ) → apart (r * w) product ≤ apart (n * w) product
  pub greater_of_two : (n : ℕ) → apart (n * w) product ≡ apart (r * w) product → n ≤ r

-- a word of ours: a number between two others, whichever is greater
abbrev pub Between : (one other z : ℤ) → Type 0
Between one other z = ((le_z one z ≡ true) × (le_z z other ≡ true)) ⊎ ((le_z other z ≡ true) × (le_z z one ≡ true))

-- "moved from begin towards end": from one number to another, never back towards begin
abbrev pub Onward : (begin end from to : ℤ) → Type 0
Onward begin end from to = (le_z begin end ≡ true → le_z from to ≡ true) × (le_z end begin ≡ true → le_z to from ≡ true)
