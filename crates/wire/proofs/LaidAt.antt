-- Laws of `laid_at`: a list with a run laid over it, place by place, and the loop that lays it.
use mathlib.Core.Path.{◌≡◌, sym, ap, ◌∙◌}
use mathlib.Core.List.{List, ◌++◌, append_assoc}
use Prim.Native.Nat.{ℕ, suc, ◌+◌, ◌-◌, ◌≤◌, ◌<◌}
use native.Mathlib.Omega.{arith}
use lib.ListN.{length, get_or, set, take, drop, get_or-append, length-append, length-drop}
use lib.Seq.{length-take-le, drop_at, take-append_seam, get_or-append-add, get_or-take, get_or-drop, paste, paste-suc, take_all}
use Rattle.wire.specs.Room.{laid_at}

module _ (old run : List ℕ) (at : ℕ) (fits : at + length run ≤ length old) where
  abbrev put : List ℕ
  put = take at old ++ (run ++ drop (at + length run) old)

  front : length (take at old) ≡ at
  front = length-take-le at old (omega arith)

  pub laid_inside : (i : ℕ) → i < length run → get_or (laid_at at run old) (at + i) 0 ≡ get_or run i 0
  unfolding laid_at
  laid_inside i inside =
      ap (λ (k : ℕ). get_or put (k + i) 0) (sym front)
      ∙ get_or-append-add (take at old) (run ++ drop (at + length run) old) i 0
      ∙ get_or-append run (drop (at + length run) old) 0 i inside

  pub laid_before : (k : ℕ) → k < at → get_or (laid_at at run old) k 0 ≡ get_or old k 0
  unfolding laid_at
  laid_before k before =
      get_or-append (take at old) (run ++ drop (at + length run) old) 0 k (omega (arith, front)) ∙ get_or-take at old k 0 before

  pub laid_behind : (k : ℕ) → at + length run ≤ k → get_or (laid_at at run old) k 0 ≡ get_or old k 0
  unfolding laid_at
  laid_behind k behind =
      let i : ℕ = k - (at + length run) in
      let far : length (take at old) + (length run + i) ≡ k = omega (arith, front) in
      let far' : at + length run + i ≡ k = omega arith in
      ap (λ (j : ℕ). get_or put j 0) (sym far)
      ∙ get_or-append-add (take at old) (run ++ drop (at + length run) old) (length run + i) 0
      ∙ get_or-append-add run (drop (at + length run) old) i 0
      ∙ get_or-drop (at + length run) old i 0
      ∙ ap (λ (j : ℕ). get_or old j 0) far'

  pub length_laid_at : length (laid_at at run old) ≡ length old
  unfolding laid_at
  length_laid_at =
      length-append (take at old) (run ++ drop (at + length run) old)
      ∙ simp (length-append, length-drop) (omega (arith, front))

  -- the run itself, read back
  pub laid_run : take (length run) (drop at (laid_at at run old)) ≡ run
  unfolding laid_at
  laid_run =
      ap (take (length run)) (drop_at (take at old) (run ++ drop (at + length run) old) at front)
      ∙ take-append_seam run (drop (at + length run) old)

-- a loop that lays it element by element has laid `paste old at run i` after i turns
pub laid_more : (old run next : List ℕ) (at i n : ℕ) → next ≡ paste old at run i → length old ≡ n → at + length run ≤ n → i < length run
    → set next (at + i) (get_or run i 0) ≡ paste old at run (i + 1)
laid_more old run next at i n is long fits more =
    let one : i + 1 ≡ suc i = omega arith in
    rw (is, one) (paste-suc old at run i 0 (omega arith) more)

pub laid_all : (old run next : List ℕ) (at i : ℕ) → next ≡ paste old at run i → length run ≤ i → i ≤ length run → next ≡ laid_at at run old
unfolding laid_at
laid_all old run next at i is all all' =
    let end : i ≡ length run = omega arith in
    is ∙ rw (end, take_all (length run) run (omega arith)) (append_assoc (take at old) run (drop (at + length run) old))
