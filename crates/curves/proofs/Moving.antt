-- Laws of the move of words down to the front of a channel's part.
use mathlib.Core.Path.{◌≡◌, refl, sym, ap, ◌∙◌}
use mathlib.Core.List.{List, ◌++◌}
use Prim.Native.Nat.{ℕ, ◌+◌, ◌-◌, ◌≤◌}
use native.Mathlib.Omega.{arith}
use lib.ListN.{length, get_or, take, drop, length-drop, take-append-drop}
use lib.Seq.{paste, length-take-le, get_or-drop, get_or-append-add}
use Rattle.wire.specs.Room.{over}

pub over_behind : (s room : List ℕ) (k : ℕ) → length s ≤ k → get_or (over s room) k 0 ≡ get_or room k 0
unfolding over
over_behind s room k behind =
    let i = k - length s in
    let far : length s + i ≡ k = omega arith in
    ap (λ (j : ℕ). get_or (s ++ drop (length s) room) j 0) (sym far)
    ∙ get_or-append-add s (drop (length s) room) i 0
    ∙ get_or-drop (length s) room i 0
    ∙ ap (λ (j : ℕ). get_or room j 0) far

-- words that stand where they shall
pub moved_nowhere : (old : List ℕ) (from end : ℕ) → from ≤ 0 → end ≤ length old → old ≡ over (take (end - from) (drop from old)) old
unfolding over
moved_nowhere old from end is fits =
    let none : from ≡ 0 = omega arith in
    let all : end - 0 ≡ end = omega arith in
    let long : length (take end old) ≡ end = length-take-le end old fits in
    rw (none, all, long) (sym (take-append-drop end old))

pub moved : (old : List ℕ) (from end : ℕ) → from ≤ end → end ≤ length old → paste old 0 (drop from old) (end - from) ≡ over (take (end - from) (drop from old)) old
unfolding over
moved old from end begins fits =
    let long : length (take (end - from) (drop from old)) ≡ end - from = length-take-le (end - from) (drop from old) (simp length-drop (omega arith)) in
    let all : 0 + (end - from) ≡ end - from = omega arith in
    rw (long, all) refl
