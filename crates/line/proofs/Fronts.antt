-- Laws of what the small functions answer.
use mathlib.Core.Path.{◌≡◌, sym, ap, ◌∙◌}
use mathlib.Core.Bool.{Bool}
use mathlib.Core.List.{List}
use Rattle.std.specs.Prelude.{Some}
use Prim.Native.Nat.{ℕ, ◌+◌, ◌-◌, ◌≤◌, ◌<◌}
use native.Mathlib.Omega.{arith}
use borrow.Author.Tests.{lt-ltb, le-ltb}
use lib.ListN.{length, get_or, take, drop, length-drop}
use lib.Seq.{length-take-le}
use Rattle.frame.specs.Frame.{check_length, content_of}
use Rattle.place.specs.declared.Look.{Look}
use Rattle.place.specs.declared.Look.TheVariants.{Good}
use Rattle.line.specs.declared.Report.TheVariants.{Accepted}
use Rattle.line.specs.Inner.{decided_at}
use Rattle.line.specs.Methods.{told}
use Rattle.line.proofs.Padding.{drop_take}

pub whole_known : (header xs : List ℕ) (h l : ℕ) → h ≡ length header → h < length xs → l ≡ get_or xs h 0 → h + 1 + l ≡ decided_at header xs
unfolding decided_at
whole_known header xs h l is inside is-l = rw (← is, lt-ltb h (length xs) inside, is-l)

pub whole_unknown : (header xs : List ℕ) (h : ℕ) → h ≡ length header → length xs ≤ h → 0 ≡ decided_at header xs
unfolding decided_at
whole_unknown header xs h is short = rw (← is, le-ltb h (length xs) short)

-- the data among the L bytes
content_long : (checking : Bool) (body : List ℕ) → length (drop 1 (content_of checking body)) ≡ length body - (1 + check_length checking)
unfolding content_of
content_long checking body =
    length-drop 1 (take (length body - check_length checking) body)
    ∙ omega (arith, length-take-le (length body - check_length checking) body (omega arith))

pub content_part : (checking : Bool) (body : List ℕ) (c end : ℕ) → c ≡ check_length checking → end ≡ length body - c
    → drop 1 (content_of checking body) ≡ take (end - 1) (drop 1 body)
unfolding content_of
content_part checking body c end is_c is-end =
    let same : length body - check_length checking ≡ end = omega arith in
    rw same (drop_take 1 end body)

pub told_good : (checking : Bool) (look : Look) (body : List ℕ) (l command n c : ℕ) → look ≡ Good l → command ≡ get_or body 0 0
    → c ≡ check_length checking → n ≡ length body - (1 + c) → Some (Accepted command n) ≡ told checking look body
told_good checking look body l command n c is is-command is_c is-n =
    let long : n ≡ length (drop 1 (content_of checking body)) = is-n ∙ ap (λ (k : ℕ). length body - (1 + k)) is_c ∙ sym (content_long checking body) in
    rw (is, is-command, long)
