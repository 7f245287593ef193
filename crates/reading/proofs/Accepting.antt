-- What is accepted: the good frames, and nothing else.
use mathlib.Core.Path.{◌≡◌, refl, sym, ap, ◌∙◌}
use mathlib.Core.Bool.{Bool, true, false, cond}
use mathlib.Core.List.{List, [], ◌∷◌, ◌++◌, append_assoc}
use Prim.Native.Nat.{ℕ, ◌≤◌}
use native.Mathlib.Omega.{arith}
use borrow.Author.Tests.{ltb-false, le-ltb, eqb-true, eq-eqb}
use lib.Dec.{eqb, ltb}
use lib.ListN.{length, get_or, take, drop, length-append, take-append-drop}
use lib.Seq.{take-append_seam, get_or-append_seam, length-take-le}
use Rattle.wire.specs.Bytes.{Bytes}
use Rattle.frame.specs.Frame.{least_length, right_check, GoodFrame}
use Rattle.reading.specs.Place.{Rules, pass, bad, accepted, cut_short, decided_by_check, after_header, behind, look}

check_right : (checking : Bool) (body : List ℕ) → right_check checking body ≡ true → decided_by_check checking body ≡ accepted body
unfolding decided_by_check
check_right checking body right = rw right

after_header_good : (checking closed : Bool) (body ys : List ℕ) → least_length checking ≤ length body → right_check checking body ≡ true
    → after_header checking closed (length body ∷ (body ++ ys)) ≡ accepted body
unfolding after_header
after_header_good checking closed body ys least right =
    let whole : length body ≤ length (body ++ ys) = simp length-append (omega arith) in
    rw (le-ltb (length body) (least_length checking) least, le-ltb (length (body ++ ys)) (length body) whole, take-append_seam body ys) (check_right checking body right)

behind_good : (checking closed : Bool) (header body ys : List ℕ) → least_length checking ≤ length body → right_check checking body ≡ true
    → behind checking closed header (header ++ (length body ∷ (body ++ ys))) ≡ accepted body
unfolding behind
behind_good checking closed [] body ys least right = after_header_good checking closed body ys least right
behind_good checking closed (h ∷ header) body ys least right = rw (eq-eqb h h refl) (behind_good checking closed header body ys least right)

-- a good frame is accepted, whatever follows
pub good_accepted : (rules : Rules) (closed : Bool) (frame ys : List ℕ) (good : GoodFrame rules.checking rules.header frame)
    → look rules closed (frame ++ ys) ≡ accepted good.body
unfolding look
good_accepted rules closed frame ys good =
    ap (λ (f : List ℕ). behind rules.checking closed rules.header (f ++ ys)) good.whole
    ∙ ap (behind rules.checking closed rules.header) (append_assoc rules.header (length good.body ∷ good.body) ys)
    ∙ behind_good rules.checking closed rules.header good.body ys good.least good.right

-- what an accepted place begins with
pub record Begun (checking : Bool) (header xs body : List ℕ) : Type 0 where
  pub rest : List ℕ
  pub parts : xs ≡ header ++ (length body ∷ (body ++ rest))
  pub least : least_length checking ≤ length body
  pub right : right_check checking body ≡ true

cut_short_accepts_none : {A : Type 0} (closed : Bool) (body : List ℕ) → cut_short closed ≡ accepted body → A
unfolding cut_short
cut_short_accepts_none false body is = cc
cut_short_accepts_none true body is = cc

check_accepted : (checking : Bool) (body body' : List ℕ) → decided_by_check checking body ≡ accepted body' → (right_check checking body ≡ true) × (body ≡ body')
unfolding decided_by_check
check_accepted checking body body' is = go (right_check checking body) refl is
  where
    go : (b : Bool) → right_check checking body ≡ b → cond b (accepted body) (bad body) ≡ accepted body' → (right_check checking body ≡ true) × (body ≡ body')
    go true right is = (right, cc)
    go false right is = cc

after_header_accepted : (checking closed : Bool) (xs body : List ℕ) → after_header checking closed xs ≡ accepted body → Begun checking [] xs body
unfolding after_header
after_header_accepted checking closed [] body is = cut_short_accepts_none closed body is
after_header_accepted checking closed (l ∷ xs) body is = go (ltb l (least_length checking)) (ltb (length xs) l) refl refl is
  where
    go : (a b : Bool) → ltb l (least_length checking) ≡ a → ltb (length xs) l ≡ b
        → cond a pass (cond b (cut_short closed) (decided_by_check checking (take l xs))) ≡ accepted body → Begun checking [] (l ∷ xs) body
    go true b at_least whole is = cc
    go false true at_least whole is = cut_short_accepts_none closed body is
    go false false at_least whole is =
        let right = check_accepted checking (take l xs) body is in
        let same : take l xs ≡ body = right.1 in
        let enough : l ≤ length xs = ltb-false (length xs) l whole in
        let long : length body ≡ l = ap length (sym same) ∙ length-take-le l xs enough in
        let fits : least_length checking ≤ l = ltb-false l (least_length checking) at_least in
        record {
          rest = drop l xs;
          parts = rw (long, ← same) (ap (λ (r : List ℕ). l ∷ r) (sym (take-append-drop l xs)));
          least = omega arith;
          right = rw same at right.0;
        }

behind_accepted : (checking closed : Bool) (header xs body : List ℕ) → behind checking closed header xs ≡ accepted body → Begun checking header xs body
unfolding behind
behind_accepted checking closed [] xs body is = after_header_accepted checking closed xs body is
behind_accepted checking closed (h ∷ header) [] body is = cut_short_accepts_none closed body is
behind_accepted checking closed (h ∷ header) (x ∷ xs) body is = go (eqb x h) refl (behind_accepted checking closed header xs body) is
  where
    go : (b : Bool) → eqb x h ≡ b → (behind checking closed header xs ≡ accepted body → Begun checking header xs body)
        → cond b (behind checking closed header xs) pass ≡ accepted body → Begun checking (h ∷ header) (x ∷ xs) body
    go true same rest is =
        let begun = rest is in
        let first : x ≡ h = eqb-true x h same in
        let parts : xs ≡ header ++ (length body ∷ (body ++ begun.rest)) = begun.parts in
        record { rest = begun.rest; parts = cc; least = begun.least; right = begun.right }
    go false same rest is = cc

pub accepted_begun : (rules : Rules) (closed : Bool) (xs body : List ℕ) → look rules closed xs ≡ accepted body
    → Begun rules.checking rules.header xs body
unfolding look
accepted_begun rules closed xs body is = behind_accepted rules.checking closed rules.header xs body is

-- what is accepted is a good frame: L is a byte
pub accepted_good : (rules : Rules) (closed : Bool) (xs body : List ℕ) → Bytes xs → look rules closed xs ≡ accepted body
    → GoodFrame rules.checking rules.header (rules.header ++ (length body ∷ body))
    × (rest : List ℕ) × (xs ≡ (rules.header ++ (length body ∷ body)) ++ rest)
accepted_good rules closed xs body are is =
    let header = rules.header in
    let begun = accepted_begun rules closed xs body is in
    let l : get_or xs (length header) 0 ≡ length body =
    ap (λ (s : List ℕ). get_or s (length header) 0) begun.parts ∙ get_or-append_seam header (length body) (body ++ begun.rest) 0 in (
      record { body = body; whole = refl; least = begun.least; most = omega (arith, are (length header)); right = begun.right },
      begun.rest,
      begun.parts ∙ sym (append_assoc header (length body ∷ body) begun.rest),
    )
