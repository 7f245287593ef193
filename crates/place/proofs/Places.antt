-- Laws of what stands at a place: one for each way the code answers.
use mathlib.Core.Path.{◌≡◌, refl, sym, ap, ◌∙◌}
use mathlib.Core.Bool.{Bool, true, false, ◌&&◌}
use mathlib.Core.List.{List, [], ◌∷◌}
use Prim.Native.Nat.{ℕ, ◌+◌, ◌-◌, ◌*◌, ◌/◌, ◌%◌, ◌≤◌, ◌<◌}
use native.Mathlib.Nat.{add-zero}
use native.Mathlib.Omega.{arith}
use borrow.Author.Rules.{rules}
use borrow.Author.Tests.{lt-ltb, le-ltb, eq-eqb, ne_eqb}
use lib.Dec.{eqb}
use lib.ListN.{length, get_or, take, drop}
use lib.Seq.{get_or-drop}
use Rattle.std.proofs.lemmas.Bool.Decides.{nat_tests}
use Rattle.wire.specs.Bytes.{Bytes}
use Rattle.wire.proofs.Over.{right_false}
use Rattle.wire.proofs.Parts.{part_whole}
use Rattle.check_value.specs.CheckValue.{check_value, check_from}
use Rattle.frame.specs.Frame.{header_bytes, check_length, least_length, right_check}
use Rattle.frame.specs.declared.Header.{Header}
use Rattle.reading.specs.Place.{cut_short, decided_by_check, after_header, behind, look}
use Rattle.place.specs.declared.Look.{Look}
use Rattle.place.specs.declared.Look.TheVariants.{Pass, Wait, Bad, Good}
use Rattle.place.specs.Looks.{rules_of, shown}

pub cut_closed : (closed : Bool) → closed ≡ true → Pass ≡ shown (cut_short closed)
unfolding cut_short
cut_closed closed is = rw is

pub cut_open : (closed : Bool) → closed ≡ false → Wait ≡ shown (cut_short closed)
unfolding cut_short
cut_open closed is = rw is

-- the check bytes, read as one number
as_one : (low high value : ℕ) → low < 256 → eqb (low + high * 256) value ≡ (eqb low (value % 256) && eqb high (value / 256))
as_one low high value small = grind (arith, nat_tests)

pub check_compared : (checking : Bool) (value read : ℕ) (body content sent : List ℕ) → checking ≡ true → Bytes body
    → content ≡ take (length body - 2) body → sent ≡ drop (length body - 2) body → value ≡ check_value content
    → read ≡ get_or sent 0 0 + get_or sent 1 0 * 256 → eqb read value ≡ right_check checking body
unfolding right_check
check_compared checking value read body content sent on are is-content is-sent is-value is-read =
    let n = length body - 2 in
    let first : get_or sent 0 0 ≡ get_or body n 0 = rw (is-sent, get_or-drop n body 0 0, add-zero n) in
    let second : get_or sent 1 0 ≡ get_or body (n + 1) 0 = rw (is-sent, get_or-drop n body 1 0) in
    rw (on, is-read, first, second, is-value, is-content) (as_one (get_or body n 0) (get_or body (n + 1) 0) (check_value (take n body)) (are n))

-- no check bytes at all, and no more than one, are wrong ones
pub check_cut : (checking : Bool) (body : List ℕ) → checking ≡ true → length body < 2 → false ≡ right_check checking body
unfolding right_check check_value check_from
check_cut checking [] on short = rw on
check_cut checking (x ∷ []) on short = rw on (sym (right_false (eqb x 255) false refl))
check_cut checking (x ∷ y ∷ body) on short = absurd (omega arith)

pub check_off : (checking : Bool) (body : List ℕ) → checking ≡ false → true ≡ right_check checking body
unfolding right_check
check_off checking body off = rw off

-- a whole frame
module _ (checking : Bool) (l : ℕ) (body : List ℕ) (right : Bool) (is_right : right ≡ right_check checking body) where
  pub check_good : right ≡ true → length body ≡ l → Good l ≡ shown (decided_by_check checking body)
  unfolding decided_by_check
  check_good good long = rw (sym is_right ∙ good) (ap Good (sym long))

  pub check_bad : (command : ℕ) → right ≡ false → command ≡ get_or body 0 0 → Bad command ≡ shown (decided_by_check checking body)
  unfolding decided_by_check
  check_bad command wrong is = rw (sym is_right ∙ wrong) (ap Bad is)

-- behind the header
module _ (checking closed : Bool) where
  pub behind_empty : (s : List ℕ) (r : Look) → length s < 1 → r ≡ shown (cut_short closed) → r ≡ shown (after_header checking closed s)
  unfolding after_header
  behind_empty [] r none is = is
  behind_empty (x ∷ s) r none is = absurd (omega arith)

  module _ (s : List ℕ) (l n c : ℕ) (some : 1 ≤ length s) (is-l : l ≡ get_or s 0 0) (is-n : n ≡ l) (is_c : c ≡ check_length checking) where
    pub length_low : n < 1 + c → Pass ≡ shown (after_header checking closed s)
    unfolding after_header least_length
    length_low low = go s some is-l
      where
        go : (s : List ℕ) → 1 ≤ length s → l ≡ get_or s 0 0 → Pass ≡ shown (after_header checking closed s)
        go [] some is = absurd (omega arith)
        go (x ∷ xs) some is =
            let small : x < 1 + check_length checking = omega arith in
            rw (lt-ltb x (1 + check_length checking) small)

    pub frame_cut : (r : Look) → 1 + c ≤ n → length s - 1 < n → r ≡ shown (cut_short closed) → r ≡ shown (after_header checking closed s)
    unfolding after_header least_length
    frame_cut r least cut is = go s some is-l cut
      where
        go : (s : List ℕ) → 1 ≤ length s → l ≡ get_or s 0 0 → length s - 1 < n → r ≡ shown (after_header checking closed s)
        go [] some is-l cut = absurd (omega arith)
        go (x ∷ xs) some is-l cut =
            let enough : 1 + check_length checking ≤ x = omega arith in
            let short : length xs < x = omega arith in
            rw (le-ltb x (1 + check_length checking) enough, lt-ltb (length xs) x short) is

    pub frame_whole : (r : Look) → 1 + c ≤ n → n ≤ length s - 1 → r ≡ shown (decided_by_check checking (take n (take (length s - 1) (drop 1 s))))
        → r ≡ shown (after_header checking closed s)
    unfolding after_header least_length
    frame_whole r least whole is = go s some is-l whole is
      where
        go : (s : List ℕ) → 1 ≤ length s → l ≡ get_or s 0 0 → n ≤ length s - 1 → r ≡ shown (decided_by_check checking (take n (take (length s - 1) (drop 1 s))))
            → r ≡ shown (after_header checking closed s)
        go [] some is-l whole is = absurd (omega arith)
        go (x ∷ xs) some is-l whole is =
            let enough : 1 + check_length checking ≤ x = omega arith in
            let long : x ≤ length xs = omega arith in
            let part : take n (take (length (x ∷ xs) - 1) (drop 1 (x ∷ xs))) ≡ take x xs = rw (part_whole (x ∷ xs) 1, is-n, sym is-l) refl in
            rw (le-ltb x (1 + check_length checking) enough, le-ltb (length xs) x long) (is ∙ ap (λ (body : List ℕ). shown (decided_by_check checking body)) part)

-- at a header byte
module _ (checking closed : Bool) (h : ℕ) (header : List ℕ) where
  pub header_cut : (s : List ℕ) (r : Look) → length s < 1 → r ≡ shown (cut_short closed) → r ≡ shown (behind checking closed (h ∷ header) s)
  unfolding behind
  header_cut [] r none is = is
  header_cut (x ∷ s) r none is = absurd (omega arith)

  pub header_same : (s : List ℕ) (r : Look) → 1 ≤ length s → get_or s 0 0 ≡ h
      → r ≡ shown (behind checking closed header (take (length s - 1) (drop 1 s))) → r ≡ shown (behind checking closed (h ∷ header) s)
  unfolding behind
  header_same [] r some same is = absurd (omega arith)
  header_same (x ∷ xs) r some same is =
      rw (eq-eqb x h same) (is ∙ ap (λ (l : List ℕ). shown (behind checking closed header l)) (part_whole (x ∷ xs) 1))

  pub header_other : (s : List ℕ) → 1 ≤ length s → (get_or s 0 0 ≡ h → ⊥) → Pass ≡ shown (behind checking closed (h ∷ header) s)
  unfolding behind
  header_other [] some other = absurd (omega arith)
  header_other (x ∷ xs) some other = rw (ne_eqb x h other)

pub last_same : (checking closed : Bool) (h : ℕ) (s : List ℕ) (r : Look) → 1 ≤ length s → get_or s 0 0 ≡ h
    → r ≡ shown (after_header checking closed (take (length s - 1) (drop 1 s))) → r ≡ shown (behind checking closed (h ∷ []) s)
unfolding behind
last_same checking closed h s r some same is = header_same checking closed h [] s r some same is

-- at the first header byte
module _ (header : Header) (checking closed : Bool) (s : List ℕ) where
  pub look_cut : (r : Look) → length s < 1 → r ≡ shown (cut_short closed) → r ≡ shown (look (rules_of header checking) closed s)
  unfolding look header_bytes
  look_cut r none is = header_cut checking closed header.h1 (header.h2 ∷ []) s r none is

  pub look_same : (r : Look) → 1 ≤ length s → get_or s 0 0 ≡ header.h1
      → r ≡ shown (behind checking closed (header.h2 ∷ []) (take (length s - 1) (drop 1 s))) → r ≡ shown (look (rules_of header checking) closed s)
  unfolding look header_bytes
  look_same r some same is = header_same checking closed header.h1 (header.h2 ∷ []) s r some same is

  pub look_other : 1 ≤ length s → (get_or s 0 0 ≡ header.h1 → ⊥) → Pass ≡ shown (look (rules_of header checking) closed s)
  unfolding look header_bytes
  look_other some other = header_other checking closed header.h1 (header.h2 ∷ []) s some other

pub ruleset places = (
  rules,
  cut_closed,
  cut_open,
  check_cut,
  check_off,
  check_good,
  check_bad,
  behind_empty,
  length_low,
  frame_cut,
  frame_whole,
  header_cut,
  last_same,
  header_other,
  look_cut,
  look_same,
  look_other,
)
