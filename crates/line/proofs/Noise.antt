-- Laws of bytes that cannot begin a frame, with nothing held: each is passed over as it comes.
use mathlib.Core.Path.{◌≡◌, refl, sym, ap, ◌∙◌}
use mathlib.Core.Bool.{Bool, true, false, cond, not, ◌&&◌}
use mathlib.Core.List.{List, [], ◌∷◌, ◌++◌}
use Prim.Native.Nat.{ℕ, suc, ◌+◌, ◌-◌, ◌≤◌, ◌<◌}
use native.Mathlib.Nat.{zero-add}
use native.Mathlib.Omega.{arith}
use native.Mathlib.Numerals.{one-add}
use borrow.Author.Tests.{eqb-true, not-true}
use lib.Dec.{eqb, ltb}
use lib.ListN.{length, get_or, take, drop, length-drop}
use lib.Seq.{drop-cons, drop-drop}
use Rattle.wire.proofs.Parts.{part_whole}
use Rattle.frame.specs.Frame.{header_bytes, longest_frame}
use Rattle.reading.specs.Place.{behind, look}
use Rattle.reading.specs.Moves.{is_pass, passes, still_closed, settled}
use Rattle.place.specs.declared.Look.{Look}
use Rattle.place.specs.declared.Look.TheVariants.{Wait}
use Rattle.place.proofs.Stops.{look_nothing}
use Rattle.line.specs.declared.Line.{Line}
use Rattle.line.specs.declared.Reader.{Reader}
use Rattle.line.specs.declared.Gave.{Gave}
use Rattle.line.specs.Inner.{opened, noise_length}
use Rattle.line.specs.State.{rules_for, padded, settled_reader}
use Rattle.line.specs.Methods.{takes, given_byte, gave, plus, given_bytes}
use Rattle.wire.proofs.Truths.{and_left, and_right}
use Rattle.line.proofs.Feeding.{more_left, taking, plus_plus, given_is, head_free}

settled_passed : (line : Line) (b : ℕ) → eqb b line.header.h1 ≡ false → settled (rules_for line) false (b ∷ []) ≡ record { closed = false; bytes = [] }
unfolding settled passes is_pass look behind header_bytes still_closed
settled_passed line b other = rw other

passed_byte : (line : Line) (n : ℕ) (held : List ℕ) (b : ℕ) → n ≡ 0 → eqb b line.header.h1 ≡ false → held ≡ padded longest_frame (take n held)
    → settled_reader line false (take n held ++ (b ∷ [])) ≡ opened line held n Wait
passed_byte line n held b none other front =
    let empty : held ≡ padded longest_frame [] = front ∙ ap (λ (k : ℕ). padded longest_frame (take k held)) none in
    rw (none, empty, settled_passed line b other, look_nothing (rules_for line))

-- what is counted of bytes that begin with this one
noise_step : (h1 x : ℕ) (xs : List ℕ) → noise_length h1 (x ∷ xs) ≡ cond (eqb x h1) 0 (suc (noise_length h1 xs))
unfolding noise_length
noise_step h1 x xs = go (eqb x h1) _
  where
    go : (b : Bool) (m : ℕ) → length (take (cond (not b) (1 + m) 0) (x ∷ xs)) ≡ cond b 0 (suc (length (take m xs)))
    go true m = refl
    go false m = rw (one-add m)

pub noise_le : (h1 : ℕ) (xs : List ℕ) → noise_length h1 xs ≤ length xs
unfolding noise_length
noise_le h1 [] = omega arith
noise_le h1 (x ∷ xs) = rw (noise_step h1 x xs) (go (eqb x h1) (noise_le h1 xs))
  where
    go : (b : Bool) → noise_length h1 xs ≤ length xs → cond b 0 (suc (noise_length h1 xs)) ≤ suc (length xs)
    go true h = omega arith
    go false h = omega arith

noise_fold : (line : Line) (xs : List ℕ) → given_bytes (opened line (padded longest_frame []) 0 Wait) xs
    ≡ plus (noise_length line.header.h1 xs) (given_bytes (opened line (padded longest_frame []) 0 Wait) (drop (noise_length line.header.h1 xs) xs))
unfolding given_bytes noise_length
noise_fold line [] = refl
noise_fold line (x ∷ xs) = rw (noise_step line.header.h1 x xs) (go (eqb x line.header.h1) refl (noise_fold line xs))
  where
    empty : Reader
    empty = opened line (padded longest_frame []) 0 Wait

    go : (b : Bool) → eqb x line.header.h1 ≡ b
        → given_bytes empty xs ≡ plus (noise_length line.header.h1 xs) (given_bytes empty (drop (noise_length line.header.h1 xs) xs))
        → given_bytes empty (x ∷ xs) ≡ plus (cond b 0 (suc (noise_length line.header.h1 xs)))
        (given_bytes empty (drop (cond b 0 (suc (noise_length line.header.h1 xs))) (x ∷ xs)))
    go true is ih = ap (λ (k : ℕ). gave k (given_bytes empty (x ∷ xs)).reader) (sym (zero-add (given_bytes empty (x ∷ xs)).used))
    go false is ih =
        let next : (given_byte empty x).reader ≡ empty = given_is empty x refl ∙ passed_byte line 0 (padded longest_frame []) x refl is refl in
        let k : ℕ = noise_length line.header.h1 xs in
        ap (λ (r : Reader). plus 1 (given_bytes r xs)) next ∙ ap (plus 1) ih ∙ plus_plus 1 k (given_bytes empty (drop k xs))
        ∙ ap (λ (n : ℕ). plus n (given_bytes empty (drop k xs))) (one-add k)

module _ (h1 : ℕ) (bytes : List ℕ) (i n k : ℕ) (t : Bool) (goes : (ltb i (length bytes) && t) ≡ true)
    (noise : (eqb n 0 && not (eqb (get_or bytes i 0) h1)) ≡ true) (is-k : k ≡ noise_length h1 (take (length bytes - i) (drop i bytes))) where
  noise_is : k ≡ noise_length h1 (drop i bytes)
  noise_is = is-k ∙ ap (noise_length h1) (part_whole bytes i)

  pub noise_inside : i + k ≤ length bytes
  noise_inside =
      let more : i < length bytes = more_left i (length bytes) t goes in
      omega (arith, noise_is, noise_le h1 (drop i bytes), length-drop i bytes)

  some_noise : 0 < k
  unfolding noise_length
  some_noise =
      let more : i < length bytes = more_left i (length bytes) t goes in
      let other : eqb (get_or bytes i 0) h1 ≡ false =
      not-true (eqb (get_or bytes i 0) h1) (and_right (eqb n 0) (not (eqb (get_or bytes i 0) h1)) noise) in
      rw (noise_is, drop-cons bytes i 0 more, noise_step h1 (get_or bytes i 0) (drop (suc i) bytes), other) (omega arith)

  pub noise_less : length bytes - (i + k) < length bytes - i
  noise_less = omega (arith, some_noise, noise_inside)

module _ (line : Line) (bytes : List ℕ) (i n k : ℕ) (held : List ℕ) (head : Look) (t : Bool) (start : Gave)
    (goes : (ltb i (length bytes) && t) ≡ true) (noise : (eqb n 0 && not (eqb (get_or bytes i 0) line.header.h1)) ≡ true)
    (is-k : k ≡ noise_length line.header.h1 (take (length bytes - i) (drop i bytes))) where
  pub fed_noise : t ≡ takes n head → held ≡ padded longest_frame (take n held) → start ≡ plus i (given_bytes (opened line held n head) (drop i bytes))
      → start ≡ plus (i + k) (given_bytes (opened line held n Wait) (drop (i + k) bytes))
  fed_noise is-t front so_far =
      let none : n ≡ 0 = eqb-true n 0 (and_left (eqb n 0) (not (eqb (get_or bytes i 0) line.header.h1)) noise) in
      let empty : held ≡ padded longest_frame [] = front ∙ ap (λ (m : ℕ). padded longest_frame (take m held)) none in
      let free : takes n head ≡ true = sym is-t ∙ taking i (length bytes) t goes in
      let more : i < length bytes = more_left i (length bytes) t goes in
      let any_head : given_bytes (opened line held n head) (drop i bytes) ≡ given_bytes (opened line held n Wait) (drop i bytes) =
      rw (drop-cons bytes i 0 more) (head_free line held n head (get_or bytes i 0) (drop (suc i) bytes) free) in
      let same : opened line held n Wait ≡ opened line (padded longest_frame []) 0 Wait = rw (empty, none) in
      let fold = noise_fold line (drop i bytes) in
      so_far
      ∙ ap (plus i) (any_head ∙ ap (λ (r : Reader). given_bytes r (drop i bytes)) same ∙ (rw (← noise_is line.header.h1 bytes i n k t goes noise is-k, drop-drop k i bytes) at fold))
      ∙ plus_plus i k (given_bytes (opened line (padded longest_frame []) 0 Wait) (drop (i + k) bytes))
      ∙ ap (λ (r : Reader). plus (i + k) (given_bytes r (drop (i + k) bytes))) (sym same)
