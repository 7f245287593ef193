-- Laws of taking one byte behind those that are held.
use mathlib.Core.Path.{◌≡◌, sym, ap, ◌∙◌}
use mathlib.Core.List.{List, [], ◌∷◌, ◌++◌}
use Prim.Native.Nat.{ℕ, ◌+◌, ◌≤◌, ◌<◌}
use native.Mathlib.Omega.{arith}
use native.Mathlib.Numerals.{add-one}
use lib.ListN.{length, take, set, length-set, length-drop}
use lib.Seq.{take-suc-set, length-take-le}
use Rattle.frame.specs.Frame.{header_bytes, longest_frame}
use Rattle.reading.specs.Moves.{settled}
use Rattle.line.specs.declared.Line.{Line}
use Rattle.line.specs.declared.Rest.{Rest}
use Rattle.line.specs.declared.Step.{Step}
use Rattle.line.specs.Inner.{decided_at, left_of, rest_of, step_of}
use Rattle.line.specs.State.{padded}
use Rattle.line.proofs.Padding.{length_padded, take_padded, set_behind}

left_few : (line : Line) (xs : List ℕ) → length (left_of line xs) ≤ length xs
unfolding settled
left_few line xs = simp length-drop (omega arith)

module _ (n b : ℕ) (held : List ℕ) (room : n < longest_frame) (long : length held ≡ longest_frame) where
  stored : take (n + 1) (set held n b) ≡ take n held ++ (b ∷ [])
  stored = rw (add-one n) (take-suc-set held n b (omega arith))

  stored_long : length (take (n + 1) (set held n b)) ≡ n + 1
  stored_long = length-take-le (n + 1) (set held n b) (simp length-set (omega arith))

  pub stored_front : held ≡ padded longest_frame (take n held) → set held n b ≡ padded longest_frame (take (n + 1) (set held n b))
  stored_front front =
      let counted : length (take n held) ≡ n = length-take-le n held (omega arith) in
      ap (λ (l : List ℕ). set l n b) front ∙ set_behind longest_frame n b (take n held) counted room ∙ ap (padded longest_frame) (sym stored)

  module _ (line : Line) (rest : Rest) (held' : List ℕ) (is-rest : rest ≡ rest_of line (take (n + 1) (set held n b)))
      (held_is : held' ≡ padded longest_frame (left_of line (take (n + 1) (set held n b)))) where
    rest_long : length (left_of line (take (n + 1) (set held n b))) ≡ rest.len
    rest_long = sym (ap (λ (r : Rest). r.len) is-rest)

    pub rest_few : rest.len ≤ longest_frame
    rest_few = omega (arith, rest_long, left_few line (take (n + 1) (set held n b)), stored_long)

    pub rest_full : length held' ≡ longest_frame
    rest_full =
        let few : length (left_of line (take (n + 1) (set held n b))) ≤ longest_frame = omega (arith, rest_long, rest_few) in
        rw held_is (length_padded longest_frame (left_of line (take (n + 1) (set held n b))) few)

    pub rest_same : length held' ≡ length held
    rest_same = rest_full ∙ sym long

    pub rest_inside : rest.len ≤ length held'
    rest_inside = omega (arith, rest_full, rest_few)

    pub rest_counted : rest.len ≡ length (take rest.len held')
    rest_counted = sym (length-take-le rest.len held' rest_inside)

    pub held_stepped : held' ≡ padded longest_frame (left_of line (take n held ++ (b ∷ [])))
    held_stepped = held_is ∙ ap (λ (xs : List ℕ). padded longest_frame (left_of line xs)) stored

    pub step_is : (need : ℕ) → need ≡ decided_at (header_bytes line.header) (take rest.len held')
        → ◌≡◌ {A = Step} (record { rest = rest; need = need }) (step_of line (take n held ++ (b ∷ [])))
    step_is need is-need =
        let front : take rest.len held' ≡ left_of line (take (n + 1) (set held n b)) =
        rw held_is (take_padded longest_frame rest.len (left_of line (take (n + 1) (set held n b))) rest_long) in
        rw (is-need, front, is-rest, stored)
