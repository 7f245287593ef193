-- Closing a frame around what was just laid into the room's part behind the place of header and length byte.
use mathlib.Core.Path.{◌≡◌, refl, sym, ap, ◌∙◌}
use mathlib.Core.Bool.{Bool}
use mathlib.Core.List.{List, ◌∷◌, ◌++◌, append-nil}
use Prim.Native.Nat.{ℕ, ◌+◌, ◌-◌, ◌≤◌}
use native.Mathlib.Omega.{arith}
use borrow.Author.Tests.{le-leb}
use lib.ListN.{length, take, drop, length-append, length-drop}
use lib.Seq.{length-take-le, drop_at, drop-append-add, drop-drop}
use Rattle.wire.specs.Room.{over, lays, laid}
use Rattle.wire.proofs.Parts.{part_whole, part_end}
use Rattle.wire.proofs.Over.{take_over, length_over}
use Rattle.frame.specs.Frame.{check_length, frame_of, most_data}
use Rattle.frame.specs.Writer.{frame_laid, closed_laid}
use Rattle.frame.proofs.Writers.{length_frame_of, frame_laid_lem}

-- a room with a run laid over its part from a place on
module _ (c room r : List ℕ) (k : ℕ) (inside : k + length c ≤ length room) (is-r : r ≡ over c (take (length room - k) (drop k room))) where
  abbrev after : List ℕ
  after = take k room ++ (r ++ drop (length room - k) (drop k room))

  front : length (take k room) ≡ k
  front = length-take-le k room (omega arith)

  same : after ≡ take k room ++ over c (drop k room)
  same = rw (part_end room k, append-nil) (ap (λ (s : List ℕ). take k room ++ s) (is-r ∙ ap (over c) (part_whole room k)))

  standing_is : take (length c) (drop k after) ≡ c
  standing_is = rw (same, drop_at (take k room) (over c (drop k room)) k front) (take_over c (drop k room) (length c) refl)

  length_after : length after ≡ length room
  length_after =
      let tail : length c ≤ length (drop k room) = simp length-drop (omega arith) in
      rw same (length-append (take k room) (over c (drop k room)) ∙ rw (front, length_over c (drop k room) tail, length-drop) (omega arith))

  behind : (j : ℕ) → k + length c ≤ j → drop j after ≡ drop j room
  unfolding over
  behind j far =
      let i : ℕ = j - (k + length c) in
      let there : length (take k room) + (length c + i) ≡ j = omega (arith, front) in
      let there' : k + (length c + i) ≡ j = omega arith in
      rw same
      (ap (λ (n : ℕ). drop n (take k room ++ (c ++ drop (length c) (drop k room)))) (sym there)
      ∙ drop-append-add (take k room) (c ++ drop (length c) (drop k room)) (length c + i)
      ∙ drop-append-add c (drop (length c) (drop k room)) i
      ∙ drop-drop i (length c) (drop k room) ∙ drop-drop (length c + i) k room ∙ ap (λ (n : ℕ). drop n room) there')

-- then closing makes the frame of what was laid, over the room as it was before
module _ (checking : Bool) (header : List ℕ) (command : ℕ) (payload room r : List ℕ) (n : ℕ) where
  abbrev frame : List ℕ
  frame = frame_of checking header command payload

  abbrev laid_in : List ℕ
  laid_in = take (length header + 1) room ++ (r ++ drop (length room - (length header + 1)) (drop (length header + 1) room))

  closing : n ≡ 1 + length payload → length payload ≤ most_data checking → length header + 1 + (n + check_length checking) ≤ length room
      → r ≡ over (command ∷ payload) (take (length room - (length header + 1)) (drop (length header + 1) room))
      → closed_laid checking header n laid_in ≡ lays (length frame) (over frame laid_in)
  unfolding closed_laid laid frame_of
  closing is-n within fits is-r =
      let inside : length header + 1 + length (command ∷ payload) ≤ length room = omega arith in
      let k : ℕ = length header + 1 in
      let long : n ≡ length (command ∷ payload) = omega arith in
      let stands : take n (drop (length header + 1) laid_in) ≡ command ∷ payload =
      ap (λ (m : ℕ). take m (drop (length header + 1) laid_in)) long ∙ standing_is (command ∷ payload) room r (length header + 1) inside is-r in
      let same_length : length laid_in ≡ length room = length_after (command ∷ payload) room r (length header + 1) inside is-r in
      rw (stands, same_length, le-leb n (1 + most_data checking) (omega arith), le-leb (length header + 1 + (n + check_length checking)) (length room) fits)

  over_same : n ≡ 1 + length payload → length header + 1 + (n + check_length checking) ≤ length room
      → r ≡ over (command ∷ payload) (take (length room - (length header + 1)) (drop (length header + 1) room))
      → over frame laid_in ≡ over frame room
  unfolding over
  over_same is-n fits is-r =
      let inside : length header + 1 + length (command ∷ payload) ≤ length room = omega arith in
      let far : length header + 1 + length (command ∷ payload) ≤ length frame = omega (arith, length_frame_of checking header command payload) in
      ap (λ (rest : List ℕ). frame ++ rest) (behind (command ∷ payload) room r (length header + 1) inside is-r (length frame) far)

  pub closed_over : (h c : ℕ) → h ≡ length header → c ≡ check_length checking → n ≡ 1 + length payload → length payload ≤ most_data checking
      → h + 1 + (n + c) ≤ length room → r ≡ over (command ∷ payload) (take (length room - (h + 1)) (drop (h + 1) room))
      → closed_laid checking header n (take (h + 1) room ++ (r ++ drop (length room - (h + 1)) (drop (h + 1) room)))
      ≡ frame_laid checking header command payload room
  closed_over h c is-h is_c is-n within fits is-r =
      let fits' : length header + 1 + (n + check_length checking) ≤ length room = rw (is-h, is_c) at fits in
      let is-r' : r ≡ over (command ∷ payload) (take (length room - (length header + 1)) (drop (length header + 1) room)) = rw is-h at is-r in
      let holds : length frame ≤ length room = omega (arith, length_frame_of checking header command payload) in
      rw is-h
      (closing is-n within fits' is-r'
      ∙ ap (lays (length frame)) (over_same is-n fits' is-r')
      ∙ sym (frame_laid_lem checking header command payload room within holds))
