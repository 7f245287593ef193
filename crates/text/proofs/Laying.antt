-- How a frame written is laid over the front of a room: one law for each way the writers answer.
use mathlib.Core.Path.{◌≡◌, refl, sym, ap, ◌∙◌}
use mathlib.Core.Bool.{Bool, false, true}
use mathlib.Core.List.{List, [], ◌∷◌, ◌++◌, append_assoc}
use Prim.Native.Nat.{ℕ, suc, ◌+◌, ◌-◌, ◌*◌, ◌/◌, ◌%◌, ◌≤◌, ◌<◌}
use native.Mathlib.Omega.{arith}
use borrow.Author.Tests.{eqb-true, le-leb, lt-leb}
use lib.Dec.{eqb, leb}
use lib.ListN.{length, get_or, set, take, drop, length-append}
use borrow.Rule.Slice.PartMut.{put_mid}
use lib.Seq.{take-suc, length-take-le}
use Rattle.wire.specs.Room.{over, lays, laid}
use Rattle.wire.proofs.Over.{over_nil, over_more, over_part, laid_not, laid_whole}
use Rattle.text.specs.Text.{hex_digit, hex_byte, spaced, lined, written_text, blank, line_feed}
use Rattle.text.proofs.Lengths.{length_spaced, written_text_length}

-- the loop over a frame's bytes
spaced_append : (a b : List ℕ) → spaced (a ++ b) ≡ spaced a ++ spaced b
unfolding spaced hex_byte
spaced_append [] b = refl
spaced_append (x ∷ a) b = ap (λ (rest : List ℕ). blank ∷ hex_digit (x / 16) ∷ hex_digit (x % 16) ∷ rest) (spaced_append a b)

one_byte : (b : ℕ) → spaced (b ∷ []) ≡ blank ∷ hex_digit (b / 16) ∷ hex_digit (b % 16) ∷ []
unfolding spaced hex_byte
one_byte b = refl

pub spaced_none : (frame room : List ℕ) → room ≡ over (spaced (take 0 frame)) room
unfolding spaced
spaced_none frame room = sym (over_nil room)

pub spaced_more : (frame room₀ room digits : List ℕ) (i : ℕ) → room ≡ over (spaced (take i frame)) room₀ → i < length frame
    → 3 * length frame ≤ length room₀ → digits ≡ hex_byte (get_or frame i 0)
    → set (set (set room (3 * i) 32) (3 * i + 1) (get_or digits 0 0)) (3 * i + 2) (get_or digits 1 0) ≡ over (spaced (take (i + 1) frame)) room₀
unfolding hex_byte
spaced_more frame room₀ room digits i is more fits d =
    let run = spaced (take i frame) in
    let high = hex_digit (get_or frame i 0 / 16) in
    let low = hex_digit (get_or frame i 0 % 16) in
    let one : i + 1 ≡ suc i = omega arith in
    let long : length run ≡ 3 * i = length_spaced (take i frame) ∙ rw (length-take-le i frame (omega arith)) in
    let long' : length (run ++ (32 ∷ [])) ≡ 3 * i + 1 = simp length-append (omega arith) in
    let long'' : length ((run ++ (32 ∷ [])) ++ (high ∷ [])) ≡ 3 * i + 2 = simp length-append (omega arith) in
    let grown : spaced (take (i + 1) frame) ≡ ((run ++ (32 ∷ [])) ++ (high ∷ [])) ++ (low ∷ []) =
    rw (one, take-suc frame i 0 more, spaced_append (take i frame) (get_or frame i 0 ∷ []), one_byte (get_or frame i 0))
    (sym (append_assoc (run ++ (32 ∷ [])) (high ∷ []) (low ∷ []) ∙ append_assoc run (32 ∷ []) (high ∷ low ∷ []))) in
    rw (is, grown, d)
    (ap (λ (r : List ℕ). set (set r (3 * i + 1) high) (3 * i + 2) low) (over_more run room₀ 32 (3 * i) long (omega arith))
    ∙ ap (λ (r : List ℕ). set r (3 * i + 2) low) (over_more (run ++ (32 ∷ [])) room₀ high (3 * i + 1) long' (omega arith))
    ∙ over_more ((run ++ (32 ∷ [])) ++ (high ∷ [])) room₀ low (3 * i + 2) long'' (omega arith))

-- the line of a frame written
some_frame : (frame : List ℕ) → false ≡ eqb (length frame) 0 → 0 < length frame
some_frame [] some = absurd (cc)
some_frame (b ∷ frame) some = omega arith

some_text : (frame : List ℕ) → 0 < length frame → (79 ∷ spaced frame) ++ (line_feed ∷ []) ≡ written_text frame
unfolding written_text lined
some_text [] some = absurd (omega arith)
some_text (b ∷ frame) some = refl

pub no_frame : (frame room : List ℕ) (empty : Bool) → empty ≡ eqb (length frame) 0 → empty ≡ true
    → lays 0 room ≡ laid (leb (length (written_text frame)) (length room)) (written_text frame) room
unfolding written_text laid over
no_frame [] room empty is given = rw (le-leb 0 (length room) (omega arith))
no_frame (b ∷ frame) room empty is given = absurd (omega (arith, eqb-true (length (b ∷ frame)) 0 (sym is ∙ given)))

module _ (frame room : List ℕ) (empty : Bool) (is : empty ≡ eqb (length frame) 0) (no : empty ≡ false) where
  -- the line of this frame
  abbrev text : List ℕ
  text = written_text frame

  some : 0 < length frame
  some = some_frame frame (sym no ∙ is)

  long : length text ≡ 2 + 3 * length frame
  long = written_text_length frame some

  pub written_no_room : (free : ℕ) → free ≡ length room - 2 → free / 3 < length frame → lays 0 room ≡ laid (leb (length text) (length room)) text room
  written_no_room free is-free small = laid_not (leb (length text) (length room)) text room (lt-leb (length text) (length room) (omega (arith, long)))

  -- `O` set, the bytes over the part behind it, the line feed set behind these
  module _ (r : List ℕ) where
    abbrev begun : List ℕ
    begun = set room 0 79

    pub written_laid : (k free : ℕ) → free ≡ length room - 2 → length frame ≤ free / 3 → r ≡ over (spaced frame) (take (length begun - 1) (drop 1 begun))
        → k ≡ 3 * length frame → lays (1 + k + 1) (set (put_mid 1 (length begun - 1) begun r) (1 + k) 10) ≡ laid (leb (length text) (length room)) text room
    written_laid k free is-free fits is-r is-k =
        let bytes : length (79 ∷ spaced frame) ≡ 1 + k = omega (arith, length_spaced frame) in
        let o : begun ≡ over (79 ∷ []) room = ap (λ (l : List ℕ). set l 0 79) (sym (over_nil room)) ∙ over_more [] room 79 0 refl (omega (arith, some)) in
        let first : put_mid 1 (length begun - 1) begun r ≡ over (79 ∷ spaced frame) room = over_part (79 ∷ []) (spaced frame) room begun r 1 refl o is-r in
        laid_whole (leb (length text) (length room)) ((79 ∷ spaced frame) ++ (10 ∷ [])) text room _ (1 + k + 1)
        (le-leb (length text) (length room) (omega (arith, long, some))) (some_text frame some)
        (omega (arith, length-append (79 ∷ spaced frame) (10 ∷ []), length_spaced frame))
        (ap (λ (l : List ℕ). set l (1 + k) 10) first ∙ over_more (79 ∷ spaced frame) room 10 (1 + k) bytes (omega (arith, some)))
