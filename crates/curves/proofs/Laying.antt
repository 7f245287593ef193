-- Laws of the loop that lays the numbers at one place of rounds into a channel's part.
use mathlib.Core.Path.{◌≡◌, refl, sym, ap, ◌∙◌}
use mathlib.Core.Logic.{◌≢◌}
use mathlib.Core.List.{List}
use Prim.Native.Nat.{ℕ, zero, suc, ◌+◌, ◌*◌, ◌/◌, ◌≤◌, ◌<◌}
use native.Mathlib.Nat.{suc-mul, mul-le-mul_right}
use native.Mathlib.Omega.{arith}
use lib.ListN.{length, get_or, set, drop, length-drop}
use lib.Seq.{get_or-drop, get_or-set_same, get_or-set_other, ext_get_or}
use borrow.Author.Count.{below_more}
use Rattle.wire.specs.ByteOrder.{word_at}
use Rattle.words.specs.Words.{words_of}
use Rattle.words.proofs.Carried.{length_words_of, words_of_at}
use Rattle.curves.specs.Rounds.{of_rounds}

pub length_of_rounds : (size place rounds : ℕ) (numbers : List ℕ) → length (of_rounds size place rounds numbers) ≡ rounds
unfolding of_rounds
length_of_rounds size place zero numbers = refl
length_of_rounds size place (suc rounds) numbers = ap suc (length_of_rounds size place rounds (drop size numbers))

pub of_rounds_at : (size place rounds : ℕ) (numbers : List ℕ) (i : ℕ) → i < rounds → get_or (of_rounds size place rounds numbers) i 0 ≡ get_or numbers (i * size + place) 0
unfolding of_rounds
of_rounds_at size place zero numbers i inside = absurd (omega arith)
of_rounds_at size place (suc rounds) numbers zero inside =
    let here : zero * size + place ≡ place = omega arith in
    rw here
of_rounds_at size place (suc rounds) numbers (suc i) inside =
    let there : size + (i * size + place) ≡ suc i * size + place = omega (arith, suc-mul i size) in
    of_rounds_at size place rounds (drop size numbers) i (omega arith) ∙ get_or-drop size numbers (i * size + place) 0 ∙ ap (λ (k : ℕ). get_or numbers k 0) there

-- the place of a round lies inside
inside_rounds : (size place k m bound : ℕ) → place < size → k < m → m * size ≤ bound → k * size + place < bound
inside_rounds size place k m bound small before fits = omega (arith, suc-mul k size, mul-le-mul_right size before)

-- one number of the rounds
pub number_at : (bytes : List ℕ) (size place rounds round w : ℕ) → place < size → round < rounds → rounds * size ≤ length bytes / 2
    → w ≡ word_at bytes ((round * size + place) * 2) → w ≡ get_or (of_rounds size place rounds (words_of bytes)) round 0
number_at bytes size place rounds round w small before whole is =
    let inside : round * size + place < length (words_of bytes) = rw (length_words_of bytes) (inside_rounds size place round rounds (length bytes / 2) small before whole) in
    is ∙ sym (of_rounds_at size place rounds (words_of bytes) round before ∙ words_of_at bytes (round * size + place) inside)

-- the loop that lays those at one place into a run
pub laid_more : (run column : List ℕ) (first i w : ℕ) → ((k : ℕ) → k < i → get_or run k 0 ≡ get_or column (first + k) 0) → i < length run
    → w ≡ get_or column (first + i) 0 → (k : ℕ) → k < i + 1 → get_or (set run i w) k 0 ≡ get_or column (first + k) 0
laid_more run column first i w are inside is =
    below_more _ _
    (λ k h. let other : k ≢ i = omega arith in rw get_or-set_other (are k h))
    (get_or-set_same run i w 0 inside ∙ is)

pub laid_all : (run column : List ℕ) (first : ℕ) → first + length run ≡ length column → ((k : ℕ) → k < length run → get_or run k 0 ≡ get_or column (first + k) 0)
    → run ≡ drop first column
laid_all run column first long are =
    ext_get_or 0 run (drop first column) (simp length-drop (omega arith)) (λ k inside. are k inside ∙ sym (get_or-drop first column k 0))
