-- Laws of the loops that store and read a run of words, one for each way the functions answer.
use mathlib.Core.Path.{◌≡◌, refl, sym, ap, ◌∙◌}
use mathlib.Core.Bool.{Bool, true, false, ◌&&◌}
use mathlib.Core.Logic.{◌≢◌}
use mathlib.Core.List.{List, [], ◌∷◌, ◌++◌, append_assoc}
use Prim.Native.Nat.{ℕ, zero, suc, ◌+◌, ◌-◌, ◌*◌, ◌/◌, ◌≤◌, ◌<◌}
use native.Mathlib.Omega.{arith}
use borrow.Author.Tests.{le-leb, lt-leb, ltb-true, ltb-false}
use lib.Dec.{leb, ltb}
use lib.ListN.{length, get_or, set, take, drop, length-drop, length-append}
use borrow.Author.Count.{below_more}
use borrow.Rule.Slice.PartMut.{put_mid}
use lib.Seq.{take-suc, drop-drop, length-take-le, take_all, get_or-set_same, get_or-set_other}
use Rattle.std.specs.Simd.{first_chunks}
use Rattle.wire.specs.ByteOrder.{word, high_byte, low_byte}
use Rattle.wire.specs.Room.{over, laid_at, lays}
use Rattle.wire.proofs.Over.{over_nil, over_more, and_true, left_false, right_false, laid_not, laid_whole}
use Rattle.words.specs.Words.{words_of, bytes_of, word_run, words_written, words_laid}
use Rattle.words.proofs.Carried.{length_words_of, length_bytes_of, bytes_of_append}

-- what a pair of bytes carries
word_of_pair : (n : ℕ) (bytes : List ℕ) (i : ℕ) → i < n → n * 2 ≤ length bytes
    → word (get_or (get_or (first_chunks 2 n bytes) i []) 0 0) (get_or (get_or (first_chunks 2 n bytes) i []) 1 0) ≡ get_or (words_of bytes) i 0
unfolding words_of
word_of_pair zero bytes i inside fits = absurd (omega arith)
word_of_pair (suc n) [] i inside fits = absurd (omega arith)
word_of_pair (suc n) (high ∷ []) i inside fits = absurd (omega arith)
word_of_pair (suc n) (high ∷ low ∷ bytes) zero inside fits = refl
word_of_pair (suc n) (high ∷ low ∷ bytes) (suc i) inside fits = word_of_pair n bytes i (omega arith) (omega arith)

-- `store_run`, a law for the goal of its loop
pub stored_more : (run bytes : List ℕ) (pairs : List (List ℕ)) (i w : ℕ) → ((k : ℕ) → k < i → get_or run k 0 ≡ get_or (words_of bytes) k 0) → i < length run
    → i < length bytes / 2 → pairs ≡ first_chunks 2 (length bytes / 2) bytes → w ≡ word (get_or (get_or pairs i []) 0 0) (get_or (get_or pairs i []) 1 0)
    → (k : ℕ) → k < i + 1 → get_or (set run i w) k 0 ≡ get_or (words_of bytes) k 0
stored_more run bytes pairs i w are inside more these is =
    below_more _ _
    (λ k h. let other : k ≢ i = omega arith in rw get_or-set_other (are k h))
    (get_or-set_same run i w 0 inside ∙ is ∙ rw these (word_of_pair (length bytes / 2) bytes i more (omega arith)))

-- `write`, a law for each way it answers. The first holds of a shorter run, too: so an edit of the length is refused at `store_run`.
module _ (words bytes : List ℕ) (address n : ℕ) (passes : Bool) (is-passes : passes ≡ ltb (length words) (address + n)) where
  pub not_stored : n ≤ length bytes / 2 → passes ≡ true → words ≡ words_written words address bytes
  unfolding words_written
  not_stored short past =
      let far : length words < address + n = ltb-true (length words) (address + n) (sym is-passes ∙ past) in
      let far' : length words < address + length (words_of bytes) = omega (arith, length_words_of bytes) in
      rw (lt-leb (address + length (words_of bytes)) (length words) far')

  pub stored : (a : ℕ) (run : List ℕ) → a ≡ address → n ≡ length bytes / 2 → passes ≡ false → run ≡ words_of bytes
      → put_mid a (a + n - a) words run ≡ words_written words address bytes
  unfolding words_written laid_at
  stored a run is_a all inside is =
      let near : address + n ≤ length words = ltb-false (length words) (address + n) (sym is-passes ∙ inside) in
      let near' : address + length (words_of bytes) ≤ length words = omega (arith, length_words_of bytes) in
      let long : a + n - a ≡ length (words_of bytes) = omega (arith, length_words_of bytes) in
      rw (le-leb (address + length (words_of bytes)) (length words) near', is, long, is_a, drop-drop) refl

pub length_word_run : (words : List ℕ) (at n : ℕ) → at + n ≤ length words → length (word_run words at n) ≡ n
unfolding word_run
length_word_run words at n fits = length-take-le n (drop at words) (simp length-drop (omega arith))

one_word : (w : ℕ) → bytes_of (w ∷ []) ≡ high_byte w ∷ low_byte w ∷ []
unfolding bytes_of
one_word w = refl

pub run_begun : (run room : List ℕ) → room ≡ over (bytes_of (take 0 run)) room
unfolding bytes_of
run_begun run room = sym (over_nil room)

pub run_more : (run room₀ room : List ℕ) (i word high low : ℕ) → room ≡ over (bytes_of (take i run)) room₀ → i < length run → length run + length run ≤ length room₀
    → word ≡ get_or run i 0 → high ≡ high_byte word → low ≡ low_byte word
    → set (set room (i + i) high) (i + i + 1) low ≡ over (bytes_of (take (i + 1) run)) room₀
run_more run room₀ room i word high low is more holds w h l =
    let laid = bytes_of (take i run) in
    let one : i + 1 ≡ suc i = omega arith in
    let long : length laid ≡ i + i = length_bytes_of (take i run) ∙ rw (length-take-le i run (omega arith)) in
    let long' : length (laid ++ (high ∷ [])) ≡ i + i + 1 = simp length-append (omega arith) in
    let grown : bytes_of (take (i + 1) run) ≡ (laid ++ (high ∷ [])) ++ (low ∷ []) =
    rw (one, take-suc run i 0 more, bytes_of_append (take i run) (get_or run i 0 ∷ []), one_word (get_or run i 0), ← w, ← h, ← l)
    (sym (append_assoc laid (high ∷ []) (low ∷ []))) in
    rw (is, grown)
    (ap (λ (r : List ℕ). set r (i + i + 1) low) (over_more laid room₀ high (i + i) long (omega arith))
    ∙ over_more (laid ++ (high ∷ [])) room₀ low (i + i + 1) long' (omega arith))

pub run_whole : (run room₀ room : List ℕ) (i : ℕ) → room ≡ over (bytes_of (take i run)) room₀ → length run ≤ i → room ≡ over (bytes_of run) room₀
run_whole run room₀ room i is all = rw (take_all i run all) at is

-- `read`, a law for each way it answers
module _ (words room : List ℕ) (address n m : ℕ) (passes : Bool) (is_m : m ≡ n) (is-passes : passes ≡ ltb (length words) (address + m)) where
  abbrev within : Bool
  within = leb (address + n) (length words)

  abbrev holds : Bool
  holds = leb (n + n) (length room)

  pub read_past : passes ≡ true → lays 0 room ≡ words_laid words address n room
  unfolding words_laid
  read_past past =
      let far : length words < address + m = ltb-true (length words) (address + m) (sym is-passes ∙ past) in
      laid_not (within && holds) (bytes_of (word_run words address n)) room (left_false within holds (lt-leb (address + n) (length words) (omega arith)))

  pub read_no_room : length room < m * 2 → lays 0 room ≡ words_laid words address n room
  unfolding words_laid
  read_no_room small =
      laid_not (within && holds) (bytes_of (word_run words address n)) room (right_false within holds (lt-leb (n + n) (length room) (omega arith)))

  run_same : (a : ℕ) → a ≡ address → take (a + m - a) (drop a words) ≡ word_run words address n
  unfolding word_run
  run_same a is_a =
      let long : a + m - a ≡ n = omega arith in
      rw (long, is_a) refl

  pub read_done : (a : ℕ) (left : List ℕ) → a ≡ address → passes ≡ false → m * 2 ≤ length room → left ≡ over (bytes_of (take (a + m - a) (drop a words))) room
      → lays (m * 2) left ≡ words_laid words address n room
  unfolding words_laid
  read_done a left is_a inside small is =
      let near : address + m ≤ length words = ltb-false (length words) (address + m) (sym is-passes ∙ inside) in
      let run = take (a + m - a) (drop a words) in
      let same : run ≡ word_run words address n = run_same a is_a in
      let run_long : length run ≡ n = rw same (length_word_run words address n (omega arith)) in
      let long : m * 2 ≡ length (bytes_of run) = rw (length_bytes_of run, run_long) (omega arith) in
      laid_whole (within && holds) (bytes_of run) (bytes_of (word_run words address n)) room left (m * 2)
      (and_true within holds (le-leb (address + n) (length words) (omega arith)) (le-leb (n + n) (length room) (omega arith)))
      (ap bytes_of same) long is
