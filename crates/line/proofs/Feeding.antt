-- Laws of giving bytes one after the other: each turn of the loop in `feed` gives one byte, or a run of bytes that decides nothing.
use mathlib.Core.Path.{◌≡◌, refl, sym, ap, ◌∙◌}
use mathlib.Core.Bool.{Bool, true, false, not, ◌&&◌}
use mathlib.Core.List.{List, [], ◌∷◌, ◌++◌}
use Prim.Native.Nat.{ℕ, suc, ◌+◌, ◌-◌, ◌≤◌, ◌<◌}
use native.Mathlib.Nat.{zero-add, add-zero}
use native.Mathlib.Omega.{arith}
use native.Mathlib.Numerals.{add-one}
use borrow.Author.Tests.{ltb-true, ltb-false, lt-ltb, not-false}
use lib.Dec.{ltb}
use lib.ListN.{length, get_or, take, drop, length-take, length-drop}
use lib.Seq.{drop-cons, length-take-le}
use Rattle.wire.proofs.Parts.{part_whole}
use Rattle.frame.specs.Frame.{header_bytes, longest_frame}
use Rattle.reading.specs.Moves.{still_closed, settled, with_byte}
use Rattle.place.specs.declared.Look.{Look}
use Rattle.place.specs.declared.Look.TheVariants.{Wait}
use Rattle.line.specs.declared.Line.{Line}
use Rattle.line.specs.declared.Reader.{Reader}
use Rattle.line.specs.declared.Step.{Step}
use Rattle.line.specs.declared.Fed.{Fed}
use Rattle.line.specs.declared.Gave.{Gave}
use Rattle.line.specs.Inner.{decided_at, left_of, opened, step_of}
use Rattle.line.specs.State.{rules_for, padded, settled_reader}
use Rattle.line.specs.Methods.{is_answer, takes, busy, given_byte, gave, plus, given_bytes}
use Rattle.line.proofs.Padding.{take_padded}
use Rattle.line.proofs.Blindness.{Blind, blind_whole}
use Rattle.line.proofs.Settling.{left_stands}
use Rattle.wire.proofs.Truths.{and_left, and_right}

-- the loop's test
module _ (i m : ℕ) (t : Bool) (goes : (ltb i m && t) ≡ true) where
  pub more_left : i < m
  more_left = ltb-true i m (and_left (ltb i m) t goes)

  pub taking : t ≡ true
  taking = and_right (ltb i m) t goes

  pub room_left : (n : ℕ) (head : Look) → t ≡ takes n head → n < longest_frame
  room_left n head is = ltb-true n longest_frame (and_left (ltb n longest_frame) (not (is_answer head)) (sym is ∙ taking))

-- one byte
fold_step : (reader : Reader) (i : ℕ) (bytes : List ℕ) → i < length bytes → busy reader ≡ false
    → given_bytes reader (drop i bytes) ≡ plus 1 (given_bytes (given_byte reader (get_or bytes i 0)).reader (drop (suc i) bytes))
unfolding given_bytes
fold_step reader i bytes inside free = rw (drop-cons bytes i 0 inside, free)

pub plus_plus : (i k : ℕ) (gave : Gave) → plus i (plus k gave) ≡ plus (i + k) gave
plus_plus i k gave = ap (λ (n : ℕ). record { used = n; reader = gave.reader }) z
  where
    z : i + (k + gave.used) ≡ i + k + gave.used
    z = omega arith

pub given_is : (reader : Reader) (b : ℕ) → busy reader ≡ false
    → (given_byte reader b).reader ≡ settled_reader reader.line false (take reader.len reader.held ++ (b ∷ []))
unfolding given_byte with_byte
given_is reader b free = rw free

-- what is left of an open stretch is open
open_still : (line : Line) (xs : List ℕ)
    → settled_reader line false xs ≡ opened line (padded longest_frame (left_of line xs)) (length (left_of line xs)) (settled_reader line false xs).head
unfolding settled still_closed
open_still line xs = refl

module _ (line : Line) (bytes : List ℕ) (i n : ℕ) (held : List ℕ) (head : Look) (t : Bool) (start : Gave)
    (goes : (ltb i (length bytes) && t) ≡ true) (is-t : t ≡ takes n head)
    (so_far : start ≡ plus i (given_bytes (opened line held n head) (drop i bytes))) where
  -- a turn that gives one byte
  turn : (next : Reader) → settled_reader line false (take n held ++ (get_or bytes i 0 ∷ [])) ≡ next
      → start ≡ plus (i + 1) (given_bytes next (drop (i + 1) bytes))
  turn next is =
      let free : takes n head ≡ true = sym is-t ∙ taking i (length bytes) t goes in
      so_far
      ∙ ap (plus i) (fold_step (opened line held n head) i bytes (more_left i (length bytes) t goes) (ap not free)
      ∙ ap (λ (r : Reader). plus 1 (given_bytes r (drop (suc i) bytes))) (given_is (opened line held n head) (get_or bytes i 0) (ap not free) ∙ is))
      ∙ plus_plus i 1 (given_bytes next (drop (suc i) bytes))
      ∙ ap (λ (k : ℕ). plus (i + 1) (given_bytes next (drop k bytes))) (sym (add-one i))

  -- a byte behind those that are held
  pub fed_byte : (step : Step) (held' : List ℕ) → step ≡ step_of line (take n held ++ (get_or bytes i 0 ∷ []))
      → held' ≡ padded longest_frame (left_of line (take n held ++ (get_or bytes i 0 ∷ [])))
      → start ≡ plus (i + 1) (given_bytes (opened line held' step.rest.len step.rest.head) (drop (i + 1) bytes))
  fed_byte step held' is_step held_is =
      turn (opened line held' step.rest.len step.rest.head) (rw (is_step, held_is) (open_still line (take n held ++ (get_or bytes i 0 ∷ []))))

-- a byte that was taken
module _ (line : Line) (step : Step) (xs held' : List ℕ) (is_step : step ≡ step_of line xs) (held_is : held' ≡ padded longest_frame (left_of line xs)) where
  left_long : length (left_of line xs) ≡ step.rest.len
  left_long = sym (ap (λ (s : Step). s.rest.len) is_step)

  front_left : take step.rest.len held' ≡ left_of line xs
  front_left = rw held_is (take_padded longest_frame step.rest.len (left_of line xs) left_long)

  pub step_front : held' ≡ padded longest_frame (take step.rest.len held')
  step_front = held_is ∙ ap (padded longest_frame) (sym front_left)

  pub step_blind : Blind (rules_for line) (take step.rest.len held') step.need
  unfolding settled still_closed
  step_blind =
      let whole : step.need ≡ decided_at (header_bytes line.header) (left_of line xs) = ap (λ (s : Step). s.need) is_step in
      rw (front_left, whole) (blind_whole (rules_for line) (left_of line xs) (left_stands (rules_for line) false xs))

-- the loop's bounds
module _ (i m n : ℕ) (head : Look) (t : Bool) (goes : (ltb i m && t) ≡ true) where
  pub turn_inside : i + 1 ≤ m
  turn_inside = let h = more_left i m t goes in omega arith

  pub turn_less : m - (i + 1) < m - i
  turn_less = let h = more_left i m t goes in omega arith

  pub some_left : (bytes : List ℕ) → m ≡ length bytes → 0 < length (take (length bytes - i) (drop i bytes))
  some_left bytes is = let h = more_left i m t goes in rw (part_whole bytes i) (simp length-drop (omega arith))

-- entering and leaving the loop
pub nothing_given : (reader : Reader) (bytes : List ℕ) (r : Bool) → r ≡ busy reader → r ≡ true
    → gave 0 reader ≡ (given_bytes reader bytes)
unfolding given_bytes
nothing_given reader [] r is full = refl
nothing_given reader (b ∷ bytes) r is full = rw (sym is ∙ full)

pub none_given : (reader : Reader) (bytes : List ℕ) → length bytes ≡ 0
    → gave 0 reader ≡ (given_bytes reader bytes)
unfolding given_bytes
none_given reader [] none = refl
none_given reader (b ∷ bytes) none = absurd (omega arith)

pub fed_start : (line : Line) (held : List ℕ) (n : ℕ) (bytes : List ℕ)
    → given_bytes (opened line held n Wait) bytes ≡ plus 0 (given_bytes (opened line held n Wait) (drop 0 bytes))
fed_start line held n bytes =
    ap (λ (k : ℕ). record { used = k; reader = (given_bytes (opened line held n Wait) bytes).reader })
    (sym (zero-add (given_bytes (opened line held n Wait) bytes).used))

-- where the loop stops, nothing more is given
stops : (reader : Reader) (bytes : List ℕ) (i : ℕ) (t : Bool) → (ltb i (length bytes) && t) ≡ false → not t ≡ busy reader
    → given_bytes reader (drop i bytes) ≡ gave 0 reader
stops reader bytes i t done is = go (ltb i (length bytes)) refl done
  where
    go : (b : Bool) → ltb i (length bytes) ≡ b → (b && t) ≡ false → given_bytes reader (drop i bytes) ≡ gave 0 reader
    go true is_b full = sym (nothing_given reader (drop i bytes) (not t) is (ap not full))
    go false is_b full =
        let past : length bytes ≤ i = ltb-false i (length bytes) is_b in
        sym (none_given reader (drop i bytes) (simp length-drop (omega arith)))

-- a reader that takes inputs
module _ (reader : Reader) (r : Bool) (is : r ≡ busy reader) (free : r ≡ false) where
  is_taking : takes reader.len reader.head ≡ true
  is_taking = not-false (takes reader.len reader.head) (sym is ∙ free)

  old_room : reader.len < longest_frame
  old_room = ltb-true reader.len longest_frame (and_left (ltb reader.len longest_frame) (not (is_answer reader.head)) is_taking)

  pub old_few : reader.len ≤ longest_frame
  old_few = omega (arith, old_room)

  pub old_fits : length (take reader.len reader.held) ≤ longest_frame
  old_fits = simp length-take (omega (arith, old_room))

  module _ (long : length reader.held ≡ longest_frame) where
    pub old_inside : reader.len ≤ length reader.held
    old_inside = omega (arith, old_room)

    pub old_counted : reader.len ≡ length (take reader.len reader.held)
    old_counted = sym (length-take-le reader.len reader.held old_inside)

    module _ (held : List ℕ) (packed : held ≡ padded longest_frame (take reader.len reader.held)) where
      same_front : take reader.len held ≡ take reader.len reader.held
      same_front = rw packed (take_padded longest_frame reader.len (take reader.len reader.held) (sym old_counted))

      pub old_front : held ≡ padded longest_frame (take reader.len held)
      old_front = packed ∙ ap (padded longest_frame) (sym same_front)

      -- it gives what the loop gives that starts with its bytes
      enter : (bytes : List ℕ) → (length bytes ≡ 0 → ⊥)
          → given_bytes reader bytes ≡ given_bytes (opened reader.line held reader.len Wait) bytes
      unfolding given_bytes
      enter [] some = absurd (some refl)
      enter (b ∷ bytes) some =
          let open_free : busy (opened reader.line held reader.len Wait) ≡ false = rw (lt-ltb reader.len longest_frame old_room) in
          let same : (given_byte reader b).reader ≡ (given_byte (opened reader.line held reader.len Wait) b).reader =
          given_is reader b (sym is ∙ free)
          ∙ ap (λ (l : List ℕ). settled_reader reader.line false (l ++ (b ∷ []))) (sym same_front)
          ∙ sym (given_is (opened reader.line held reader.len Wait) b open_free) in
          rw (sym is ∙ free, open_free, same)

      pub bytes_given : (bytes held' : List ℕ) (fed : Fed) → (length bytes ≡ 0 → ⊥)
          → gave fed.used (opened reader.line held' fed.rest.len fed.rest.head)
          ≡ given_bytes (opened reader.line held reader.len Wait) bytes
          → gave fed.used (opened reader.line held' fed.rest.len fed.rest.head) ≡ given_bytes reader bytes
      bytes_given bytes held' fed some is-fed = is-fed ∙ sym (enter bytes some)

pub all_fed : (line : Line) (bytes held : List ℕ) (start : Gave) (t : Bool) (i n : ℕ) (head : Look)
    → start ≡ plus i (given_bytes (opened line held n head) (drop i bytes)) → (ltb i (length bytes) && t) ≡ false → t ≡ takes n head
    → gave i (opened line held n head) ≡ start
all_fed line bytes held start t i n head so_far done is-t =
    sym (so_far ∙ ap (plus i) (stops (opened line held n head) bytes i t done (ap not is-t))
    ∙ ap (λ (k : ℕ). gave k (opened line held n head)) (add-zero i))

-- what stood at the front does not matter to a reader that takes inputs
pub head_free : (line : Line) (held : List ℕ) (n : ℕ) (head : Look) (b : ℕ) (bytes : List ℕ) → takes n head ≡ true
    → given_bytes (opened line held n head) (b ∷ bytes) ≡ given_bytes (opened line held n Wait) (b ∷ bytes)
unfolding given_bytes given_byte
head_free line held n head b bytes free =
    let room : ltb n longest_frame ≡ true = and_left (ltb n longest_frame) (not (is_answer head)) free in
    rw (free, room)
