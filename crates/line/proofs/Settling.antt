-- Laws of settling: going past all that is passed over, and bringing what is left to the front of the array.
use mathlib.Core.Path.{◌≡◌, refl, sym, ap, ◌∙◌}
use mathlib.Core.Bool.{Bool, true, false, cond, ◌&&◌}
use mathlib.Core.List.{List, [], ◌∷◌}
use Prim.Native.Nat.{ℕ, suc, ◌-◌, ◌≤◌}
use native.Mathlib.Omega.{arith}
use borrow.Author.Tests.{lt-ltb}
use lib.Dec.{ltb}
use lib.ListN.{length, take, drop, length-drop}
use lib.Seq.{length-take-le}
use Rattle.wire.proofs.Parts.{part_whole}
use Rattle.frame.specs.Frame.{longest_frame}
use Rattle.reading.specs.Place.{Rules, look}
use Rattle.reading.specs.Moves.{is_pass, passes, still_closed, settled}
use Rattle.place.specs.declared.Stop.{Stop}
use Rattle.place.specs.Looks.{stop_of}
use Rattle.place.proofs.Stops.{look_nothing, still_there, still_over}
use Rattle.line.specs.declared.Line.{Line}
use Rattle.line.specs.declared.Reader.{Reader}
use Rattle.line.specs.declared.Rest.{Rest}
use Rattle.line.specs.Inner.{left_of, rest_of}
use Rattle.line.specs.State.{rules_for, padded, settled_reader}
use Rattle.line.proofs.Padding.{drop_take}

pub passes_le : (rules : Rules) (closed : Bool) (xs : List ℕ) → passes rules closed xs ≤ length xs
unfolding passes
passes_le rules closed [] = omega arith
passes_le rules closed (x ∷ xs) = go (is_pass (look rules closed (x ∷ xs))) (passes_le rules closed xs)
  where
    go : (b : Bool) → passes rules closed xs ≤ length xs → cond b (suc (passes rules closed xs)) 0 ≤ suc (length xs)
    go true h = omega arith
    go false h = omega arith

-- what is left once all that is passed over has been is not passed over
pub left_stands : (rules : Rules) (closed : Bool) (xs : List ℕ)
    → is_pass (look rules (still_closed closed (drop (passes rules closed xs) xs)) (drop (passes rules closed xs) xs)) ≡ false
unfolding passes is_pass
left_stands rules closed [] = rw (still_over closed, look_nothing rules)
left_stands rules closed (x ∷ xs) = go (is_pass (look rules closed (x ∷ xs))) refl (left_stands rules closed xs)
  where
    go : (b : Bool) → is_pass (look rules closed (x ∷ xs)) ≡ b
        → is_pass (look rules (still_closed closed (drop (passes rules closed xs) xs)) (drop (passes rules closed xs) xs)) ≡ false
        → is_pass (look rules (still_closed closed (drop (cond b (suc (passes rules closed xs)) 0) (x ∷ xs))) (drop (cond b (suc (passes rules closed xs)) 0) (x ∷ xs))) ≡ false
    go true is ih = ih
    go false is ih = rw (still_there closed x xs) is

pub prefix_long : (n : ℕ) (held : List ℕ) → n ≤ longest_frame → length held ≡ longest_frame → n ≡ length (take n held)
prefix_long n held few long = sym (length-take-le n held (omega arith))

abbrev stays : Line → Bool → List ℕ → List ℕ
stays line closed xs = (settled (rules_for line) closed xs).bytes

-- a stretch that is closed and gone through is over
still_flag : (closed : Bool) (left : List ℕ) → (closed && ltb 0 (length left)) ≡ still_closed closed left
unfolding still_closed
still_flag false left = refl
still_flag true [] = refl
still_flag true (x ∷ left) = lt-ltb 0 (suc (length left)) (omega arith)

settled_closed : (line : Line) (closed : Bool) (xs : List ℕ)
    → (closed && ltb 0 (length (stays line closed xs))) ≡ (settled (rules_for line) closed xs).closed
unfolding settled
settled_closed line closed xs = still_flag closed (drop (passes (rules_for line) closed xs) xs)

-- what a stop says of the bytes before and behind it
module _ (line : Line) (closed : Bool) (xs : List ℕ) (stop : Stop) (is : stop ≡ stop_of (rules_for line) closed xs) where
  stop_at : stop.at ≡ passes (rules_for line) closed xs
  unfolding stop_of
  stop_at = ap (λ (s : Stop). s.at) is

  stop_look : stop.look ≡ (settled_reader line closed xs).head
  unfolding stop_of settled
  stop_look = ap (λ (s : Stop). s.look) is

  left_is : stays line closed xs ≡ drop stop.at xs
  unfolding settled
  left_is = ap (λ (k : ℕ). drop k xs) (sym stop_at)

  left_long : length (stays line closed xs) ≡ length xs - stop.at
  left_long = rw left_is (length-drop stop.at xs)

  pub stop_inside : stop.at ≤ length xs
  stop_inside = omega (arith, stop_at, passes_le (rules_for line) closed xs)

  closed_is : (closed && ltb 0 (length xs - stop.at)) ≡ (settled (rules_for line) closed xs).closed
  closed_is = rw (← left_long) (settled_closed line closed xs)

  pub settled_is : (left : List ℕ) → left ≡ padded longest_frame (take (length xs - stop.at) (drop stop.at xs))
      → ◌≡◌ {A = Reader}
      (record { line = line; held = left; len = length xs - stop.at; closed = closed && ltb 0 (length xs - stop.at); head = stop.look })
      (settled_reader line closed xs)
  settled_is left is-left =
      let front : left ≡ padded longest_frame (stays line closed xs) = is-left ∙ ap (padded longest_frame) (part_whole xs stop.at ∙ sym left_is) in
      rw (closed_is, front, ← left_long, stop_look)

-- the same in an open stretch, with the bytes at the front of an array
module _ (line : Line) (n : ℕ) (held : List ℕ) (stop : Stop) (is : stop ≡ stop_of (rules_for line) false (take n held))
    (few : n ≤ longest_frame) (long : length held ≡ longest_frame) where
  abbrev bytes : List ℕ
  bytes = take n held

  bytes_long : length bytes ≡ n
  bytes_long = length-take-le n held (omega arith)

  pub stop_within : stop.at ≤ n
  stop_within = omega (arith, bytes_long, stop_inside line false bytes stop is)

  rest_is : (len : ℕ) → len ≡ n - stop.at → ◌≡◌ {A = Rest} (record { len = len; head = stop.look }) (rest_of line bytes)
  rest_is len is-len =
      let same : len ≡ length (left_of line bytes) = omega (arith, left_long line false bytes stop is, bytes_long) in
      rw (same, stop_look line false bytes stop is)

  pub rest_stays : stop.at ≡ 0 → ◌≡◌ {A = Rest} (record { len = n; head = stop.look }) (rest_of line bytes)
  rest_stays none = rest_is n (omega arith)

  pub rest_moved : ◌≡◌ {A = Rest} (record { len = n - stop.at; head = stop.look }) (rest_of line bytes)
  rest_moved = rest_is (n - stop.at) refl

  pub held_unmoved : stop.at ≡ 0 → held ≡ padded longest_frame bytes → held ≡ padded longest_frame (left_of line bytes)
  held_unmoved none front = front ∙ ap (padded longest_frame) (sym (left_is line false bytes stop is ∙ ap (λ (k : ℕ). drop k bytes) none))

  pub held_moved : (left held' : List ℕ) → left ≡ padded longest_frame (take (n - stop.at) (drop stop.at held))
      → held' ≡ left → held' ≡ padded longest_frame (left_of line bytes)
  held_moved left held' is-left held-is =
      held-is ∙ is-left ∙ ap (padded longest_frame) (sym (left_is line false bytes stop is ∙ drop_take stop.at n held))
