-- What is said of a place, and of where going on stops, is what 01's bullets give in their order.
use mathlib.Core.Path.{◌≡◌, refl, sym, ap, ◌∙◌}
use mathlib.Core.Bool.{Bool, true, false, cond, not, ◌&&◌, ◌||◌}
use mathlib.Core.List.{List, [], ◌∷◌}
use Prim.Native.Nat.{ℕ, suc, ◌+◌}
use native.Mathlib.Nat.{zero-add}
use native.Mathlib.Omega.{arith}
use borrow.Author.Tests.{lt-ltb, le-ltb, ltb-true, ltb-false}
use lib.Dec.{eqb, ltb}
use lib.ListN.{length, get_or, take, drop}
use lib.Seq.{length-take-le}
use Rattle.wire.specs.Numbers.{first_said}
use Rattle.frame.specs.Frame.{header_bytes, least_length, right_check}
use Rattle.frame.specs.declared.Header.{Header}
use Rattle.reading.specs.Place.{Rules, Seen, pass, wait, bad, accepted, cut_short, decided_by_check, after_header, behind, look}
use Rattle.reading.specs.Moves.{is_pass, passes, still_closed}
use Rattle.place.specs.declared.Look.{Look}
use Rattle.place.specs.declared.Stop.{Stop}
use Rattle.place.specs.Looks.{rules_of, shown, stop_of}
use Rattle.place.specs.Bullets.{PlaceSaid, go_by, look_said, other_header, bullets, place_said, StopSaid, stops_at, stop_said, is_passed, places_listed, stop_listed}
use Rattle.place.proofs.Stops.{passes_more, passes_none, still_there, still_over, look_nothing}

one_more : (a b : ℕ) → ltb (suc a) (1 + b) ≡ ltb a b
one_more a b = go (ltb a b) refl
  where
    go : (t : Bool) → ltb a b ≡ t → ltb (suc a) (1 + b) ≡ t
    go true is = let less = ltb-true a b is in lt-ltb (suc a) (1 + b) (omega arith)
    go false is = let most = ltb-false a b is in le-ltb (suc a) (1 + b) (omega arith)

module _ (header : List ℕ) (checking closed : Bool) where
  -- what the bullets say behind the header
  abbrev said_behind : Bool → List ℕ → PlaceSaid
  said_behind other xs = first_said (bullets other checking closed xs) (go_by (length header + 1 + get_or xs 0 0) (get_or xs 0 0 ∷ []))

  cut_said : look_said header (shown (cut_short closed)) ≡ cond closed (go_by 1 []) (go_by 0 [])
  unfolding look_said cut_short
  cut_said = go closed
    where
      go : (c : Bool) → look_said header (shown (cut_short c)) ≡ cond c (go_by 1 []) (go_by 0 [])
      go true = refl
      go false = refl

  check_said : (l : ℕ) (body : List ℕ) → length body ≡ l
      → look_said header (shown (decided_by_check checking body))
      ≡ cond (not (right_check checking body)) (go_by 1 (get_or body 0 0 ∷ [])) (go_by (length header + 1 + l) (l ∷ []))
  unfolding look_said decided_by_check
  check_said l body long = rw (sym long) (go (right_check checking body))
    where
      go : (r : Bool) → look_said header (shown (cond r (accepted body) (bad body)))
          ≡ cond (not r) (go_by 1 (get_or body 0 0 ∷ [])) (go_by (length header + 1 + length body) (length body ∷ []))
      go true = refl
      go false = refl

  after_said : (xs : List ℕ) → look_said header (shown (after_header checking closed xs)) ≡ said_behind false xs
  unfolding after_header bullets first_said look_said
  after_said [] = cut_said
  after_said (l ∷ xs) = rw (lt-ltb 0 (suc (length xs)) (omega arith), one_more (length xs) l) (go (ltb l (least_length checking)) (ltb (length xs) l) refl)
    where
      go : (a b : Bool) → ltb (length xs) l ≡ b
          → look_said header (shown (cond a pass (cond b (cut_short closed) (decided_by_check checking (take l xs)))))
          ≡ cond a (go_by 1 []) (cond b (cond closed (go_by 1 []) (go_by 0 []))
          (cond (not (right_check checking (take l xs))) (go_by 1 (get_or (take l xs) 0 0 ∷ [])) (go_by (length header + 1 + l) (l ∷ []))))
      go true b is = refl
      go false true is = cut_said
      go false false is = check_said l (take l xs) (length-take-le l xs (ltb-false (length xs) l is))

  behind_said : (left xs : List ℕ) → look_said header (shown (behind checking closed left xs)) ≡ said_behind (other_header left xs) (drop (length left) xs)
  unfolding behind other_header bullets first_said look_said
  behind_said [] xs = after_said xs
  behind_said (h ∷ left) [] = cut_said
  behind_said (h ∷ left) (x ∷ xs) = go (eqb x h) (behind_said left xs)
    where
      go : (same : Bool) → look_said header (shown (behind checking closed left xs)) ≡ said_behind (other_header left xs) (drop (length left) xs)
          → look_said header (shown (cond same (behind checking closed left xs) pass)) ≡ said_behind (not same || other_header left xs) (drop (length left) xs)
      go true rest = rest
      go false rest = refl

look_as_listed : (rules : Rules) (closed : Bool) (xs : List ℕ) → look_said rules.header (shown (look rules closed xs)) ≡ place_said rules closed xs
unfolding look place_said
look_as_listed rules closed xs = behind_said rules.header rules.checking closed rules.header xs

pub look_said_lem : (header : Header) (checking closed : Bool) (xs : List ℕ) (r : Look) → r ≡ shown (look (rules_of header checking) closed xs)
    → (r ≡ shown (look (rules_of header checking) closed xs)) × (look_said (header_bytes header) r ≡ place_said (rules_of header checking) closed xs)
look_said_lem header checking closed xs r is = (is, ap (look_said (header_bytes header)) is ∙ look_as_listed (rules_of header checking) closed xs)

passed_is : (header : List ℕ) (seen : Seen) → is_passed (look_said header (shown seen)) ≡ is_pass seen
unfolding is_passed look_said is_pass
passed_is header pass = refl
passed_is header wait = refl
passed_is header (bad body) = refl
passed_is header (accepted body) = go (eqb (length header + 1 + length body) 1)
  where
    go : (b : Bool) → (b && false) ≡ false
    go true = refl
    go false = refl

module _ (rules : Rules) (closed : Bool) where
  -- the stop counted from place p on
  abbrev stop_from : ℕ → List ℕ → StopSaid
  stop_from p xs =
      let left = drop (passes rules closed xs) xs in
      stops_at (p + passes rules closed xs) (look_said rules.header (shown (look rules (still_closed closed left) left)))

  stops_as_listed : (p : ℕ) (xs : List ℕ) → stop_from p xs ≡ first_said (places_listed rules closed p xs) (stops_at (p + length xs) (go_by 0 []))
  unfolding places_listed first_said passes look_said
  stops_as_listed p [] = rw (still_over closed, look_nothing rules)
  stops_as_listed p (x ∷ xs) = rw (← look_as_listed rules closed (x ∷ xs), passed_is rules.header (look rules closed (x ∷ xs)))
      (go (stops_as_listed (suc p) xs) (is_pass (look rules closed (x ∷ xs))) refl)
    where
      go : stop_from (suc p) xs ≡ first_said (places_listed rules closed (suc p) xs) (stops_at (suc p + length xs) (go_by 0 []))
          → (over : Bool) → is_pass (look rules closed (x ∷ xs)) ≡ over → stop_from p (x ∷ xs)
          ≡ cond (not over) (stops_at p (look_said rules.header (shown (look rules closed (x ∷ xs)))))
          (first_said (places_listed rules closed (suc p) xs) (stops_at (p + suc (length xs)) (go_by 0 [])))
      go rest true is =
          let e : p + suc (passes rules closed xs) ≡ suc p + passes rules closed xs = omega arith in
          let f : suc p + length xs ≡ p + suc (length xs) = omega arith in
          rw (passes_more rules closed x xs is, e, ← f) rest
      go rest false is =
          let e : p + 0 ≡ p = omega arith in
          rw (passes_none rules closed x xs is, e, still_there closed x xs)

pub stop_said_lem : (header : Header) (checking closed : Bool) (xs : List ℕ) (r : Stop) → r ≡ stop_of (rules_of header checking) closed xs
    → (r ≡ stop_of (rules_of header checking) closed xs) × (stop_said (header_bytes header) r ≡ stop_listed (rules_of header checking) closed xs)
unfolding stop_of stop_said
stop_said_lem header checking closed xs r is = (is, ap (stop_said (header_bytes header)) is ∙ simp zero-add at (stops_as_listed (rules_of header checking) closed 0 xs))
