-- Laws of where going on from place to place stops.
use mathlib.Core.Path.{◌≡◌, refl, ap, ◌∙◌}
use mathlib.Core.Bool.{Bool, true, false}
use mathlib.Core.List.{List, [], ◌∷◌}
use Prim.Native.Nat.{ℕ, suc, ◌+◌, ◌-◌, ◌≤◌, ◌<◌}
use native.Mathlib.Omega.{arith}
use native.Mathlib.Numerals.{add-one}
use lib.ListN.{length, get_or, take, drop, drop_of_length-le}
use lib.Seq.{drop-cons}
use Rattle.wire.proofs.Parts.{part_whole}
use Rattle.wire.proofs.Truths.{never}
use Rattle.reading.specs.Place.{Rules, Seen, pass, wait, bad, accepted, cut_short, after_header, behind, look}
use Rattle.reading.specs.Moves.{is_pass, passes, still_closed}
use Rattle.place.specs.declared.Look.{Look}
use Rattle.place.specs.declared.Look.TheVariants.{Pass, Wait}
use Rattle.place.specs.declared.Stop.{Stop}
use Rattle.place.specs.Looks.{shown, stop_of}

-- the code passes over what the reading passes over, and nothing else
over_shown : (seen : Seen) → Pass ≡ shown seen → is_pass seen ≡ true
unfolding is_pass
over_shown pass is = refl
over_shown wait is = never (cc)
over_shown (bad body) is = never (cc)
over_shown (accepted body) is = never (cc)

stops_shown : (seen : Seen) → (shown seen ≡ Pass → ⊥) → is_pass seen ≡ false
unfolding is_pass
stops_shown pass not = absurd (not refl)
stops_shown wait not = refl
stops_shown (bad body) not = refl
stops_shown (accepted body) not = refl

pub passes_more : (rules : Rules) (closed : Bool) (x : ℕ) (xs : List ℕ) → is_pass (look rules closed (x ∷ xs)) ≡ true
    → passes rules closed (x ∷ xs) ≡ suc (passes rules closed xs)
unfolding passes
passes_more rules closed x xs over = rw over

pub passes_none : (rules : Rules) (closed : Bool) (x : ℕ) (xs : List ℕ) → is_pass (look rules closed (x ∷ xs)) ≡ false
    → passes rules closed (x ∷ xs) ≡ 0
unfolding passes
passes_none rules closed x xs stops = rw stops

pub still_there : (closed : Bool) (x : ℕ) (xs : List ℕ) → still_closed closed (x ∷ xs) ≡ closed
unfolding still_closed
still_there true x xs = refl
still_there false x xs = refl

pub still_over : (closed : Bool) → still_closed closed [] ≡ false
unfolding still_closed
still_over true = refl
still_over false = refl

-- no bytes at all: a place that waits
pub look_nothing : (rules : Rules) → look rules false [] ≡ wait
unfolding look behind after_header cut_short
look_nothing rules = go rules.header
  where
    go : (header : List ℕ) → behind rules.checking false header [] ≡ wait
    go [] = refl
    go (h ∷ header) = refl

-- the loop: what has been passed over, and what is still to be
module _ (rules : Rules) (closed : Bool) (s : List ℕ) (at : ℕ) (so_far : passes rules closed s ≡ at + passes rules closed (drop at s)) where
  module _ (inside : at < length s) where
    abbrev here : List ℕ
    here = get_or s at 0 ∷ drop (suc at) s

    here_is : take (length s - at) (drop at s) ≡ here
    here_is = part_whole s at ∙ drop-cons s at 0 inside

    pub goes_on : Pass ≡ shown (look rules closed (take (length s - at) (drop at s))) → passes rules closed s ≡ at + 1 + passes rules closed (drop (at + 1) s)
    goes_on is =
        let over : is_pass (look rules closed here) ≡ true = over_shown (look rules closed here) (rw here_is at is) in
        let next : passes rules closed (drop at s) ≡ suc (passes rules closed (drop (suc at) s)) =
        rw (drop-cons s at 0 inside) (passes_more rules closed (get_or s at 0) (drop (suc at) s) over) in
        rw (add-one at) (so_far ∙ omega arith)

    pub stops_here : (seen : Look) → seen ≡ shown (look rules closed (take (length s - at) (drop at s))) → (seen ≡ Pass → ⊥)
        → ◌≡◌ {A = Stop} (record { at = at; look = seen }) (stop_of rules closed s)
    unfolding stop_of
    stops_here seen is not =
        let is' : seen ≡ shown (look rules closed here) = rw here_is at is in
        let stops : is_pass (look rules closed here) ≡ false = stops_shown (look rules closed here) (λ e. not (is' ∙ e)) in
        let none : passes rules closed (drop at s) ≡ 0 =
        rw (drop-cons s at 0 inside) (passes_none rules closed (get_or s at 0) (drop (suc at) s) stops) in
        let all : passes rules closed s ≡ at = omega arith in
        rw (all, drop-cons s at 0 inside, still_there closed (get_or s at 0) (drop (suc at) s))
        (ap (λ (l : Look). record { at = at; look = l }) is')

  pub stops_behind : length s ≤ at → at ≤ length s → ◌≡◌ {A = Stop} (record { at = length s; look = Wait }) (stop_of rules closed s)
  unfolding stop_of passes
  stops_behind done inside =
      let none : drop (length s) s ≡ [] = drop_of_length-le s (omega arith) in
      let end : at ≡ length s = omega arith in
      let all : passes rules closed s ≡ length s = rw end at so_far ∙ rw none (omega arith) in
      rw (all, none, still_over closed, look_nothing rules)
