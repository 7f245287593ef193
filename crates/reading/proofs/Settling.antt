-- Laws of `settled`: what is passed over is neither reported nor held, and what is left is at rest.
use mathlib.Core.Path.{◌≡◌, refl, sym, ap, ◌∙◌}
use mathlib.Core.Bool.{Bool, true, false, cond}
use mathlib.Core.List.{List, [], ◌∷◌}
use Prim.Native.Nat.{ℕ, suc, ◌≤◌, ◌<◌}
use native.Mathlib.Omega.{arith}
use lib.ListN.{length, drop, length-drop}
use Rattle.reading.specs.Place.{Rules, Seen, pass, wait, bad, accepted, cut_short, look, report_of, gone_by, is_wait}
use Rattle.reading.specs.Stretch.{reports, held_of}
use Rattle.reading.specs.Line.{Input, line_from}
use Rattle.reading.specs.Moves.{Kept, fresh, is_pass, passes, still_closed, settled, is_report, waiting}
use Rattle.reading.specs.Run.{closing, read_on, open_from, held_on}
use Rattle.reading.proofs.Stable.{true_is_not_false}
use Rattle.reading.proofs.Waiting.{look_nil, closed_goes_on}
use Rattle.reading.proofs.Course.{GoesOn, reports_nil, reports_stays, held_stays, place_goes_on, stays_here, goes_further}
use Rattle.reading.proofs.Lines.{line_goes_on, held_goes_on}

-- What is known of a state that a reader reaches: where no report waits, the stretch is open and its first place waits.
pub record Settled (rules : Rules) (kept : Kept) : Type 0 where
  pub is_open : waiting rules kept ≡ false → kept.closed ≡ false
  pub first_waits : waiting rules kept ≡ false → is_wait (look rules false kept.bytes) ≡ true

-- nothing stands where there is no byte: no report waits there
pub quiet_nil : (rules : Rules) (closed : Bool) → waiting rules (record { closed = closed; bytes = [] }) ≡ false
unfolding waiting is_report
quiet_nil rules closed = ap is_report (look_nil rules closed) ∙ go closed
  where
    go : (closed : Bool) → is_report (cut_short closed) ≡ false
    go false = unfold cut_short in refl
    go true = unfold cut_short in refl

waits_nil : (rules : Rules) → is_wait (look rules false []) ≡ true
unfolding is_wait cut_short
waits_nil rules = ap is_wait (look_nil rules false)

pub fresh_settled : (rules : Rules) → Settled rules fresh
fresh_settled rules = record { is_open = λ quiet. refl; first_waits = λ quiet. waits_nil rules }

is_pass_lem : (seen : Seen) → is_pass seen ≡ true → seen ≡ pass
unfolding is_pass
is_pass_lem pass is = refl
is_pass_lem wait is = true_is_not_false (sym is)
is_pass_lem (bad body) is = true_is_not_false (sym is)
is_pass_lem (accepted body) is = true_is_not_false (sym is)

pub neither : (seen : Seen) → is_pass seen ≡ false → is_report seen ≡ false → is_wait seen ≡ true
unfolding is_pass is_report is_wait
neither pass p r = true_is_not_false p
neither wait p r = refl
neither (bad body) p r = true_is_not_false r
neither (accepted body) p r = true_is_not_false r

pass_goes_on : (rules : Rules) (closed : Bool) (x : ℕ) (xs : List ℕ) → look rules closed (x ∷ xs) ≡ pass → GoesOn rules closed (x ∷ xs) [] xs
unfolding is_wait report_of gone_by
pass_goes_on rules closed x xs is = place_goes_on rules closed (x ∷ xs) pass is refl

module _ (rules : Rules) (closed : Bool) where
  abbrev left : List ℕ → List ℕ
  left xs = drop (passes rules closed xs) xs

  -- what is passed over gives no report and is not held
  left_goes_on : (xs : List ℕ) → GoesOn rules closed xs [] (left xs)
  unfolding passes
  left_goes_on [] = stays_here rules closed []
  left_goes_on (x ∷ xs) = go (is_pass (look rules closed (x ∷ xs))) refl (left_goes_on xs)
    where
      go : (b : Bool) → is_pass (look rules closed (x ∷ xs)) ≡ b → GoesOn rules closed xs [] (left xs)
          → GoesOn rules closed (x ∷ xs) [] (drop (cond b (suc (passes rules closed xs)) 0) (x ∷ xs))
      go true is rest = goes_further rules closed (pass_goes_on rules closed x xs (is_pass_lem (look rules closed (x ∷ xs)) is)) rest
      go false is rest = stays_here rules closed (x ∷ xs)

  -- the place where passing over ends is no place to pass over
  left_stops : (xs : List ℕ) → 0 < length (left xs) → is_pass (look rules closed (left xs)) ≡ false
  unfolding passes
  left_stops [] some = absurd (omega arith)
  left_stops (x ∷ xs) some = go (is_pass (look rules closed (x ∷ xs))) refl (left_stops xs) some
    where
      go : (b : Bool) → is_pass (look rules closed (x ∷ xs)) ≡ b → (0 < length (left xs) → is_pass (look rules closed (left xs)) ≡ false)
          → 0 < length (drop (cond b (suc (passes rules closed xs)) 0) (x ∷ xs))
          → is_pass (look rules closed (drop (cond b (suc (passes rules closed xs)) 0) (x ∷ xs))) ≡ false
      go true is rest some = rest some
      go false is rest some = is

  -- a closed stretch that is gone through is as no stretch at all
  over_reads : (c : Bool) (ys : List ℕ) (line : List Input) → line_from rules ys (closing (still_closed c ys) line) ≡ line_from rules ys (closing c line)
  unfolding still_closed closing line_from
  over_reads false ys line = refl
  over_reads true [] line = rw (reports_nil rules true)
  over_reads true (y ∷ ys) line = refl

  over_holds : (c : Bool) (ys : List ℕ) (line : List Input) → open_from ys (closing (still_closed c ys) line) ≡ open_from ys (closing c line)
  unfolding still_closed closing open_from
  over_holds false ys line = refl
  over_holds true [] line = refl
  over_holds true (y ∷ ys) line = refl

  -- the reading of a line goes on from a settled state as from the stretch it was made of
  pub settled_reads : (xs : List ℕ) (line : List Input) → read_on rules (settled rules closed xs) line ≡ line_from rules xs (closing closed line)
  unfolding read_on settled
  settled_reads xs line = over_reads closed (left xs) line ∙ sym (line_goes_on rules closed [] xs (left xs) line (left_goes_on xs))

  pub settled_holds : (xs : List ℕ) (line : List Input) → held_on rules (settled rules closed xs) line ≡ held_of rules (open_from xs (closing closed line))
  unfolding held_on settled
  settled_holds xs line = ap (held_of rules) (over_holds closed (left xs) line) ∙ sym (held_goes_on rules closed [] xs (left xs) line (left_goes_on xs))

  -- and so do its own reports
  over_reports : (c : Bool) (ys : List ℕ) → reports rules (still_closed c ys) ys ≡ reports rules c ys
  unfolding still_closed
  over_reports false ys = refl
  over_reports true [] = reports_nil rules false ∙ sym (reports_nil rules true)
  over_reports true (y ∷ ys) = refl

  pub settled_reports : (xs : List ℕ) → reports rules (settled rules closed xs).closed (settled rules closed xs).bytes ≡ reports rules closed xs
  unfolding settled
  settled_reports xs = over_reports closed (left xs) ∙ sym (left_goes_on xs).reported

  -- settling only takes bytes away
  pub settled_shorter : (xs : List ℕ) → length (settled rules closed xs).bytes ≤ length xs
  unfolding settled
  settled_shorter xs = omega (arith, length-drop (passes rules closed xs) xs)

pub settled_settled : (rules : Rules) (closed : Bool) (xs : List ℕ) → Settled rules (settled rules closed xs)
unfolding settled still_closed waiting
settled_settled rules closed xs = go closed (drop (passes rules closed xs) xs) (left_stops rules closed xs)
  where
    go : (c : Bool) (ys : List ℕ) → (0 < length ys → is_pass (look rules c ys) ≡ false) → Settled rules (record { closed = still_closed c ys; bytes = ys })
    go false [] stops = fresh_settled rules
    go true [] stops = fresh_settled rules
    go false (y ∷ ys) stops =
        record { is_open = λ quiet. refl; first_waits = λ quiet. neither (look rules false (y ∷ ys)) (stops (omega arith)) quiet }
    go true (y ∷ ys) stops =
        let not-quiet : waiting rules (record { closed = true; bytes = y ∷ ys }) ≡ false → ⊥ =
        λ quiet. true_is_not_false (sym (neither (look rules true (y ∷ ys)) (stops (omega arith)) quiet) ∙ closed_goes_on rules (y ∷ ys)) in
        record { is_open = λ quiet. absurd (not-quiet quiet); first_waits = λ quiet. absurd (not-quiet quiet) }

-- while no report waits there is none left to hand over, and what is kept is held
module _ (rules : Rules) (kept : Kept) (now : Settled rules kept) (quiet : waiting rules kept ≡ false) where
  pub quiet_reads : (line : List Input) → read_on rules kept line ≡ line_from rules kept.bytes line
  unfolding read_on closing
  quiet_reads line = rw (now.is_open quiet)

  pub quiet_no_report : read_on rules kept [] ≡ []
  unfolding line_from
  quiet_no_report = quiet_reads [] ∙ reports_stays rules false kept.bytes (now.first_waits quiet)

  pub quiet_holds : held_on rules kept [] ≡ kept.bytes
  unfolding held_on closing open_from held_of
  quiet_holds = rw (now.is_open quiet) (held_stays rules false kept.bytes (now.first_waits quiet))

-- "nothing is held or waiting": such a state is that of a new reader
pub empty_is_fresh : (rules : Rules) (kept : Kept) → Settled rules kept → kept.bytes ≡ [] → kept ≡ fresh
unfolding waiting
empty_is_fresh rules kept now empty =
    let quiet : is_report (look rules kept.closed kept.bytes) ≡ false = rw empty (quiet_nil rules kept.closed) in
    let is_open = now.is_open quiet in
    λ i. record { closed = is_open i; bytes = empty i }
