-- Laws of the reading of a line: of its open stretch only the bytes held matter.
use mathlib.Core.Path.{◌≡◌, refl, sym, ap, ◌∙◌}
use mathlib.Core.Bool.{Bool, true, false}
use mathlib.Core.List.{List, [], ◌∷◌, ◌++◌, map, append_assoc, append-nil}
use Prim.Native.Nat.{ℕ}
use Rattle.reading.specs.Place.{Rules, Report}
use Rattle.reading.specs.Stretch.{reports, held_of}
use Rattle.reading.specs.Line.{Input, byte, mark, line_from, line_reports}
use Rattle.reading.specs.Run.{closing, open_from, line_held}
use Rattle.reading.proofs.Course.{GoesOn, reports_nil, held_nil}
use Rattle.reading.proofs.Appending.{goes_on_append, goes_on_held}

module _ (rules : Rules) where
  open_line_goes_on : (these : List Report) (xs ys : List ℕ) (line : List Input) → GoesOn rules false xs these ys
      → line_from rules xs line ≡ these ++ line_from rules ys line
  unfolding line_from
  open_line_goes_on these xs ys [] on = on.reported
  open_line_goes_on these xs ys (byte b ∷ line) on =
      open_line_goes_on these (xs ++ (b ∷ [])) (ys ++ (b ∷ [])) line (goes_on_append rules false xs these ys (b ∷ []) on)
  open_line_goes_on these xs ys (mark ∷ line) on =
      let closed : GoesOn rules true xs these ys = rw (append-nil xs, append-nil ys) at (goes_on_append rules true xs these ys [] on) in
      rw closed.reported (append_assoc these (reports rules true ys) (line_from rules [] line))

  open_held_goes_on : (these : List Report) (xs ys : List ℕ) (line : List Input) → GoesOn rules false xs these ys
      → held_of rules (open_from xs line) ≡ held_of rules (open_from ys line)
  unfolding open_from held_of
  open_held_goes_on these xs ys [] on = on.left
  open_held_goes_on these xs ys (byte b ∷ line) on =
      open_held_goes_on these (xs ++ (b ∷ [])) (ys ++ (b ∷ [])) line (goes_on_append rules false xs these ys (b ∷ []) on)
  open_held_goes_on these xs ys (mark ∷ line) on = refl

  -- a stretch that gives some reports and goes on as another does so with any line behind them, a mark first where it is closed
  pub line_goes_on : (closed : Bool) (these : List Report) (xs ys : List ℕ) (line : List Input) → GoesOn rules closed xs these ys
      → line_from rules xs (closing closed line) ≡ these ++ line_from rules ys (closing closed line)
  unfolding line_from closing
  line_goes_on true these xs ys line on = rw on.reported (append_assoc these (reports rules true ys) (line_from rules [] line))
  line_goes_on false these xs ys line on = open_line_goes_on these xs ys line on

  pub held_goes_on : (closed : Bool) (these : List Report) (xs ys : List ℕ) (line : List Input) → GoesOn rules closed xs these ys
      → held_of rules (open_from xs (closing closed line)) ≡ held_of rules (open_from ys (closing closed line))
  unfolding open_from closing
  held_goes_on true these xs ys line on = refl
  held_goes_on false these xs ys line on = open_held_goes_on these xs ys line on

  -- of an open stretch only the bytes held matter for what follows
  pub line_held_lem : (xs : List ℕ) (line : List Input) → line_from rules xs line ≡ reports rules false xs ++ line_from rules (held_of rules xs) line
  line_held_lem xs line = open_line_goes_on (reports rules false xs) xs (held_of rules xs) line (goes_on_held rules xs)

-- a line of bytes alone is one open stretch; with a mark behind them, one closed stretch
line_bytes : (rules : Rules) (stretch xs : List ℕ) (line : List Input) → line_from rules stretch (map byte xs ++ line) ≡ line_from rules (stretch ++ xs) line
unfolding line_from
line_bytes rules stretch [] line = rw (append-nil stretch)
line_bytes rules stretch (x ∷ xs) line = line_bytes rules (stretch ++ (x ∷ [])) xs line ∙ rw (append_assoc stretch (x ∷ []) xs)

pub open_line : (rules : Rules) (xs : List ℕ) → line_reports rules (map byte xs) ≡ reports rules false xs
unfolding line_reports line_from
open_line rules xs = ap (line_from rules []) (sym (append-nil (map byte xs))) ∙ line_bytes rules [] xs []

pub closed_line : (rules : Rules) (xs : List ℕ) → line_reports rules (map byte xs ++ (mark ∷ [])) ≡ reports rules true xs
unfolding line_reports line_from
closed_line rules xs =
    line_bytes rules [] xs (mark ∷ [])
    ∙ ap (λ (l : List Report). reports rules true xs ++ l) (reports_nil rules false)
    ∙ append-nil (reports rules true xs)

-- the stretch that is open behind a mark begins there
open_behind : (stretch : List ℕ) (line more : List Input) → open_from stretch (line ++ (mark ∷ more)) ≡ open_from [] more
unfolding open_from
open_behind stretch [] more = refl
open_behind stretch (byte b ∷ line) more = open_behind (stretch ++ (b ∷ [])) line more
open_behind stretch (mark ∷ line) more = open_behind [] line more

pub held_behind_mark : (rules : Rules) (line : List Input) → line_held rules (line ++ (mark ∷ [])) ≡ []
unfolding line_held open_from held_of
held_behind_mark rules line = ap (held_of rules) (open_behind [] line []) ∙ held_nil rules false
