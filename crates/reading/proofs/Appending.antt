-- Reading on: what was read stands, and reading goes on from the bytes held.
use mathlib.Core.Path.{◌≡◌, sym, ap, ◌∙◌}
use mathlib.Core.Bool.{Bool, true, false}
use mathlib.Core.List.{List, [], ◌++◌, append_assoc, append-nil}
use Prim.Native.Nat.{ℕ, suc}
use lib.ListN.{drop}
use lib.Seq.{drop-append-le}
use Rattle.reading.specs.Place.{Rules, Seen, Report, look, report_of, gone_by, is_wait}
use Rattle.reading.specs.Stretch.{reports, held_from, held_of}
use Rattle.reading.proofs.Stable.{stable, true_is_not_false}
use Rattle.reading.proofs.Waiting.{closed_goes_on}
use Rattle.reading.proofs.Course.{GoesOn, reports_nil, held_nil, reports_stays, held_stays, place_goes_on, stays_here, goes_further, Course, over, stays, goes, course, gone_inside}

module _ (rules : Rules) (closed : Bool) where
  -- a place that is decided, with bytes behind
  still_goes_on : (xs ys : List ℕ) (seen : Seen) → look rules false xs ≡ seen → is_wait seen ≡ false
      → GoesOn rules closed (xs ++ ys) (report_of rules seen) (drop (suc (gone_by rules seen)) xs ++ ys)
  still_goes_on xs ys seen is decided =
      let gone = suc (gone_by rules seen) in
      let still : look rules closed (xs ++ ys) ≡ seen = stable rules closed xs ys (ap is_wait is ∙ decided) ∙ is in
      rw (drop-append-le gone xs ys (gone_inside rules xs seen is decided)) at (place_goes_on rules closed (xs ++ ys) seen still decided)

  along : (xs ys : List ℕ) → Course rules false xs → GoesOn rules closed (xs ++ ys) (reports rules false xs) (held_from rules false 0 xs ++ ys)
  along [] ys over = rw (reports_nil rules false, held_nil rules false) (stays_here rules closed ys)
  along xs ys (stays waits) = rw (reports_stays rules false xs waits, held_stays rules false xs waits) (stays_here rules closed (xs ++ ys))
  along xs ys (goes seen is decided rest) =
      let open-here = place_goes_on rules false xs seen is decided in
      rw (open-here.reported, open-here.left)
      (goes_further rules closed (still_goes_on xs ys seen is decided) (along (drop (suc (gone_by rules seen)) xs) ys rest))

  -- bytes that follow, and a mark or none behind them: the reports so far, then those of what is held and the bytes that follow
  pub appended : (xs ys : List ℕ) → GoesOn rules closed (xs ++ ys) (reports rules false xs) (held_of rules xs ++ ys)
  unfolding held_of
  appended xs ys = along xs ys (course rules false xs)

  pub reports_append : (xs ys : List ℕ) → reports rules closed (xs ++ ys) ≡ reports rules false xs ++ reports rules closed (held_of rules xs ++ ys)
  reports_append xs ys = (appended xs ys).reported

  -- so stretches of which one goes on as the other do so with any bytes behind them
  pub goes_on_append : (xs : List ℕ) (these : List Report) (ys more : List ℕ) → GoesOn rules false xs these ys
      → GoesOn rules closed (xs ++ more) these (ys ++ more)
  unfolding held_of
  goes_on_append xs these ys more open-stretch =
      let first = appended xs more in
      let second = appended ys more in
      record {
        reported = first.reported
            ∙ rw (open-stretch.reported, open-stretch.left, append_assoc these (reports rules false ys) (reports rules closed (held_from rules false 0 ys ++ more)))
            (ap (λ (l : List Report). these ++ l) (sym second.reported));
        left = first.left ∙ rw open-stretch.left (sym second.left);
      }

pub held_append : (rules : Rules) (xs ys : List ℕ) → held_of rules (xs ++ ys) ≡ held_of rules (held_of rules xs ++ ys)
unfolding held_of
held_append rules xs ys = (appended rules false xs ys).left

-- what is held gives no report yet
no_report_along : (rules : Rules) (xs : List ℕ) → Course rules false xs → reports rules false (held_from rules false 0 xs) ≡ []
no_report_along rules [] over = rw (held_nil rules false) (reports_nil rules false)
no_report_along rules xs (stays waits) = rw (held_stays rules false xs waits) (reports_stays rules false xs waits)
no_report_along rules xs (goes seen is decided rest) =
    rw (place_goes_on rules false xs seen is decided).left (no_report_along rules (drop (suc (gone_by rules seen)) xs) rest)

pub held_no_report : (rules : Rules) (xs : List ℕ) → reports rules false (held_of rules xs) ≡ []
unfolding held_of
held_no_report rules xs = no_report_along rules xs (course rules false xs)

pub held_again : (rules : Rules) (xs : List ℕ) → held_of rules (held_of rules xs) ≡ held_of rules xs
held_again rules xs = sym (ap (held_of rules) (sym (append-nil xs)) ∙ held_append rules xs [] ∙ rw (append-nil (held_of rules xs)))

-- an open stretch goes on as what is held of it
pub goes_on_held : (rules : Rules) (xs : List ℕ) → GoesOn rules false xs (reports rules false xs) (held_of rules xs)
unfolding held_of
goes_on_held rules xs =
    record {
      reported = sym (ap (λ (l : List Report). reports rules false xs ++ l) (held_no_report rules xs) ∙ append-nil (reports rules false xs));
      left = sym (held_again rules xs);
    }

-- nothing is left of a closed stretch
closed_along : (rules : Rules) (xs : List ℕ) → Course rules true xs → held_from rules true 0 xs ≡ []
closed_along rules [] over = held_nil rules true
closed_along rules xs (stays waits) = true_is_not_false (sym waits ∙ closed_goes_on rules xs)
closed_along rules xs (goes seen is decided rest) =
    (place_goes_on rules true xs seen is decided).left ∙ closed_along rules (drop (suc (gone_by rules seen)) xs) rest

pub closed_holds_nothing : (rules : Rules) (xs : List ℕ) → held_from rules true 0 xs ≡ []
closed_holds_nothing rules xs = closed_along rules xs (course rules true xs)
