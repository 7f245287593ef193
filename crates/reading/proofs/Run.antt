-- 01, "Reading the line": "The reports asked for, in order, are those of the reading of all that was given", however inputs and asks are mixed.
use mathlib.Core.Path.{◌≡◌, refl, sym, ap, ◌∙◌}
use mathlib.Core.Bool.{Bool, true, false, cond}
use mathlib.Core.List.{List, [], ◌∷◌, ◌++◌, append_assoc, append-nil, append_cancel_left}
use Rattle.reading.specs.Place.{Rules, Report}
use Rattle.reading.specs.Stretch.{reports}
use Rattle.reading.specs.Line.{Input, line_from, line_reports}
use Rattle.reading.specs.Moves.{Kept, fresh, waiting, handed, after_report}
use Rattle.reading.specs.Run.{Event, offer, ask, Ran, giving, handing, followed, with_input, run, closing, read_on, held_on, line_held}
use Rattle.reading.proofs.Course.{reports_nil}
use Rattle.reading.proofs.Settling.{Settled, fresh_settled, quiet_no_report, quiet_holds}
use Rattle.reading.proofs.Moves.{Onward, stays_kept, onward_then, input_settled, input_onward, report_settled, report_onward, handed_nothing, no_reports_quiet}

waiting_reports : (rules : Rules) (kept : Kept) → read_on rules kept [] ≡ reports rules kept.closed kept.bytes
unfolding read_on
waiting_reports rules kept = go kept.closed
  where
    go : (c : Bool) → line_from rules kept.bytes (closing c []) ≡ reports rules c kept.bytes
    go false = unfold line_from closing in refl
    go true = unfold line_from closing in ap (λ (l : List Report). reports rules true kept.bytes ++ l) (reports_nil rules false) ∙ append-nil (reports rules true kept.bytes)

-- all that holds between a state and the one that events have led to
pub record Led (rules : Rules) (kept : Kept) (ran : Ran) : Type 0 where
  pub now : Settled rules ran.kept
  pub onward : Onward rules kept ran.given ran.handed_over ran.kept

pub led : (rules : Rules) (kept : Kept) (events : List Event) → Settled rules kept → Led rules kept (run rules kept events)
unfolding run
led rules kept [] now = record { now = now; onward = stays_kept rules kept }
led rules kept (offer input ∷ events) now =
    go (waiting rules kept) refl (led rules kept events now) (led rules (with_input rules kept input) events (input_settled rules kept input))
  where
    go : (b : Bool) → waiting rules kept ≡ b → Led rules kept (run rules kept events)
        → Led rules (with_input rules kept input) (run rules (with_input rules kept input) events)
        → Led rules kept (cond b (run rules kept events) (giving input (run rules (with_input rules kept input) events)))
    go true waits refused taken = refused
    go false quiet refused taken =
        record { now = taken.now; onward = onward_then (input_onward rules kept input (now.is_open quiet)) taken.onward }
led rules kept (ask ∷ events) now =
    let later = led rules (after_report rules kept) events (report_settled rules kept now) in
    record { now = later.now; onward = onward_then (report_onward rules kept) later.onward }

handing_followed : (these : List Report) (first second : Ran) → handing these (followed first second) ≡ followed (handing these first) second
handing_followed these first second =
    let same = sym (append_assoc these first.handed_over second.handed_over) in
    λ i. record { given = first.given ++ second.given; handed_over = same i; kept = second.kept }

-- events in two parts
pub run_append : (rules : Rules) (kept : Kept) (these later : List Event)
    → run rules kept (these ++ later) ≡ followed (run rules kept these) (run rules (run rules kept these).kept later)
unfolding run
run_append rules kept [] later = refl
run_append rules kept (offer input ∷ these) later =
    go (waiting rules kept) (run_append rules kept these later) (run_append rules (with_input rules kept input) these later)
  where
    go : (b : Bool) → run rules kept (these ++ later) ≡ followed (run rules kept these) (run rules (run rules kept these).kept later)
        → run rules (with_input rules kept input) (these ++ later)
        ≡ followed (run rules (with_input rules kept input) these) (run rules (run rules (with_input rules kept input) these).kept later)
        → cond b (run rules kept (these ++ later)) (giving input (run rules (with_input rules kept input) (these ++ later)))
        ≡ followed (cond b (run rules kept these) (giving input (run rules (with_input rules kept input) these)))
        (run rules (cond b (run rules kept these) (giving input (run rules (with_input rules kept input) these))).kept later)
    go true refused taken = refused
    go false refused taken = ap (giving input) taken
run_append rules kept (ask ∷ these) later =
    let next = after_report rules kept in
    ap (handing (handed rules kept)) (run_append rules next these later)
    ∙ handing_followed (handed rules kept) (run rules next these) (run rules (run rules next these).kept later)

-- from a new reader, for every list of events
module _ (rules : Rules) (events : List Event) where
  -- what the events came to
  abbrev ran : Ran
  ran = run rules fresh events

  abbrev all_led : Led rules fresh ran
  all_led = led rules fresh events (fresh_settled rules)

  pub reached_settled : Settled rules ran.kept
  reached_settled = all_led.now

  -- for any further inputs, reading goes on from what is kept alone
  pub reads_on : (more : List Input) → line_reports rules (ran.given ++ more) ≡ ran.handed_over ++ read_on rules ran.kept more
  unfolding line_reports read_on closing
  reads_on more = all_led.onward.reads more

  pub holds_on : (more : List Input) → line_held rules (ran.given ++ more) ≡ held_on rules ran.kept more
  unfolding line_held held_on closing
  holds_on more = all_led.onward.holds more

  -- "The reports asked for, in order, are those of the reading of all that was given": those handed over, and then those still to be handed over
  pub handed_first : line_reports rules ran.given ≡ ran.handed_over ++ reports rules ran.kept.closed ran.kept.bytes
  handed_first = ap (line_reports rules) (sym (append-nil ran.given)) ∙ reads_on [] ∙ ap (λ (l : List Report). ran.handed_over ++ l) (waiting_reports rules ran.kept)

  module _ (quiet : waiting rules ran.kept ≡ false) where
    -- "While one of them is left, a report waits": once none waits, all of them have been handed over
    pub handed_all : ran.handed_over ≡ line_reports rules ran.given
    handed_all = sym (
        ap (line_reports rules) (sym (append-nil ran.given))
        ∙ reads_on []
        ∙ ap (λ (l : List Report). ran.handed_over ++ l) (quiet_no_report rules ran.kept reached_settled quiet)
        ∙ append-nil ran.handed_over
        )

    -- "otherwise the bytes from the waiting place on are held"
    pub kept_is_held : ran.kept ≡ record { closed = false; bytes = line_held rules ran.given }
    kept_is_held =
        let is_open = reached_settled.is_open quiet in
        let held : ran.kept.bytes ≡ line_held rules ran.given = sym (
        ap (line_held rules) (sym (append-nil ran.given))
        ∙ holds_on []
        ∙ quiet_holds rules ran.kept reached_settled quiet
        ) in
        λ i. record { closed = is_open i; bytes = held i }

  -- and none waits once all of them have been handed over
  pub none_waits_after_all : ran.handed_over ≡ line_reports rules ran.given → waiting rules ran.kept ≡ false
  none_waits_after_all all =
      no_reports_quiet rules ran.kept
      (append_cancel_left ran.handed_over (reports rules ran.kept.closed ran.kept.bytes) [] (sym handed_first ∙ sym all ∙ sym (append-nil ran.handed_over)))

  -- ".. until the answer is 'nothing'"
  pub asked_all : handed rules ran.kept ≡ [] → ran.handed_over ≡ line_reports rules ran.given
  asked_all nothing = handed_all (handed_nothing rules ran.kept nothing)
