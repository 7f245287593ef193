-- Laws of the moves: an input that is taken, and a report that is handed over, make steps of the course, and keep the rest of it.
use mathlib.Core.Path.{◌≡◌, refl, sym, ap, ◌∙◌}
use mathlib.Core.Bool.{Bool, true, false}
use mathlib.Core.List.{List, [], ◌∷◌, ◌++◌, append_assoc, append-nil}
use Prim.Native.Nat.{ℕ, ◌+◌}
use native.Mathlib.Omega.{arith}
use lib.ListN.{drop}
use Rattle.reading.specs.Place.{Rules, Seen, pass, wait, bad, accepted, Report, look, report_of, is_wait}
use Rattle.reading.specs.Line.{Input, byte, mark}
use Rattle.reading.specs.Moves.{Kept, is_report, settled, waiting, with_byte, with_mark, handed, after_report}
use Rattle.reading.specs.Run.{closing, with_input}
use Rattle.reading.proofs.Stable.{true_is_not_false}
use Rattle.reading.proofs.Moves.{some_kept, report_settles, nothing_changes}
use Rattle.course.specs.Course.{stride, reports_in, gone_past}
use Rattle.course.specs.Lines.{line_seen, seen_on}
use Rattle.course.specs.Steps.{Move, settling, giving_byte, giving_mark, giving_input, handing_over, going_on, ask_steps}
use Rattle.course.proofs.Course.{Walks, stride_is, reports_of, step_walks}
use Rattle.reading.proofs.Moves.{no_report}
use Rattle.course.proofs.Lines.{line_walks}
use Rattle.course.proofs.Settling.{settling_onward, settling_reports}

-- From one state inputs and asks lead to another by these steps: any line behind them is gone through from there alone.
pub record Onward (rules : Rules) (kept : Kept) (given : List Input) (these : List Seen) (next : Kept) : Type 0 where
  pub along : (more : List Input) → seen_on rules kept (given ++ more) ≡ these ++ seen_on rules next more

pub stays_kept : (rules : Rules) (kept : Kept) → Onward rules kept [] [] kept
stays_kept rules kept = record { along = λ more. refl }

pub onward_then : {rules : Rules} {kept next last : Kept} {given later : List Input} {these those : List Seen} → Onward rules kept given these next
    → Onward rules next later those last → Onward rules kept (given ++ later) (these ++ those) last
onward_then {rules} {last = last} {given = given} {later = later} {these = these} {those = those} first second =
    record {
      along = λ more.
          rw (append_assoc given later more, append_assoc these those (seen_on rules last more))
          (first.along (later ++ more) ∙ ap (λ (l : List Seen). these ++ l) (second.along more));
    }

report_decided : (seen : Seen) → is_report seen ≡ true → is_wait seen ≡ false
unfolding is_report is_wait
report_decided pass is = refl
report_decided wait is = true_is_not_false (sym is)
report_decided (bad body) is = refl
report_decided (accepted body) is = refl

-- an input that is taken leaves what the reading keeps behind it
pub giving_keeps : (rules : Rules) (kept : Kept) (input : Input) → (giving_input rules kept input).kept ≡ with_input rules kept input
unfolding giving_input giving_byte giving_mark settling with_input with_byte with_mark
giving_keeps rules kept (byte b) = refl
giving_keeps rules kept mark = refl

-- and the course goes on from there
pub input_onward : (rules : Rules) (kept : Kept) (input : Input) → kept.closed ≡ false
    → Onward rules kept (input ∷ []) (giving_input rules kept input).steps (with_input rules kept input)
unfolding with_input with_byte with_mark giving_input giving_byte giving_mark seen_on closing line_seen
input_onward rules kept (byte b) is_open =
    let xs = kept.bytes ++ (b ∷ []) in
    record { along = λ more. rw is_open (settling_onward rules false xs more) }
input_onward rules kept mark is_open = record { along = λ more. rw is_open (settling_onward rules true kept.bytes more) }

-- an input that is taken hands nothing over: the steps that it makes report nothing
pub input_reports : (rules : Rules) (kept : Kept) (input : Input) → reports_in rules (giving_input rules kept input).steps ≡ []
unfolding giving_input giving_byte giving_mark
input_reports rules kept (byte b) = settling_reports rules false (kept.bytes ++ (b ∷ []))
input_reports rules kept mark = settling_reports rules true kept.bytes

-- a report that is asked for
module _ (rules : Rules) (kept : Kept) where
  -- what stands at the first byte kept
  abbrev seen : Seen
  seen = look rules kept.closed kept.bytes

  -- where reading goes to from the place of the report
  abbrev pub behind_report : List ℕ
  behind_report = drop (stride rules seen) kept.bytes

  -- handing over is the one step of the report, or none
  pub handing_steps : waiting rules kept ≡ true → (handing_over rules kept).steps ≡ look rules kept.closed kept.bytes ∷ []
  unfolding waiting handing_over
  handing_steps waits = rw waits

  -- and what is behind it is still kept
  pub handing_leaves : waiting rules kept ≡ true → (handing_over rules kept).kept ≡ record { closed = kept.closed; bytes = behind_report }
  unfolding waiting handing_over gone_past
  handing_leaves waits =
      let one : stride rules seen + 0 ≡ stride rules seen = omega arith in
      rw (waits, one)

  pub handing_none : waiting rules kept ≡ false → (handing_over rules kept).steps ≡ []
  unfolding waiting handing_over
  handing_none quiet = rw quiet

  -- "reports are then asked for one at a time": that step reports what is handed over
  pub handing_reports : reports_in rules (handing_over rules kept).steps ≡ handed rules kept
  unfolding reports_in handed
  handing_reports = go (waiting rules kept) refl
    where
      go : (b : Bool) → waiting rules kept ≡ b → reports_in rules (handing_over rules kept).steps ≡ report_of rules seen
      go true waits = ap (reports_in rules) (handing_steps waits) ∙ append-nil (report_of rules seen)
      go false quiet = ap (reports_in rules) (handing_none quiet) ∙ sym (no_report rules seen (unfold waiting in quiet))

  -- "report a bad check .., go to p+1"; "report an accepted frame .., go to p+3+L": and then what is behind it settles
  report_moves : waiting rules kept ≡ true → going_on rules kept ≡ settling rules kept.closed behind_report
  unfolding going_on
  report_moves waits = rw (waits, handing_leaves waits)

  nothing_moves : waiting rules kept ≡ false → going_on rules kept ≡ record { steps = []; kept = kept }
  unfolding going_on
  nothing_moves quiet = rw quiet

  -- the reading goes as far
  pub behind_is : waiting rules kept ≡ true → after_report rules kept ≡ settled rules kept.closed behind_report
  behind_is waits =
      let to = stride_is rules seen (report_decided seen (unfold waiting in waits)) in
      report_settles rules kept waits ∙ ap (λ (n : ℕ). settled rules kept.closed (drop n kept.bytes)) (sym to)

  -- handing over and then going on leaves what the reading keeps after an ask
  pub going_on_keeps : (going_on rules kept).kept ≡ after_report rules kept
  going_on_keeps = go (waiting rules kept) refl
    where
      go : (b : Bool) → waiting rules kept ≡ b → (going_on rules kept).kept ≡ after_report rules kept
      go true waits = unfold settling in ap (λ (m : Move). m.kept) (report_moves waits) ∙ sym (behind_is waits)
      go false quiet = ap (λ (m : Move). m.kept) (nothing_moves quiet) ∙ sym (nothing_changes rules kept quiet)

  report_walks : waiting rules kept ≡ true → Walks rules kept.closed kept.bytes (seen ∷ []) behind_report
  unfolding waiting
  report_walks waits = step_walks rules kept.closed kept.bytes seen (some_kept rules kept.closed kept.bytes waits) refl (report_decided seen waits)

  -- the steps of an ask: that of the report, and those that pass over what is behind it
  pub steps_of_ask : waiting rules kept ≡ true → ask_steps rules kept ≡ look rules kept.closed kept.bytes ∷ (settling rules kept.closed behind_report).steps
  unfolding ask_steps
  steps_of_ask waits = rw (handing_steps waits, report_moves waits)

  -- "'Nothing' changes nothing"
  pub ask_no_steps : waiting rules kept ≡ false → ask_steps rules kept ≡ []
  unfolding ask_steps
  ask_no_steps quiet = rw (handing_none quiet, nothing_moves quiet)

  report_along : waiting rules kept ≡ true → (more : List Input)
      → seen_on rules kept more ≡ (seen ∷ (settling rules kept.closed behind_report).steps) ++ seen_on rules (settled rules kept.closed behind_report) more
  unfolding seen_on
  report_along waits more =
      line_walks rules kept.closed (seen ∷ []) kept.bytes behind_report more (report_walks waits)
      ∙ ap (λ (l : List Seen). seen ∷ l) (settling_onward rules kept.closed behind_report more)

  pub report_onward : Onward rules kept [] (ask_steps rules kept) (after_report rules kept)
  report_onward = go (waiting rules kept) refl
    where
      go : (b : Bool) → waiting rules kept ≡ b → Onward rules kept [] (ask_steps rules kept) (after_report rules kept)
      go true waits = rw (steps_of_ask waits, behind_is waits) (record { along = report_along waits })
      go false quiet = rw (ask_no_steps quiet, nothing_changes rules kept quiet) (stays_kept rules kept)

  -- the steps of an ask report what is handed over, and nothing else
  pub ask_reports : reports_in rules (ask_steps rules kept) ≡ handed rules kept
  unfolding ask_steps
  ask_reports =
      let first = (handing_over rules kept).steps in
      reports_of rules false first (going_on rules kept).steps
      ∙ ap (λ (l : List Report). reports_in rules first ++ l) (none (waiting rules kept) refl)
      ∙ append-nil (reports_in rules first)
      ∙ handing_reports
    where
      none : (b : Bool) → waiting rules kept ≡ b → reports_in rules (going_on rules kept).steps ≡ []
      none true waits = ap (λ (m : Move). reports_in rules m.steps) (report_moves waits) ∙ settling_reports rules kept.closed behind_report
      none false quiet = unfold reports_in in ap (λ (m : Move). reports_in rules m.steps) (nothing_moves quiet)
