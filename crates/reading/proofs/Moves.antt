-- Laws of the moves: an input that is taken, and a report that is handed over, keep the reading of the line.
use mathlib.Core.Path.{◌≡◌, refl, sym, ap, ◌∙◌}
use mathlib.Core.Bool.{Bool, true, false, cond}
use mathlib.Core.List.{List, [], ◌∷◌, ◌++◌, append_assoc}
use Prim.Native.Nat.{ℕ, suc, ◌<◌}
use native.Mathlib.Omega.{arith}
use lib.ListN.{length, drop, length-drop}
use Rattle.reading.specs.Place.{Rules, Seen, pass, wait, bad, accepted, Report, look, report_of, gone_by, is_wait}
use Rattle.reading.specs.Stretch.{reports}
use Rattle.reading.specs.Line.{Input, byte, mark, line_from}
use Rattle.reading.specs.Moves.{Kept, settled, is_report, waiting, with_byte, with_mark, handed, after_report}
use Rattle.reading.specs.Run.{with_input, closing, read_on, open_from, held_on}
use Rattle.reading.proofs.Stable.{true_is_not_false}
use Rattle.reading.proofs.Course.{GoesOn, place_goes_on}
use Rattle.reading.proofs.Lines.{line_goes_on, held_goes_on}
use Rattle.reading.proofs.Settling.{Settled, quiet_nil, settled_settled, settled_reads, settled_holds, settled_shorter}

-- From one state inputs and reports lead to another: any line behind them is read on from there alone.
pub record Onward (rules : Rules) (kept : Kept) (given : List Input) (these : List Report) (next : Kept) : Type 0 where
  pub reads : (more : List Input) → read_on rules kept (given ++ more) ≡ these ++ read_on rules next more
  pub holds : (more : List Input) → held_on rules kept (given ++ more) ≡ held_on rules next more

pub stays_kept : (rules : Rules) (kept : Kept) → Onward rules kept [] [] kept
stays_kept rules kept = record { reads = λ more. refl; holds = λ more. refl }

pub onward_then : {rules : Rules} {kept next last : Kept} {given later : List Input} {these those : List Report} → Onward rules kept given these next
    → Onward rules next later those last → Onward rules kept (given ++ later) (these ++ those) last
onward_then {rules} {last = last} {given = given} {later = later} {these = these} {those = those} first second =
    record {
      reads = λ more.
          rw (append_assoc given later more, append_assoc these those (read_on rules last more))
          (first.reads (later ++ more) ∙ ap (λ (l : List Report). these ++ l) (second.reads more));
      holds = λ more. rw (append_assoc given later more) (first.holds (later ++ more) ∙ second.holds more);
    }

report_decided : (seen : Seen) → is_report seen ≡ true → is_wait seen ≡ false
unfolding is_report is_wait
report_decided pass is = refl
report_decided wait is = true_is_not_false (sym is)
report_decided (bad body) is = refl
report_decided (accepted body) is = refl

pub no_report : (rules : Rules) (seen : Seen) → is_report seen ≡ false → report_of rules seen ≡ []
unfolding is_report report_of
no_report rules pass is = refl
no_report rules wait is = refl
no_report rules (bad body) is = true_is_not_false is
no_report rules (accepted body) is = true_is_not_false is

no_report_only : (rules : Rules) (seen : Seen) → report_of rules seen ≡ [] → is_report seen ≡ false
unfolding is_report report_of
no_report_only rules pass none = refl
no_report_only rules wait none = refl
no_report_only rules (bad body) none = cc
no_report_only rules (accepted body) none = cc

-- an input that is taken
pub input_settled : (rules : Rules) (kept : Kept) (input : Input) → Settled rules (with_input rules kept input)
unfolding with_input with_byte with_mark
input_settled rules kept (byte b) = settled_settled rules false (kept.bytes ++ (b ∷ []))
input_settled rules kept mark = settled_settled rules true kept.bytes

pub input_onward : (rules : Rules) (kept : Kept) (input : Input) → kept.closed ≡ false
    → Onward rules kept (input ∷ []) [] (with_input rules kept input)
unfolding with_input with_byte with_mark read_on held_on closing line_from open_from
input_onward rules kept (byte b) is_open =
    let xs = kept.bytes ++ (b ∷ []) in
    record {
      reads = λ more. rw is_open (sym (settled_reads rules false xs more));
      holds = λ more. rw is_open (sym (settled_holds rules false xs more));
    }
input_onward rules kept mark is_open =
    record {
      reads = λ more. rw is_open (sym (settled_reads rules true kept.bytes more));
      holds = λ more. rw is_open (sym (settled_holds rules true kept.bytes more));
    }

nil_left : (these later : List Report) → these ++ later ≡ [] → these ≡ []
nil_left [] later none = refl
nil_left (report ∷ these) later none = cc

pub some_kept : (rules : Rules) (closed : Bool) (xs : List ℕ) → is_report (look rules closed xs) ≡ true → 0 < length xs
some_kept rules closed [] waits = true_is_not_false (sym waits ∙ unfold waiting in quiet_nil rules closed)
some_kept rules closed (x ∷ xs) waits = omega arith

-- a report that is asked for
module _ (rules : Rules) (kept : Kept) where
  abbrev seen : Seen
  seen = look rules kept.closed kept.bytes

  abbrev onward : List ℕ
  onward = drop (suc (gone_by rules seen)) kept.bytes

  abbrev next : Bool → Kept
  next waits = cond waits (settled rules kept.closed onward) kept

  pub report_settled : Settled rules kept → Settled rules (after_report rules kept)
  unfolding after_report
  report_settled now = go (is_report seen)
    where
      go : (b : Bool) → Settled rules (next b)
      go true = settled_settled rules kept.closed onward
      go false = now

  report_goes_on : is_report seen ≡ true → GoesOn rules kept.closed kept.bytes (report_of rules seen) onward
  report_goes_on is = place_goes_on rules kept.closed kept.bytes seen refl (report_decided seen is)

  pub report_onward : Onward rules kept [] (handed rules kept) (after_report rules kept)
  unfolding handed after_report read_on held_on
  report_onward = go (is_report seen) refl
    where
      go : (b : Bool) → is_report seen ≡ b → Onward rules kept [] (report_of rules seen) (next b)
      go true is =
          record {
            reads = λ more.
                line_goes_on rules kept.closed (report_of rules seen) kept.bytes onward more (report_goes_on is)
                ∙ ap (λ (l : List Report). report_of rules seen ++ l) (sym (settled_reads rules kept.closed onward more));
            holds = λ more.
                held_goes_on rules kept.closed (report_of rules seen) kept.bytes onward more (report_goes_on is)
                ∙ sym (settled_holds rules kept.closed onward more);
          }
      go false is = rw (no_report rules seen is) (stays_kept rules kept)

  -- "Nothing" is the answer exactly where no report waits, and it changes nothing
  pub nothing_handed : waiting rules kept ≡ false → handed rules kept ≡ []
  unfolding waiting handed
  nothing_handed quiet = no_report rules seen quiet

  pub handed_nothing : handed rules kept ≡ [] → waiting rules kept ≡ false
  unfolding waiting handed
  handed_nothing none = no_report_only rules seen none

  pub report_settles : waiting rules kept ≡ true → after_report rules kept ≡ settled rules kept.closed onward
  unfolding waiting after_report
  report_settles waits = rw waits

  -- a report that is handed over takes bytes away
  pub report_shorter : waiting rules kept ≡ true → length (after_report rules kept).bytes < length kept.bytes
  unfolding waiting after_report
  report_shorter waits =
      let some : 0 < length kept.bytes = some_kept rules kept.closed kept.bytes waits in
      let less : length onward < length kept.bytes = simp length-drop (omega arith) in
      rw waits (omega (arith, settled_shorter rules kept.closed onward))

  -- "While one of them is left, a report waits"
  pub no_reports_quiet : reports rules kept.closed kept.bytes ≡ [] → waiting rules kept ≡ false
  unfolding waiting
  no_reports_quiet none = go (is_report seen) refl
    where
      go : (b : Bool) → is_report seen ≡ b → b ≡ false
      go true is =
          true_is_not_false (
          sym is
          ∙ no_report_only rules seen (
          nil_left (report_of rules seen) (reports rules kept.closed onward)
          (sym (report_goes_on is).reported ∙ none)
          )
          )
      go false is = refl

  pub nothing_changes : waiting rules kept ≡ false → after_report rules kept ≡ kept
  unfolding waiting after_report
  nothing_changes quiet = rw quiet
