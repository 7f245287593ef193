-- 01, "Reading the line", of a panel: "The reports asked for, in order, are those of the reading of all that was given."
use mathlib.Core.Path.{◌≡◌, sym, ap, ◌∙◌}
use mathlib.Core.List.{List, ◌++◌}
use Rattle.reading.specs.Place.{Rules, Report}
use Rattle.reading.specs.Stretch.{reports}
use Rattle.reading.specs.Line.{line_reports}
use Rattle.reading.specs.Moves.{Kept, fresh, waiting}
use Rattle.reading.specs.Run.{run, line_held}
use Rattle.reading.proofs.Run.{handed_first, handed_all, kept_is_held, none_waits_after_all}
use Rattle.line.specs.declared.Line as Declared
use Rattle.line.specs.declared.Reader.{Reader}
use Rattle.line.specs.State.{rules_for, kept_of}
use Rattle.line.proofs.Carried.{kept_is, held_below_longest}
use Rattle.touch.specs.declared.Setup.{Setup}
use Rattle.panel.specs.Sound.{line_of}
use Rattle.panel.specs.Reachable.{by_start}
use Rattle.demands.specs.Calls.{Moment, Call, begun, after_all, handed_over_all}
use Rattle.demands.specs.Reports.{report_waits}
use Rattle.demands.specs.Given.{given_all}
use Rattle.demands.specs.AsRead.{AsRead, AlwaysAsRead}
use Rattle.demands.proofs.Reading.{Carries}
use Rattle.demands.proofs.FromNew.{carried, waits_same, new_reader}

module _ (setup : Setup) (now : Moment) (calls : List Call)
    (c : Carries (line_of setup) fresh (given_all now calls) (handed_over_all now calls) (after_all now calls).panel.reader)
    (waits : report_waits (after_all now calls).panel ≡ waiting (rules_for (line_of setup)) (run (rules_for (line_of setup)) fresh c.events).kept) where
  abbrev line : Declared.Line
  line = line_of setup

  abbrev rules : Rules
  rules = rules_for line

  abbrev kept : Kept
  kept = (run rules fresh c.events).kept

  same : kept_of (after_all now calls).panel.reader ≡ kept
  same = ap (λ (r : Reader). kept_of r) c.reads ∙ kept_is line kept

  as_read : AsRead setup now calls
  as_read =
      record {
        in_order =
            ap (line_reports rules) (sym c.gives)
            ∙ handed_first rules c.events
            ∙ ap (λ (l : List Report). l ++ reports rules kept.closed kept.bytes) c.hands
            ∙ ap (λ (k : Kept). handed_over_all now calls ++ reports rules k.closed k.bytes) (sym same);
        while_left = λ none_waits. sym c.hands ∙ handed_all rules c.events (sym waits ∙ none_waits) ∙ ap (line_reports rules) c.gives;
        no_longer = λ all. waits ∙ none_waits_after_all rules c.events (c.hands ∙ all ∙ ap (line_reports rules) (sym c.gives));
        held = λ none_waits.
            ap (λ (k : Kept). k.bytes) (same ∙ kept_is_held rules c.events (sym waits ∙ none_waits)) ∙ ap (line_held rules) c.gives;
        at_most_257 = λ none_waits. rw (ap (λ (k : Kept). k.bytes) same) (held_below_longest line kept c.reached (sym waits ∙ none_waits));
      }

pub always_as_read : AlwaysAsRead
always_as_read setup table lent is calls typed =
    let now = begun setup table lent in
    let reachable = by_start setup table is in
    let new = new_reader setup table lent is in
    as_read setup now calls (carried (line_of setup) now reachable new calls typed) (waits_same (line_of setup) now reachable new calls typed)
