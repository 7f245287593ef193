-- Asking is answered "nothing" exactly where none of the reading's reports is left.
use mathlib.Core.Path.{◌≡◌, sym, ap, ◌∙◌}
use mathlib.Core.List.{List, []}
use Rattle.reading.proofs.Moves.{nothing_handed, handed_nothing}
use Rattle.line.specs.State.{kept_of}
use Rattle.line.specs.Reached.{report_as}
use Rattle.touch.specs.declared.Setup.{Setup}
use Rattle.panel.specs.Answers.{AskAnswer}
use Rattle.panel.specs.Numbers.{report_number}
use Rattle.panel.specs.Reporting.{handing, handing_over, reporting}
use Rattle.panel.specs.Sound.{Sound}
use Rattle.panel.specs.Reachable.{Reachable, by_start}
use Rattle.panel.proofs.Invariant.{reachable_sound}
use Rattle.demands.specs.Calls.{Moment, WellLent, Call, begun, after_all, number_given, report_handed, handed_over, AllTyped}
use Rattle.demands.specs.Reports.{rules_of, report_waits, waiting_report}
use Rattle.demands.specs.AsRead.{AsRead}
use Rattle.demands.specs.Done.{Exactly}
use Rattle.demands.specs.Left.{NoneIsLeft, AnswersNothing, HandsNothingOver, AnsweredNothing, NothingWhereNoneLeft}
use Rattle.demands.proofs.Calls.{calls_reached}
use Rattle.demands.proofs.WellLent.{well_tested}
use Rattle.demands.proofs.Waits.{asked_report, sound_ask_hands}
use Rattle.demands.proofs.AsRead.{always_as_read}
use Rattle.demands.proofs.Left.{chained}

module _ (setup : Setup) (now : Moment) (reachable : Reachable now.panel) (calls : List Call) (typed : AllTyped calls) (read : AsRead setup now calls)
    (well : WellLent (after_all now calls).lent) where
  abbrev last : Moment
  last = after_all now calls

  sound : Sound last.panel
  sound = reachable_sound last.panel (calls_reached now calls typed reachable)

  -- nothing waits exactly where none is left
  none_left : Exactly (waiting_report last.panel ≡ []) (NoneIsLeft setup now calls)
  unfolding waiting_report report_waits
  none_left =
      record {
        only_when = λ none. read.while_left (handed_nothing (rules_of last.panel) (kept_of last.panel.reader) none);
        wherever = λ all. nothing_handed (rules_of last.panel) (kept_of last.panel.reader) (read.no_longer all);
      }

  answers_nothing : waiting_report last.panel ≡ [] → AnswersNothing last
  unfolding reporting handing handing_over report_as
  answers_nothing none = rw (well_tested last.lent well, asked_report last.panel sound ∙ ap report_as none)

  nothing_hands : AnswersNothing last → HandsNothingOver last
  unfolding handed_over number_given report_handed report_number
  nothing_hands is =
      (ap (λ (h : AskAnswer). report_handed h (reporting last.panel last.lent).reported.payload) is, ap (λ (h : AskAnswer). report_number h) is)

  hands_none : HandsNothingOver last → waiting_report last.panel ≡ []
  hands_none hands = sym (sound_ask_hands last sound well) ∙ hands.0

  answered_nothing : AnsweredNothing setup now calls
  answered_nothing =
      record {
        answer = chained (record { only_when = λ is. hands_none (nothing_hands is); wherever = answers_nothing }) none_left;
        no_report = chained (record { only_when = hands_none; wherever = λ none. nothing_hands (answers_nothing none) }) none_left;
      }

pub nothing_where_none_left : NothingWhereNoneLeft
nothing_where_none_left setup table lent is calls typed well =
    answered_nothing setup (begun setup table lent) (by_start setup table is) calls typed (always_as_read setup table lent is calls typed) well
