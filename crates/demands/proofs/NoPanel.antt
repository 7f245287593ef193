-- What stands where a start was refused is inert, over any calls.
use Rattle.std.specs.Prelude.{None, Err}
use mathlib.Core.Path.{◌≡◌, refl, ap, ◌∙◌}
use mathlib.Core.Bool.{Bool, true, false, cond, not, ◌&&◌}
use mathlib.Core.List.{List, [], ◌∷◌}
use lib.ListN.{length}
use Rattle.frame.specs.Frame.{most_payload}
use Rattle.line.specs.State.{padded, no_reader}
use Rattle.line.specs.Methods.{busy, number_of_answer, asked}
use Rattle.wire.proofs.Truths.{never}
use Rattle.touch.specs.Judge.{judged}
use Rattle.watch.specs.Judge.{wrong_list}
use Rattle.commands.specs.Lent.{Lent}
use Rattle.panel.specs.declared.LentError.TheVariants as lent_error
use Rattle.panel.specs.Answers.{ContactAnswer}
use Rattle.panel.specs.declared.ContactError.TheVariants as contact_error
use Rattle.panel.specs.declared.Fed.{Fed}
use Rattle.panel.specs.declared.FedBytes.{FedBytes}
use Rattle.panel.specs.declared.Lifted.{Lifted}
use Rattle.panel.specs.declared.LiftError.TheVariants as lift_error
use Rattle.panel.specs.Numbers.{start_number, report_number, contact_number, lift_number}
use Rattle.panel.specs.Start.{started, no_panel}
use Rattle.panel.specs.Reporting.{enough_lent, well_lent, reports, refused, refusal, handing_over, handing, reporting}
use Rattle.panel.specs.Contacts.{Contact, Contacting, silent, contact_judged, told, touch_not_lent, contacting, lifting}
use Rattle.panel.proofs.Refusals.{refused_byte_changes_nothing, refused_mark_changes_nothing, refused_second_changes_nothing, refused_bytes_change_nothing, nothing_changes_nothing}
use Rattle.demands.specs.Calls.{Moment, Call, lend, byte, bytes, mark, second, ask, contact, lift, with_panel, after, after_all, number_given, report_handed, handed_over, handed_over_all}
use Rattle.demands.specs.Given.{unless_refused, given, given_all}
use Rattle.demands.proofs.Answers.{refusal_hands_none}
use Rattle.demands.specs.NoPanel.{lent_by, lent_last, refused_with, Inert}

-- "no panel", with what the caller has lent
abbrev pub none_with : Lent → Moment
none_with lent = record { panel = no_panel; lent = lent }

-- a start that is refused: a setup of no page and no screen
pub a_refused_start : start_number (started (record { h1 = 0; h2 = 0; flags = 0; pages = 0; width = 0; height = 0 }) []).answer ≡ 11
unfolding started start_number
a_refused_start = refl

-- ---- The reader is full and has no report

none_busy : busy no_panel.reader ≡ true
unfolding no_panel no_reader
none_busy = refl

none_reports : (asked no_panel.reader).report ≡ None
unfolding no_panel no_reader asked
none_reports = refl

-- ---- One call

-- what a contact is answered: 14, 16, or that a report waits
abbrev contact_refusal : Lent → ContactAnswer
contact_refusal lent =
    cond (touch_not_lent (length lent.words) (length lent.room)) (Err contact_error.NotLent)
    (cond (wrong_list lent.watched) (Err contact_error.WrongList) (Err contact_error.Waits))

contact_none : (c : Contact) (lent : Lent) → contacting no_panel c lent ≡ silent (contact_refusal lent) no_panel lent
unfolding contacting
contact_none c lent =
    go (touch_not_lent (length lent.words) (length lent.room)) (wrong_list lent.watched) (busy no_panel.reader) none_busy
    (told no_panel.setup (contact_judged (judged no_panel.setup c.table) no_panel c lent))
  where
    go : (a l w : Bool) → w ≡ true → (other : Contacting)
        → cond a (silent (Err contact_error.NotLent) no_panel lent) (cond l (silent (Err contact_error.WrongList) no_panel lent) (cond w (silent (Err contact_error.Waits) no_panel lent) other))
        ≡ silent (cond a (Err contact_error.NotLent) (cond l (Err contact_error.WrongList) (Err contact_error.Waits))) no_panel lent
    go true l w is other = refl
    go false true w is other = refl
    go false false true is other = refl
    go false false false is other = never (cc)

lift_none : lifting no_panel ≡ record { answer = Err lift_error.Waits; panel = no_panel }
unfolding lifting
lift_none = rw none_busy

call_stays : (lent : Lent) (call : Call) → after (none_with lent) call ≡ none_with (lent_by lent call)
unfolding after lent_by
call_stays lent (lend other) = refl
call_stays lent (byte b) = ap (λ (f : Fed). with_panel (none_with lent) f.panel) (refused_byte_changes_nothing no_panel none_busy b)
call_stays lent (bytes bs) = ap (λ (f : FedBytes). with_panel (none_with lent) f.panel) (refused_bytes_change_nothing no_panel none_busy bs)
call_stays lent mark = ap (λ (f : Fed). with_panel (none_with lent) f.panel) (refused_mark_changes_nothing no_panel none_busy)
call_stays lent second = ap (λ (f : Fed). with_panel (none_with lent) f.panel) (refused_second_changes_nothing no_panel none_busy)
call_stays lent ask =
    let all = nothing_changes_nothing no_panel lent none_reports in
    rw (all.0, all.1)
call_stays lent (contact c) = ap (λ (d : Contacting). record { panel = d.contacted.panel; lent = d.lent }) (contact_none c lent)
call_stays lent lift = ap (λ (l : Lifted). with_panel (none_with lent) l.panel) lift_none

call_takes_nothing : (lent : Lent) (call : Call) → given (none_with lent) call ≡ []
unfolding given unless_refused
call_takes_nothing lent (lend other) = refl
call_takes_nothing lent (byte b) = rw (refused_byte_changes_nothing no_panel none_busy b)
call_takes_nothing lent (bytes bs) = rw (refused_bytes_change_nothing no_panel none_busy bs)
call_takes_nothing lent mark = rw (refused_mark_changes_nothing no_panel none_busy)
call_takes_nothing lent second = refl
call_takes_nothing lent ask = refl
call_takes_nothing lent (contact c) = refl
call_takes_nothing lent lift = refl

call_hands_nothing : (lent : Lent) (call : Call) → handed_over (none_with lent) call ≡ []
unfolding handed_over reporting report_handed handing handing_over no_panel no_reader asked
call_hands_nothing lent (lend other) = refl
call_hands_nothing lent (byte b) = refl
call_hands_nothing lent (bytes bs) = refl
call_hands_nothing lent mark = refl
call_hands_nothing lent second = refl
call_hands_nothing lent ask = go (well_lent lent)
  where
    go : (w : Bool)
        → report_handed (cond w (handing (asked no_reader) None no_panel lent) (reports (refused (refusal lent) no_panel) lent)).reported.handed
        (cond w (handing (asked no_reader) None no_panel lent) (reports (refused (refusal lent) no_panel) lent)).reported.payload ≡ []
    go true = refl
    go false = refusal_hands_none lent (padded most_payload [])
call_hands_nothing lent (contact c) = refl
call_hands_nothing lent lift = refl

contact_number_lem : (a l : Bool) → contact_number (cond a (Err contact_error.NotLent) (cond l (Err contact_error.WrongList) (Err contact_error.Waits))) ≡ cond a 14 (cond l 16 1)
unfolding contact_number
contact_number_lem true l = refl
contact_number_lem false true = refl
contact_number_lem false false = refl

ask_number : (lent : Lent) (e l : Bool)
    → report_number (cond (e && not l) (handing (asked no_panel.reader) (asked no_panel.reader).report no_panel lent)
    (reports (refused (cond e (Err lent_error.WrongList) (Err lent_error.NotLent)) no_panel) lent)).reported.handed ≡ cond e (cond l 16 0) 14
unfolding handing handing_over no_panel no_reader asked report_number
ask_number lent true true = refl
ask_number lent true false = refl
ask_number lent false l = refl

call_refused : (lent : Lent) (call : Call) → number_given (none_with lent) call ≡ refused_with lent call
unfolding number_given refused_with number_of_answer lift_number reporting
call_refused lent (lend other) = refl
call_refused lent (byte b) = rw (refused_byte_changes_nothing no_panel none_busy b)
call_refused lent (bytes bs) = rw (refused_bytes_change_nothing no_panel none_busy bs)
call_refused lent mark = rw (refused_mark_changes_nothing no_panel none_busy)
call_refused lent second = rw (refused_second_changes_nothing no_panel none_busy)
call_refused lent ask = ask_number lent (enough_lent lent) (wrong_list lent.watched)
call_refused lent (contact c) =
    ap (λ (d : Contacting). contact_number d.contacted.answer) (contact_none c lent)
    ∙ contact_number_lem (touch_not_lent (length lent.words) (length lent.room)) (wrong_list lent.watched)
call_refused lent lift = rw lift_none

-- ---- Any calls

all_stay : (lent : Lent) (calls : List Call) → after_all (none_with lent) calls ≡ none_with (lent_last lent calls)
unfolding after_all lent_last
all_stay lent [] = refl
all_stay lent (call ∷ calls) = ap (λ (m : Moment). after_all m calls) (call_stays lent call) ∙ all_stay (lent_by lent call) calls

all_take_nothing : (lent : Lent) (calls : List Call) → given_all (none_with lent) calls ≡ []
unfolding given_all
all_take_nothing lent [] = refl
all_take_nothing lent (call ∷ calls) = rw (call_takes_nothing lent call, call_stays lent call) (all_take_nothing (lent_by lent call) calls)

all_hand_nothing : (lent : Lent) (calls : List Call) → handed_over_all (none_with lent) calls ≡ []
unfolding handed_over_all
all_hand_nothing lent [] = refl
all_hand_nothing lent (call ∷ calls) = rw (call_hands_nothing lent call, call_stays lent call) (all_hand_nothing (lent_by lent call) calls)

pub no_panel_inert : (lent : Lent) (calls : List Call) → Inert (none_with lent) calls
no_panel_inert lent calls =
    record {
      stays = all_stay lent calls;
      takes_nothing = all_take_nothing lent calls;
      hands_nothing = all_hand_nothing lent calls;
      refuses = λ call. ap (λ (m : Moment). number_given m call) (all_stay lent calls) ∙ call_refused (lent_last lent calls) call;
    }
