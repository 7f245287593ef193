-- Short names for what proofs take apart: a report's answer by what it goes by, and the moments that a report and a contact leave.
use Rattle.std.specs.Prelude.{Option, Some, Ok, Err}
use Rattle.line.specs.declared.Report.{Report}
use mathlib.Core.Path.{◌≡◌, refl}
use mathlib.Core.Bool.{Bool, true, false, cond}
use mathlib.Core.List.{List, []}
use Prim.Native.Nat.{ℕ}
use Rattle.wire.proofs.Truths.{never}
use Rattle.line.specs.declared.Asked.{Asked}
use Rattle.panel.specs.declared.Panel.{Panel}
use Rattle.panel.specs.Reporting.{enough_lent, Reporting, reports, handing, refused, refusal}
use Rattle.panel.specs.Contacts.{Contacting}
use Rattle.commands.specs.Lent.{Lent}
use Rattle.panel.specs.declared.Handed.TheVariants as handed
use Rattle.panel.specs.declared.LentError.TheVariants as lent_error
use Rattle.panel.specs.Numbers.{report_number}
use Rattle.demands.specs.Calls.{Moment, report_handed}

-- `reporting`, by whether enough is lent, what the reader is asked and which report it tells
abbrev pub reported_by : Panel → Lent → (enough : Bool) → Asked → Option Report → Reporting
reported_by panel lent enough a told = cond enough (handing a told panel lent) (reports (refused (refusal lent) panel) lent)

-- what asking leaves, and what a contact leaves, as a moment
abbrev pub moment_asked : Reporting → Moment
moment_asked r = record { panel = r.reported.panel; lent = r.lent }

abbrev pub moment_touched : Contacting → Moment
moment_touched r = record { panel = r.contacted.panel; lent = r.lent }

-- 14 and 16 hand no report over, and are no bad check
module _ (lent : Lent) where
  pub refusal_hands_none : (payload : List ℕ) → report_handed (refusal lent) payload ≡ []
  unfolding report_handed
  refusal_hands_none payload = go (enough_lent lent)
    where
      go : (b : Bool) → report_handed (cond b (Err lent_error.WrongList) (Err lent_error.NotLent)) payload ≡ []
      go true = refl
      go false = refl

  pub refusal_no_bad_check : (command acknowledged : ℕ) → refusal lent ≡ Ok (Some (handed.BadCheck command acknowledged)) → ⊥
  refusal_no_bad_check command acknowledged = go (enough_lent lent)
    where
      go : (b : Bool) → cond b (Err lent_error.WrongList) (Err lent_error.NotLent) ≡ Ok (Some (handed.BadCheck command acknowledged)) → ⊥
      go true is = never (cc)
      go false is = never (cc)

  pub refusal_number : report_number (refusal lent) ≡ cond (enough_lent lent) 16 14
  unfolding report_number
  refusal_number = go (enough_lent lent)
    where
      go : (b : Bool) → report_number (cond b (Err lent_error.WrongList) (Err lent_error.NotLent)) ≡ cond b 16 14
      go true = refl
      go false = refl
