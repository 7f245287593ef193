-- Demand 1: "A refused command is still handed over and acknowledged as printed; beyond that a refusal leaves the panel, the variable words and the
-- reply room as they stood."
use Rattle.std.specs.Prelude.{None, Some, Ok, Err}
use mathlib.Core.Path.{◌≡◌, refl, ap}
use mathlib.Core.Bool.{Bool, true, false, cond, not}
use mathlib.Core.List.{List, [], ◌∷◌}
use Prim.Native.Nat.{ℕ, ◌<◌}
use native.Mathlib.Omega.{arith}
use lib.ListN.{length, take, drop, take-append-drop}
use Rattle.line.specs.declared.Reader.{Reader}
use Rattle.line.specs.declared.Waiting.TheVariants as line_answer
use Rattle.line.specs.declared.Report.TheVariants as line
use Rattle.line.specs.declared.Asked.{Asked}
use Rattle.line.specs.Methods.{gives, busy, given_byte, given_mark, given_bytes, asked}
use Rattle.commands.specs.Lent.{Lent, with_room}
use Rattle.commands.specs.Outcome.{number_of_outcome, outcome}
use Rattle.commands.proofs.Performance.{performs_outcome}
use Rattle.commands.proofs.Refusals.{number_refuses, number_at_most_7, refusal_changes_nothing}
use Rattle.touch.specs.declared.Setup.{Setup}
use Rattle.touch.specs.Judge.{Verdict}
use Rattle.touch.specs.declared.TableError.TheVariants.{NotRecords, Wrong}
use Rattle.touch.specs.Setup.{good_setup}
use Rattle.touch.specs.Judge.{judged}
use Rattle.registers.specs.Clocked.{second_passed}
use Rattle.panel.specs.declared.Panel.{Panel}
use Rattle.panel.specs.declared.Fed.{Fed}
use Rattle.panel.specs.declared.StartError.TheVariants as start_error
use Rattle.panel.specs.declared.Handed.TheVariants as handed
use Rattle.panel.specs.State.{fixed_for, with_reader, with_registers}
use Rattle.panel.specs.Numbers.{start_number, report_number, contact_number, lift_number}
use Rattle.panel.specs.Start.{no_panel, refuses, start_judged, started}
use Rattle.panel.specs.Inputs.{fed_byte, fed_mark, fed_second, fed_bytes}
use Rattle.panel.specs.Reporting.{well_lent, acknowledged, accepting, Reporting, reports, handing_over, handing, refused, refusal, reporting}
use Rattle.panel.specs.Contacts.{Contact, silent, contacting, lifting}
use Rattle.panel.proofs.Ways.{contact_ways, lift_ways, report_ways}

-- "A refused start gives no panel."
judged_refused : (verdict : Verdict) (setup : Setup) → 0 < start_number (start_judged verdict setup).answer → (start_judged verdict setup).panel ≡ no_panel
unfolding start_judged start_number
judged_refused (Ok tt) setup above = absurd (omega arith)
judged_refused (Err NotRecords) setup above = refl
judged_refused (Err (Wrong i)) setup above = refl

pub refused_start_gives_none : (setup : Setup) (table : List ℕ) → 0 < start_number (started setup table).answer → (started setup table).panel ≡ no_panel
unfolding started
refused_start_gives_none setup table = go (good_setup setup)
  where
    go : (b : Bool) → 0 < start_number (cond (not b) (refuses (Err start_error.WrongSetup)) (start_judged (judged setup table) setup)).answer
        → (cond (not b) (refuses (Err start_error.WrongSetup)) (start_judged (judged setup table) setup)).panel ≡ no_panel
    go true above = judged_refused (judged setup table) setup above
    go false above = refl

-- "1: an input comes while a report waits": the panel stands as it stood
module _ (panel : Panel) (waits : busy panel.reader ≡ true) where
  pub refused_byte_changes_nothing : (b : ℕ) → fed_byte panel b ≡ record { answer = Err line_answer.ReportWaits; panel = panel }
  unfolding fed_byte given_byte
  refused_byte_changes_nothing b = rw waits

  pub refused_mark_changes_nothing : fed_mark panel ≡ record { answer = Err line_answer.ReportWaits; panel = panel }
  unfolding fed_mark given_mark
  refused_mark_changes_nothing = rw waits

  pub refused_second_changes_nothing : fed_second panel ≡ record { answer = Err line_answer.ReportWaits; panel = panel }
  unfolding fed_second
  refused_second_changes_nothing = rw waits

  pub refused_bytes_change_nothing : (bytes : List ℕ) → fed_bytes panel bytes ≡ record { used = 0; panel = panel }
  unfolding fed_bytes given_bytes
  refused_bytes_change_nothing [] = refl
  refused_bytes_change_nothing (b ∷ bytes) = rw waits

-- an input that is answered 1 came while a report waited
answered_waits : (w : Bool) (r s : Reader) → (cond w (gives (Err line_answer.ReportWaits) r) (gives (Ok tt) s)).answer ≡ Err line_answer.ReportWaits → w ≡ true
answered_waits true r s is = refl
answered_waits false r s is = cc

pub byte_refused_waits : (panel : Panel) (b : ℕ) → (fed_byte panel b).answer ≡ Err line_answer.ReportWaits → busy panel.reader ≡ true
unfolding fed_byte given_byte
byte_refused_waits panel b is = answered_waits (busy panel.reader) panel.reader _ is

pub mark_refused_waits : (panel : Panel) → (fed_mark panel).answer ≡ Err line_answer.ReportWaits → busy panel.reader ≡ true
unfolding fed_mark given_mark
mark_refused_waits panel is = answered_waits (busy panel.reader) panel.reader _ is

pub second_refused_waits : (panel : Panel) → (fed_second panel).answer ≡ Err line_answer.ReportWaits → busy panel.reader ≡ true
unfolding fed_second
second_refused_waits panel is = go (busy panel.reader) is
  where
    go : (w : Bool) → (cond {A = Fed} w (record { answer = Err line_answer.ReportWaits; panel = panel })
        (record { answer = Ok tt; panel = with_registers panel (second_passed panel.registers) })).answer ≡ Err line_answer.ReportWaits → w ≡ true
    go true is = refl
    go false is = cc

-- a contact with a number above 0 leaves the panel and all that is lent, and writes nothing
pub refused_contact_changes_nothing : (panel : Panel) (c : Contact) (lent : Lent) → 0 < contact_number (contacting panel c lent).contacted.answer
    → contacting panel c lent ≡ silent (contacting panel c lent).contacted.answer panel lent
unfolding contact_number
refused_contact_changes_nothing panel c lent =
    contact_ways panel c lent (λ r. 0 < contact_number r.contacted.answer → r ≡ silent r.contacted.answer panel lent) (λ answer above. refl)
    (λ passed above. absurd (omega arith))

-- a lift with a number above 0 leaves the panel
pub refused_lift_changes_nothing : (panel : Panel) → 0 < lift_number (lifting panel).answer → (lifting panel).panel ≡ panel
unfolding lift_number
refused_lift_changes_nothing panel =
    lift_ways panel (λ l. 0 < lift_number l.answer → l.panel ≡ panel) (λ above. refl) (λ above. refl) (λ above. absurd (omega arith))

-- asking with 14 or 16: "With 14 the report still waits."; 02, §4: "the report still waiting"
pub badly_lent_changes_nothing : (panel : Panel) (lent : Lent) → well_lent lent ≡ false → reporting panel lent ≡ reports (refused (refusal lent) panel) lent
unfolding reporting
badly_lent_changes_nothing panel lent is = rw is

-- what asking leaves, where a command was handed over and refused
pub record OnlyHanded (panel : Panel) (lent : Lent) (command : ℕ) (after : Reporting) : Type 0 where
  -- "counts as handed over": the reader goes on, and nothing else of the panel changes
  pub panel_read : after.reported.panel ≡ with_reader panel (asked panel.reader).reader
  -- "its acknowledgement is written", and nothing else
  pub only_acknowledged : after.lent ≡ with_room lent (acknowledged panel.setup command true lent.room).room

module _ (panel : Panel) (lent : Lent) where
  handing_refused : (a : Asked) (command count : ℕ)
      → 0 < report_number (handing a (Some (line.Accepted command count)) panel lent).reported.handed
      → handing a (Some (line.Accepted command count)) panel lent
      ≡ reports (record {
        handed = Ok (Some (handed.Accepted command count (outcome (fixed_for panel.setup) (length lent.words) command (take count a.payload))
            (acknowledged panel.setup command true lent.room).count 0));
        payload = a.payload;
        panel = with_reader panel a.reader;
      }) (with_room lent (acknowledged panel.setup command true lent.room).room)
  unfolding handing handing_over report_number accepting
  handing_refused a command count above =
      let setup = panel.setup in
      let content = take count a.payload in
      let answer = acknowledged setup command true lent.room in
      let part = with_room lent (drop answer.count answer.room) in
      let is = performs_outcome (fixed_for setup) panel.registers command content part in
      let above' : 0 < number_of_outcome (outcome (fixed_for setup) (length lent.words) command content) = rw is at above in
      let refusal = number_refuses (outcome (fixed_for setup) (length lent.words) command content) above' in
      rw (
        refusal_changes_nothing (fixed_for setup) panel.registers content part command refusal,
        take-append-drop answer.count answer.room,
      )

-- an ask with a number above 0: 14 or 16, with the panel and all that is lent as they stood, or a refused command, handed over and acknowledged
pub data RefusedReport (panel : Panel) (lent : Lent) (after : Reporting) : Type 0 where
  not_lent : after.reported.panel ≡ panel → after.lent ≡ lent → RefusedReport panel lent after
  handed_over : (command count : ℕ) → (asked panel.reader).report ≡ Some (line.Accepted command count) → OnlyHanded panel lent command after
      → RefusedReport panel lent after

only_handed_lem : (panel : Panel) (lent : Lent) (command count : ℕ)
    → 0 < report_number (handing (asked panel.reader) (Some (line.Accepted command count)) panel lent).reported.handed
    → OnlyHanded panel lent command (handing (asked panel.reader) (Some (line.Accepted command count)) panel lent)
only_handed_lem panel lent command count above =
    let is = handing_refused panel lent (asked panel.reader) command count above in
    record { panel_read = ap (λ (r : Reporting). r.reported.panel) is; only_acknowledged = ap (λ (r : Reporting). r.lent) is }

bad_number : (panel : Panel) (lent : Lent) (command : ℕ)
    → 0 < report_number (handing (asked panel.reader) (Some (line.BadCheck command)) panel lent).reported.handed → ⊥
unfolding handing handing_over report_number
bad_number panel lent command above = omega arith

pub refused_report_only_handed : (panel : Panel) (lent : Lent) → 0 < report_number (reporting panel lent).reported.handed
    → RefusedReport panel lent (reporting panel lent)
refused_report_only_handed panel lent =
    report_ways panel lent (λ r. 0 < report_number r.reported.handed → RefusedReport panel lent r) (λ h payload above. not_lent refl refl)
    (λ command is above. bad_has_none command above)
    (λ good command count is above. handed_over command count is (only_handed_lem panel lent command count above))
  where
    bad_has_none : (command : ℕ) → 0 < report_number (handing (asked panel.reader) (Some (line.BadCheck command)) panel lent).reported.handed
        → RefusedReport panel lent (handing (asked panel.reader) (Some (line.BadCheck command)) panel lent)
    bad_has_none command above = absurd (bad_number panel lent command above)

-- what stands as it stood
abbrev pub AsItStood : Panel → Lent → Reporting → Type 0
AsItStood panel lent after = (after.reported.panel ≡ panel) × (after.lent ≡ lent)

-- "'Nothing' changes nothing, the reply room included."
pub nothing_changes_nothing : (panel : Panel) (lent : Lent) → (asked panel.reader).report ≡ None
    → AsItStood panel lent (reporting panel lent)
nothing_changes_nothing panel lent none =
    report_ways panel lent (λ r. AsItStood panel lent r) (λ h payload. (refl, refl))
    (λ command is. absurd (let z : ◌≡◌ {A = ℕ} 0 1 = cc in omega arith)) (λ good command count is. absurd (let z : ◌≡◌ {A = ℕ} 0 1 = cc in omega arith))

-- 14 and 16, by their numbers: "With 14 the report still waits.", 02, §4: "the report still waiting"
pub above_7_changes_nothing : (panel : Panel) (lent : Lent) → 7 < report_number (reporting panel lent).reported.handed
    → AsItStood panel lent (reporting panel lent)
unfolding report_number handing handing_over
above_7_changes_nothing panel lent =
    report_ways panel lent (λ r. 7 < report_number r.reported.handed → AsItStood panel lent r) (λ h payload above. (refl, refl))
    (λ command is above. absurd (omega arith))
    (λ good command count is above.
    let o = (accepting panel.setup panel.registers command (take count (asked panel.reader).payload) lent).effected.performed.outcome in
    absurd (omega (arith, number_at_most_7 o)))
