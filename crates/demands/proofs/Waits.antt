-- What the panel's reader tells is what the reading of what it keeps says: whether a report waits, and which.
use Rattle.std.specs.Prelude.{Option, Some}
use Rattle.line.specs.declared.Report.{Report}
use mathlib.Core.Path.{◌≡◌, refl, sym, ap, ◌∙◌}
use Prim.Native.Nat.{ℕ, ◌≤◌}
use native.Mathlib.Omega.{arith}
use lib.ListN.{length, take, drop}
use Rattle.frame.specs.Frame.{content_of, most_payload, longest_frame}
use Rattle.reading.specs.Place.{Rules, Seen, pass, wait, bad, accepted, look, report_of}
use Rattle.reading.specs.Moves.{Kept, waiting, handed, after_report}
use Rattle.line.specs.declared.Reader.{Reader}
use Rattle.line.specs.declared.Report.TheVariants as line
use Rattle.line.specs.declared.Asked.{Asked}
use Rattle.line.specs.State.{reader_of, kept_of}
use Rattle.line.specs.Methods.{busy, asked}
use Rattle.line.specs.Reached.{report_as, payload_as}
use Rattle.line.proofs.Padding.{take_padded}
use Rattle.line.proofs.Carried.{kept_is, waiting_is, ask_carried}
use Rattle.panel.specs.declared.Panel.{Panel}
use Rattle.panel.specs.Reporting.{Reporting, handing_over, handing, reporting}
use Rattle.panel.specs.Sound.{line_of, Sound}
use Rattle.demands.specs.Calls.{Moment, ask, after, report_handed, handed_over, WellLent}
use Rattle.commands.specs.Lent.{Lent}
use Rattle.demands.proofs.WellLent.{well_tested}
use Rattle.demands.specs.Reports.{rules_of, report_waits, waiting_report}

module _ (panel : Panel) (sound : Sound panel) where
  -- what the reader keeps is what the reading keeps
  pub kept_same : kept_of panel.reader ≡ sound.reads.kept
  kept_same = ap (λ (r : Reader). kept_of r) sound.reads.is ∙ kept_is (line_of panel.setup) sound.reads.kept

  pub reader_is : panel.reader ≡ reader_of (line_of panel.setup) (kept_of panel.reader)
  reader_is = sound.reads.is ∙ ap (λ (k : Kept). reader_of (line_of panel.setup) k) (sym kept_same)

  pub busy_waits : busy panel.reader ≡ report_waits panel
  unfolding report_waits
  busy_waits =
      ap (λ (r : Reader). busy r) sound.reads.is
      ∙ waiting_is (line_of panel.setup) sound.reads.kept sound.reads.reached
      ∙ ap (λ (k : Kept). waiting (rules_of panel) k) (sym kept_same)

  asked_carried : asked panel.reader ≡ record {
    report = report_as (handed (rules_of panel) sound.reads.kept);
    payload = payload_as (handed (rules_of panel) sound.reads.kept);
    reader = reader_of (line_of panel.setup) (after_report (rules_of panel) sound.reads.kept);
  }
  asked_carried =
      ap (λ (r : Reader). asked r) sound.reads.is ∙ ask_carried (line_of panel.setup) sound.reads.kept sound.reads.reached.few

  pub asked_report : (asked panel.reader).report ≡ report_as (waiting_report panel)
  unfolding waiting_report
  asked_report = ap (λ (a : Asked). a.report) asked_carried ∙ ap (λ (k : Kept). report_as (handed (rules_of panel) k)) (sym kept_same)

  pub asked_payload : (asked panel.reader).payload ≡ payload_as (waiting_report panel)
  unfolding waiting_report
  asked_payload = ap (λ (a : Asked). a.payload) asked_carried ∙ ap (λ (k : Kept). payload_as (handed (rules_of panel) k)) (sym kept_same)

  pub asked_reader : (asked panel.reader).reader ≡ reader_of (line_of panel.setup) (after_report (rules_of panel) (kept_of panel.reader))
  asked_reader =
      ap (λ (a : Asked). a.reader) asked_carried
      ∙ ap (λ (k : Kept). reader_of (line_of panel.setup) (after_report (rules_of panel) k)) (sym kept_same)

-- what asking hands over is the report that waits
handing_hands : (panel : Panel) (lent : Lent) (a : Asked) (told : Option Report) (rules : Rules) (seen : Seen) → told ≡ report_as (report_of rules seen)
    → a.payload ≡ payload_as (report_of rules seen)
    → report_handed (handing a told panel lent).reported.handed (handing a told panel lent).reported.payload ≡ report_of rules seen
unfolding handing handing_over report_handed report_of report_as payload_as
handing_hands panel lent a told rules pass is payload = rw is
handing_hands panel lent a told rules wait is payload = rw is
handing_hands panel lent a told rules (bad body) is payload = rw is
handing_hands panel lent a told rules (accepted body) is payload =
    let content = drop 1 (content_of rules.checking body) in
    let same : take (length content) a.payload ≡ content =
    ap (take (length content)) payload ∙ take_padded most_payload (length content) content refl in
    rw (is, same)

pub ask_hands : (now : Moment) (kept : Kept) → now.panel.reader ≡ reader_of (line_of now.panel.setup) kept → length kept.bytes ≤ longest_frame
    → WellLent now.lent → handed_over now ask ≡ handed (rules_of now.panel) kept
unfolding handed_over reporting handed
ask_hands now kept is few well =
    let line = line_of now.panel.setup in
    let rules = rules_of now.panel in
    let tells : asked now.panel.reader ≡ record {
      report = report_as (handed rules kept);
      payload = payload_as (handed rules kept);
      reader = reader_of line (after_report rules kept);
    } = ap (λ (r : Reader). asked r) is ∙ ask_carried line kept few in
    rw (well_tested now.lent well)
    (handing_hands now.panel now.lent (asked now.panel.reader) (asked now.panel.reader).report rules
    (look rules kept.closed kept.bytes) (ap (λ (a : Asked). a.report) tells) (ap (λ (a : Asked). a.payload) tells))

-- of a panel that is reached
pub sound_ask_hands : (now : Moment) → Sound now.panel → WellLent now.lent → handed_over now ask ≡ waiting_report now.panel
unfolding waiting_report
sound_ask_hands now sound well =
    let long : length (kept_of now.panel.reader).bytes ≡ length sound.reads.kept.bytes = ap (λ (k : Kept). length k.bytes) (kept_same now.panel sound) in
    let few : length (kept_of now.panel.reader).bytes ≤ longest_frame = omega (arith, sound.reads.reached.few) in
    ask_hands now (kept_of now.panel.reader) (reader_is now.panel sound) few well

-- asking with words and room as they must be, where an accepted frame waits
pub frame_reporting : (panel : Panel) (lent : Lent) → WellLent lent → (command count : ℕ)
    → (asked panel.reader).report ≡ Some (line.Accepted command count)
    → reporting panel lent ≡ handing (asked panel.reader) (Some (line.Accepted command count)) panel lent
unfolding reporting
frame_reporting panel lent well command count told = rw (well_tested lent well, told)

-- it leaves the reader behind the frame
pub ask_reads_on : (now : Moment) → WellLent now.lent → (command count : ℕ)
    → (asked now.panel.reader).report ≡ Some (line.Accepted command count) → (after now ask).panel.reader ≡ (asked now.panel.reader).reader
unfolding after handing
ask_reads_on now well command count told =
    ap (λ (r : Reporting). r.reported.panel.reader) (frame_reporting now.panel now.lent well command count told)
