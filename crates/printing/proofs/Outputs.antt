-- Laws of what is printed from some point on: of a report, of a byte, and of a run of line bytes.
use mathlib.Core.Path.{◌≡◌, refl, ap, ◌∙◌}
use mathlib.Core.Bool.{Bool, true, false, cond, ◌&&◌}
use mathlib.Core.List.{List, [], ◌∷◌, ◌++◌, append_assoc}
use Prim.Native.Nat.{ℕ, zero, suc, ◌+◌, ◌*◌}
use native.Mathlib.Omega.{arith}
use borrow.Author.Tests.{eqb-true, eq-eqb}
use lib.Dec.{eqb}
use lib.ListN.{drop, set}
use Rattle.frame.specs.Frame.{longest_frame}
use Rattle.line.specs.Methods.{busy, given_bytes}
use Rattle.wire.proofs.Truths.{never}
use Rattle.touch.specs.declared.Setup.{Setup}
use Rattle.panel.specs.declared.Panel.{Panel}
use Rattle.panel.specs.declared.FedBytes.{FedBytes}
use Rattle.panel.specs.Inputs.{fed_byte, fed_bytes}
use Rattle.telling.specs.Events.{event}
use Rattle.telling.specs.Memory.{Memory}
use Rattle.items.specs.declared.Stage.{Stage}
use Rattle.items.specs.declared.Stage.TheVariants.{Bare, Ready, Started, Over}
use Rattle.trace.specs.declared.Trace.{Trace}
use Rattle.items.specs.Items.{no_item, body_length}
use Rattle.items.specs.Stages.{is_started, is_over, may_come}
use Rattle.items.specs.Runs.{line_run}
use Rattle.trace.specs.State.{Held, holds, Shown, shows, gathering, waits}
use Rattle.trace.specs.Events.{started_by, event_answered, event_done, item_done, grown, took_byte, report_shown}
use Rattle.trace.specs.Output.{all_reports, end_at, end_text, input_text}
use Rattle.printing.specs.Reached.{HeldSound, output_from}
use Rattle.printing.proofs.AllReports.{none_reported, first_reported}

pub quiet_output : (held : Held) (input : List ℕ) → waits held.trace ≡ false → output_from held input ≡ input_text held input
unfolding output_from
quiet_output held input quiet = ap (λ (s : Shown). s.text ++ input_text s.held input) (none_reported longest_frame held quiet)

pub report_output : (held : Held) (input : List ℕ) → HeldSound held → waits held.trace ≡ true
    → output_from held input ≡ (report_shown held).text ++ output_from (report_shown held).held input
unfolding output_from
report_output held input sound is =
    let later = all_reports longest_frame (report_shown held).held in
    ap (λ (s : Shown). s.text ++ input_text s.held input) (first_reported held sound is)
    ∙ append_assoc (report_shown held).text later.text (input_text later.held input)

pub byte_output : (held : Held) (b : ℕ) (input : List ℕ) → waits held.trace ≡ false
    → output_from held (b ∷ input)
    ≡ (took_byte held b).text ++ output_from (took_byte held b).held input
unfolding output_from input_text
byte_output held b input quiet = ap (λ (s : Shown). s.text ++ input_text s.held (b ∷ input)) (none_reported longest_frame held quiet)

-- ---- After an X

over_is : (stage : Stage) → is_over stage ≡ true → stage ≡ Over
unfolding is_over
over_is Bare is = never (cc)
over_is Ready is = never (cc)
over_is Started is = never (cc)
over_is Over is = refl

over_quiet : (held : Held) → is_over held.trace.stage ≡ true → waits held.trace ≡ false
unfolding is_started
over_quiet held is = ap (λ (stage : Stage). is_started stage && busy held.trace.panel.reader) (over_is held.trace.stage is)

over_ends : (held : Held) → HeldSound held → is_over held.trace.stage ≡ true → end_text held.trace held.table ≡ []
unfolding end_text end_at
over_ends held sound is =
    rw (eq-eqb held.trace.have 0 (sound.over is)) (ap (λ (stage : Stage). end_at stage held.trace held.table) (over_is held.trace.stage is))

over_takes : (held : Held) (b : ℕ) → is_over held.trace.stage ≡ true → took_byte held b ≡ shows held []
unfolding took_byte
over_takes held b is = rw is

pub end_output : (held : Held) → waits held.trace ≡ false → output_from held [] ≡ end_text held.trace held.table
unfolding input_text
end_output held quiet = quiet_output held [] quiet

-- "and the program stops"
pub over_output : (held : Held) (input : List ℕ) → HeldSound held → is_over held.trace.stage ≡ true → output_from held input ≡ []
over_output held [] sound is = end_output held (over_quiet held is) ∙ over_ends held sound is
over_output held (b ∷ input) sound is =
    byte_output held b input (over_quiet held is)
    ∙ ap (λ (s : Shown). s.text ++ output_from s.held input) (over_takes held b is)
    ∙ over_output held input sound is

-- ---- A run of line bytes

pub fed_none : (panel : Panel) (b : ℕ) (bytes : List ℕ) → busy panel.reader ≡ true → fed_bytes panel (b ∷ bytes) ≡ record { used = 0; panel = panel }
unfolding fed_bytes given_bytes
fed_none panel b bytes is = rw is

pub fed_more : (panel : Panel) (b : ℕ) (bytes : List ℕ) → busy panel.reader ≡ false
    → fed_bytes panel (b ∷ bytes) ≡ record { used = 1 + (fed_bytes (fed_byte panel b).panel bytes).used; panel = (fed_bytes (fed_byte panel b).panel bytes).panel }
unfolding fed_bytes fed_byte given_bytes
fed_more panel b bytes is = rw is

-- between two items of a panel that is started
abbrev pub between : Setup → ℕ → Panel → Trace
between setup records panel = record { stage = Started; item = no_item; have = 0; setup = setup; records = records; panel = panel }

module _ (setup : Setup) (records : ℕ) (table : List ℕ) (memory : Memory) where
  -- the same with what is lent to it
  abbrev pub lined : Panel → Held
  lined panel = holds (between setup records panel) table memory

  abbrev kind_taken : Panel → Held
  kind_taken panel = holds (gathering (between setup records panel) (set no_item 0 1) 1) table memory

  kind_taken_lem : (panel : Panel) → took_byte (lined panel) 1 ≡ shows (kind_taken panel) []
  unfolding took_byte is_over may_come grown body_length no_item
  kind_taken_lem panel = refl

  byte_taken : (panel : Panel) (b : ℕ) → took_byte (kind_taken panel) b ≡ shows (lined (fed_byte panel b).panel) []
  unfolding took_byte is_over is_started grown body_length no_item item_done event_done started_by event_answered event
  byte_taken panel b = refl

  line_byte_output : (panel : Panel) (b : ℕ) (input : List ℕ) → busy panel.reader ≡ false
      → output_from (lined panel) (1 ∷ b ∷ input) ≡ output_from (lined (fed_byte panel b).panel) input
  unfolding is_started
  line_byte_output panel b input quiet =
      byte_output (lined panel) 1 (b ∷ input) quiet
      ∙ ap (λ (s : Shown). s.text ++ output_from s.held (b ∷ input)) (kind_taken_lem panel)
      ∙ byte_output (kind_taken panel) b input quiet
      ∙ ap (λ (s : Shown). s.text ++ output_from s.held input) (byte_taken panel b)

  -- what is printed from before a run is printed from behind it
  module _ (rest : List ℕ) where
    abbrev pub RanOver : Panel → List ℕ → FedBytes → Type 0
    RanOver panel chunk fed = output_from (lined panel) (chunk ++ rest) ≡ output_from (lined fed.panel) (drop (fed.used * 2) chunk ++ rest)

    item_ran : (panel : Panel) (b : ℕ) (chunk bytes : List ℕ) → RanOver (fed_byte panel b).panel chunk (fed_bytes (fed_byte panel b).panel bytes)
        → RanOver panel (1 ∷ b ∷ chunk) (fed_bytes panel (b ∷ bytes))
    item_ran panel b chunk bytes later = go (busy panel.reader) refl
      where
        go : (w : Bool) → busy panel.reader ≡ w → RanOver panel (1 ∷ b ∷ chunk) (fed_bytes panel (b ∷ bytes))
        go true is = rw (fed_none panel b bytes is)
        go false is =
            let two : (1 + (fed_bytes (fed_byte panel b).panel bytes).used) * 2 ≡ suc (suc ((fed_bytes (fed_byte panel b).panel bytes).used * 2)) = omega arith in
            rw (fed_more panel b bytes is, two) (line_byte_output panel b (chunk ++ rest) is ∙ later)

    pub run_output : (n : ℕ) (panel : Panel) (chunk : List ℕ) → RanOver panel chunk (fed_bytes panel (line_run n chunk))
    unfolding line_run fed_bytes given_bytes
    run_output zero panel chunk = refl
    run_output (suc n) panel [] = refl
    run_output (suc n) panel (kind ∷ []) = refl
    run_output (suc n) panel (kind ∷ b ∷ chunk) = go (eqb kind 1) refl (run_output n (fed_byte panel b).panel chunk)
      where
        go : (is-line : Bool) → eqb kind 1 ≡ is-line → RanOver (fed_byte panel b).panel chunk (fed_bytes (fed_byte panel b).panel (line_run n chunk))
            → RanOver panel (kind ∷ b ∷ chunk) (fed_bytes panel (cond is-line (b ∷ line_run n chunk) []))
        go true is later = rw (eqb-true kind 1 is) (item_ran panel b chunk (line_run n chunk) later)
        go false is later = refl
