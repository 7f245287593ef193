-- Laws of starting and of inputs: one for each way a method answers.
use Rattle.std.specs.Prelude.{None, Ok, Err}
use mathlib.Core.Path.{◌≡◌, refl, sym, ap, ◌∙◌}
use mathlib.Core.Bool.{Bool, true, false, not}
use Rattle.std.specs.Prelude.{cond}
use mathlib.Core.List.{List}
use Prim.Native.Nat.{ℕ}
use Rattle.frame.specs.declared.Header.{Header}
use Rattle.line.specs.declared.Reader.{Reader}
use Rattle.line.specs.declared.Given.{Given}
use Rattle.line.specs.declared.Gave.{Gave}
use Rattle.line.specs.State.{reader_of, no_reader}
use Rattle.line.specs.declared.Waiting.TheVariants.{ReportWaits}
use Rattle.line.specs.Methods.{busy, given_byte, given_mark, given_bytes}
use Rattle.registers.specs.Clocked.{second_passed}
use Rattle.reading.specs.Moves.{fresh}
use Rattle.registers.specs.declared.Registers.{Registers}
use Rattle.registers.specs.Table.{start_registers}
use Rattle.curves.specs.declared.Counts.{Counts}
use Rattle.curves.specs.Area.{no_counts}
use Rattle.touch.specs.declared.Setup.{Setup}
use Rattle.touch.specs.Judge.{Verdict}
use Rattle.touch.specs.declared.TableError.{TableError}
use Rattle.touch.specs.Setup.{checking_of, acknowledging_of, good_setup}
use Rattle.touch.specs.Judge.{judged}
use Rattle.panel.specs.declared.Panel.{Panel}
use Rattle.panel.specs.Answers.{StartAnswer}
use Rattle.panel.specs.declared.StartError.{StartError}
use Rattle.panel.specs.declared.StartError.TheVariants as start_error
use Rattle.panel.specs.declared.Start.{Start}
use Rattle.panel.specs.declared.Fed.{Fed}
use Rattle.panel.specs.declared.FedBytes.{FedBytes}
use Rattle.panel.specs.State.{header_for, with_reader, with_registers}
use Rattle.panel.specs.Start.{new_panel, no_panel, refuses, start_error_of, start_judged, started}
use Rattle.panel.specs.Inputs.{fed_by, fed_byte, fed_mark, fed_second, fed_bytes}

pub new_made : (setup : Setup) (c k : Bool) (header : Header) (registers : Registers) (counts : Counts) (reader : Reader) → c ≡ checking_of setup → k ≡ acknowledging_of setup
    → header ≡ header_for setup → registers ≡ start_registers setup.h1 setup.h2 c k → counts ≡ no_counts
    → reader ≡ reader_of (record { header = header; checking = c }) fresh
    → ◌≡◌ {A = Panel} (record { setup = setup; registers = registers; catch = None; counts = counts; reader = reader }) (new_panel setup)
unfolding new_panel
new_made setup c k header registers counts reader is_c is-k is-h is-registers is-counts is-reader =
    rw (is-registers, is-counts, is-reader, is-h, is_c, is-k)

pub none_made : (panel : Panel) (reader : Reader) → panel ≡ new_panel (record { h1 = 0; h2 = 0; flags = 0; pages = 0; width = 0; height = 0 }) → reader ≡ no_reader
    → with_reader panel reader ≡ no_panel
unfolding no_panel
none_made panel reader is none = ap (λ (p : Panel). with_reader p reader) is ∙ ap (λ (r : Reader). with_reader (new_panel (record { h1 = 0; h2 = 0; flags = 0; pages = 0; width = 0; height = 0 })) r) none

-- a start by its answer alone
started_as : StartAnswer → Setup → Start
started_as (Ok tt) setup = record { answer = Ok tt; panel = new_panel setup }
started_as (Err why) setup = refuses (Err why)

as_answered : (setup : Setup) (table : List ℕ) → started_as (started setup table).answer setup ≡ started setup table
unfolding started start_judged started_as
as_answered setup table = go (good_setup setup) (judged setup table)
  where
    go : (good : Bool) (verdict : Verdict)
        → (let s : Start = cond (not good) (refuses (Err start_error.WrongSetup)) (start_judged verdict setup) in started_as s.answer setup ≡ s)
    go false verdict = refl
    go true (Ok tt) = refl
    go true (Err why) = refl

module _ (setup : Setup) (table : List ℕ) (good : Bool) (is-good : good ≡ good_setup setup) where
  pub setup_wrong : good ≡ false → Err start_error.WrongSetup ≡ (started setup table).answer
  unfolding started
  setup_wrong is = rw (sym is-good ∙ is)

  module _ (fine : good ≡ true) (verdict : Verdict) (is-verdict : verdict ≡ judged setup table) where
    judged_so : (given : Verdict) → verdict ≡ given → start_judged given setup ≡ started setup table
    unfolding started
    judged_so given is = rw (sym is-good ∙ fine) (ap (λ (v : Verdict). start_judged v setup) (sym is ∙ is-verdict))

    pub start_good : verdict ≡ Ok tt → Ok tt ≡ (started setup table).answer
    unfolding start_judged
    start_good is = ap (λ (s : Start). s.answer) (judged_so (Ok tt) is)

    pub table_wrong : (why : TableError) → verdict ≡ Err why → Err (start_error_of why) ≡ (started setup table).answer
    unfolding start_judged
    table_wrong why is = ap (λ (s : Start). s.answer) (judged_so (Err why) is)

module _ (setup : Setup) (table : List ℕ) (answer : StartAnswer) (is : answer ≡ (started setup table).answer) (panel : Panel) where
  -- where the answer is known, so is what stands beside it
  started_so : (given : StartAnswer) → answer ≡ given → started_as given setup ≡ started setup table
  started_so given e = ap (λ (a : StartAnswer). started_as a setup) (sym e ∙ is) ∙ as_answered setup table

  pub start_done : answer ≡ Ok tt → panel ≡ new_panel setup → ◌≡◌ {A = Start} (record { answer = answer; panel = panel }) (started setup table)
  unfolding started_as
  start_done e p = rw (p, e) (started_so (Ok tt) e)

  pub start_refused : (why : StartError) → answer ≡ Err why → panel ≡ no_panel → ◌≡◌ {A = Start} (record { answer = answer; panel = panel }) (started setup table)
  unfolding started_as
  start_refused why e p = rw (p, e) (started_so (Err why) e)

module _ (panel : Panel) (given : Given) (fed : Fed) (by : fed ≡ fed_by panel given) where
  pub byte_fed : (b : ℕ) → given ≡ given_byte panel.reader b → fed ≡ fed_byte panel b
  unfolding fed_byte
  byte_fed b is = by ∙ ap (λ (g : Given). fed_by panel g) is

  pub mark_fed : given ≡ given_mark panel.reader → fed ≡ fed_mark panel
  unfolding fed_mark
  mark_fed is = by ∙ ap (λ (g : Given). fed_by panel g) is

module _ (panel : Panel) where
  pub bytes_fed : (bytes : List ℕ) (given : Gave) → given ≡ given_bytes panel.reader bytes
      → ◌≡◌ {A = FedBytes} (record { used = given.used; panel = with_reader panel given.reader }) (fed_bytes panel bytes)
  unfolding fed_bytes
  bytes_fed bytes given is = ap (λ (g : Gave). record { used = g.used; panel = with_reader panel g.reader }) is

module _ (panel : Panel) (waits : Bool) (is-waits : waits ≡ busy panel.reader) where
  pub second_refused : waits ≡ true → ◌≡◌ {A = Fed} (record { answer = Err ReportWaits; panel = panel }) (fed_second panel)
  unfolding fed_second
  second_refused on = rw (sym is-waits ∙ on)

  pub second_fed : (next : Registers) → waits ≡ false → next ≡ second_passed panel.registers
      → ◌≡◌ {A = Fed} (record { answer = Ok tt; panel = with_registers panel next }) (fed_second panel)
  unfolding fed_second
  second_fed next off is = rw (sym is-waits ∙ off, is)
