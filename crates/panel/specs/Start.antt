-- 01: "start 11, 12, 13". "A refused start gives no panel."
use Rattle.std.specs.Prelude.{None, Ok, Err}
use Rattle.std.specs.Prelude.{ℕ, cond, not, List}
use Rattle.line.specs.State.{reader_of, no_reader}
use Rattle.reading.specs.Moves.{fresh}
use Rattle.registers.specs.Table.{start_registers}
use Rattle.curves.specs.Area.{no_counts}
use Rattle.touch.specs.declared.Setup.{Setup}
use Rattle.touch.specs.Judge.{Verdict}
use Rattle.touch.specs.declared.TableError.{TableError}
use Rattle.touch.specs.declared.TableError.TheVariants.{NotRecords, Wrong}
use Rattle.touch.specs.Setup.{checking_of, acknowledging_of, good_setup}
use Rattle.touch.specs.Judge.{judged}
use Rattle.panel.specs.declared.Panel.{Panel}
use Rattle.panel.specs.Answers.{StartAnswer}
use Rattle.panel.specs.declared.StartError.{StartError}
use Rattle.panel.specs.declared.StartError.TheVariants as start_error
use Rattle.panel.specs.declared.Start.{Start}
use Rattle.panel.specs.State.{header_for, with_reader}

-- "a new panel": the registers' starts, nothing caught, no channel with a number, nothing held
unfoldable pub new_panel : Setup → Panel
new_panel setup =
    record {
      setup = setup;
      registers = start_registers setup.h1 setup.h2 (checking_of setup) (acknowledging_of setup);
      catch = None;
      counts = no_counts;
      reader = reader_of (record { header = header_for setup; checking = checking_of setup }) fresh;
    }

-- "A refused start gives no panel.": what stands in its place has no page and no screen, and its reader takes nothing and hands nothing over
unfoldable pub no_panel : Panel
no_panel = with_reader (new_panel (record { h1 = 0; h2 = 0; flags = 0; pages = 0; width = 0; height = 0 })) no_reader

-- "A refused start gives no panel."
abbrev pub refuses : StartAnswer → Start
refuses answer = record { answer = answer; panel = no_panel }

-- "start .. 12, 13": what a wrong table is refused with
abbrev pub start_error_of : TableError → StartError
start_error_of NotRecords = start_error.NotRecords
start_error_of (Wrong i) = start_error.WrongRecord i

-- "start .. 12, 13": what a table's verdict answers
unfoldable pub start_judged : Verdict → Setup → Start
start_judged (Ok tt) setup = record { answer = Ok tt; panel = new_panel setup }
start_judged (Err why) setup = refuses (Err (start_error_of why))

-- "start 11, 12, 13"
unfoldable pub started : Setup → List ℕ → Start
started setup table = cond (not (good_setup setup)) (refuses (Err start_error.WrongSetup)) (start_judged (judged setup table) setup)
