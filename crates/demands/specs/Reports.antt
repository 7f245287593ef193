-- The report that waits, and what is written when it is asked for, in the words of 01.
use Rattle.std.specs.Prelude.{ℕ, Bool, cond, ◌&&◌, List, []}
use Rattle.frame.specs.Acknowledgement.{acknowledgement}
use Rattle.reading.specs.Place.{Rules, Report}
use Rattle.reading.specs.Moves as Moves
use Rattle.line.specs.State.{rules_for, reader_of, kept_of}
use Rattle.touch.specs.declared.Setup.{Setup}
use Rattle.touch.specs.Setup.{checking_of, acknowledging_of}
use Rattle.panel.specs.declared.Panel.{Panel}
use Rattle.panel.specs.State.{header_of, with_reader}
use Rattle.panel.specs.Sound.{line_of}

-- "Two header bytes H1 H2, fixed at setup", and whether checking is on
abbrev pub rules_of : Panel → Rules
rules_of panel = rules_for (line_of panel.setup)

-- "The reports asked for, in order, are those of the reading of all that was given. While one of them is left, a report waits": the reading goes on
-- from what the panel's reader keeps
unfoldable pub report_waits : Panel → Bool
report_waits panel = Moves.waiting (rules_of panel) (kept_of panel.reader)

-- "a report waits": that report, if there is one
unfoldable pub waiting_report : Panel → List Report
waiting_report panel = Moves.handed (rules_of panel) (kept_of panel.reader)

-- the panel whose reader has gone on behind that report; nothing else of it differs
unfoldable pub read_behind : Panel → Panel
read_behind panel = with_reader panel (reader_of (line_of panel.setup) (Moves.after_report (rules_of panel) (kept_of panel.reader)))

-- "With checking and acknowledging both on, each accepted frame is first answered by header, length, command, 0xFF, check; each bad check by the same with
-- 0x00."
unfoldable pub acknowledgement_of : Setup → (command : ℕ) → (good : Bool) → List ℕ
acknowledgement_of setup command good = cond (checking_of setup && acknowledging_of setup) (acknowledgement (header_of setup) command good) []
