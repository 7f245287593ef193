-- What each call of the panel is answered. 01: "Where an answer is an enum, a definition gives this paper's number and values for each of its cases": those
-- definitions stand in Numbers.
use Rattle.std.specs.Prelude.{Option, Result}
use Rattle.panel.specs.declared.StartError.{StartError}
use Rattle.panel.specs.declared.LentError.{LentError}
use Rattle.panel.specs.declared.Handed.{Handed}
use Rattle.panel.specs.declared.ContactError.{ContactError}
use Rattle.panel.specs.declared.LiftError.{LiftError}

-- what a start is answered: "0: done", or why it is refused
abbrev pub StartAnswer : Type 0
StartAnswer = Result Unit StartError

-- what asking for a report is answered: a report or "nothing", or why the report still waits
abbrev pub AskAnswer : Type 0
AskAnswer = Result (Option Handed) LentError

-- what a contact is answered: "0: done", or why it is refused
abbrev pub ContactAnswer : Type 0
ContactAnswer = Result Unit ContactError

-- what a lift is answered: "0: done", or why it is refused
abbrev pub LiftAnswer : Type 0
LiftAnswer = Result Unit LiftError
