-- 01, "Numbers given back": the number of each answer.
use Rattle.std.specs.Prelude.{None, Some, Ok, Err}
use Rattle.std.specs.Prelude.{ℕ, [], ◌∷◌}
use Rattle.commands.specs.Outcome.{number_of_outcome}
use Rattle.panel.specs.Answers.{StartAnswer}
use Rattle.panel.specs.declared.StartError.TheVariants as start_error
use Rattle.panel.specs.Answers.{AskAnswer}
use Rattle.panel.specs.declared.Handed.TheVariants as handed
use Rattle.panel.specs.declared.LentError.TheVariants as lent_error
use Rattle.panel.specs.Answers.{ContactAnswer}
use Rattle.panel.specs.declared.ContactError.TheVariants as contact_error
use Rattle.panel.specs.Answers.{LiftAnswer}
use Rattle.wire.specs.Numbers.{Said, says}
use Rattle.panel.specs.declared.LiftError.TheVariants as lift_error

-- "start 11, 12, 13", "0: done": the number of each answer
unfoldable pub start_number : StartAnswer → ℕ
start_number (Ok tt) = 0
start_number (Err start_error.WrongSetup) = 11
start_number (Err start_error.NotRecords) = 12
start_number (Err (start_error.WrongRecord i)) = 13

-- "Numbers 2 to 7 are answers beside a frame's report"; 02, §4: "16, .., right after 14 at contacts and reports"; a bad check and "nothing" have no number of their own
unfoldable pub report_number : AskAnswer → ℕ
report_number (Err lent_error.NotLent) = 14
report_number (Err lent_error.WrongList) = 16
report_number (Ok None) = 0
report_number (Ok (Some (handed.BadCheck command acknowledged))) = 0
report_number (Ok (Some (handed.Accepted command count outcome acknowledged replied))) = number_of_outcome outcome

-- beside the number: the command, how much data there is, how long an acknowledgement and how long a reply were written
unfoldable pub handed_said : AskAnswer → Said
handed_said (Err lent_error.NotLent) = says (report_number (Err lent_error.NotLent)) []
handed_said (Err lent_error.WrongList) = says (report_number (Err lent_error.WrongList)) []
handed_said (Ok None) = says (report_number (Ok None)) []
handed_said (Ok (Some (handed.BadCheck command acknowledged))) = says (report_number (Ok (Some (handed.BadCheck command acknowledged)))) (command ∷ acknowledged ∷ [])
handed_said (Ok (Some (handed.Accepted command count outcome acknowledged replied))) =
    says (report_number (Ok (Some (handed.Accepted command count outcome acknowledged replied)))) (command ∷ count ∷ acknowledged ∷ replied ∷ [])

-- "contact 14, 1, 12, 13, 9, 8", "0: done", 02, §4: "16, .., right after 14 at contacts and reports": the number of each answer
unfoldable pub contact_number : ContactAnswer → ℕ
contact_number (Ok tt) = 0
contact_number (Err contact_error.NotLent) = 14
contact_number (Err contact_error.WrongList) = 16
contact_number (Err contact_error.Waits) = 1
contact_number (Err contact_error.NotRecords) = 12
contact_number (Err (contact_error.WrongRecord i)) = 13
contact_number (Err contact_error.TouchOff) = 9
contact_number (Err contact_error.OffScreen) = 8

-- "lift 1, 10", "0: done": the number of each answer
unfoldable pub lift_number : LiftAnswer → ℕ
lift_number (Ok tt) = 0
lift_number (Err lift_error.Waits) = 1
lift_number (Err lift_error.IsUp) = 10

-- what is named beside the number: "13: a record is wrong; the first wrong one is named"
unfoldable pub start_said : StartAnswer → Said
start_said (Ok tt) = says (start_number (Ok tt)) []
start_said (Err start_error.WrongSetup) = says (start_number (Err start_error.WrongSetup)) []
start_said (Err start_error.NotRecords) = says (start_number (Err start_error.NotRecords)) []
start_said (Err (start_error.WrongRecord i)) = says (start_number (Err (start_error.WrongRecord i))) (i ∷ [])

-- what a contact answers: its number; beside 0 how many bytes were written into the room, and beside 13 "the first wrong one is named"
unfoldable pub contact_said : ContactAnswer → (written : ℕ) → Said
contact_said (Ok tt) written = says (contact_number (Ok tt)) (written ∷ [])
contact_said (Err contact_error.NotLent) written = says (contact_number (Err contact_error.NotLent)) []
contact_said (Err contact_error.WrongList) written = says (contact_number (Err contact_error.WrongList)) []
contact_said (Err contact_error.Waits) written = says (contact_number (Err contact_error.Waits)) []
contact_said (Err contact_error.NotRecords) written = says (contact_number (Err contact_error.NotRecords)) []
contact_said (Err (contact_error.WrongRecord i)) written = says (contact_number (Err (contact_error.WrongRecord i))) (i ∷ [])
contact_said (Err contact_error.TouchOff) written = says (contact_number (Err contact_error.TouchOff)) []
contact_said (Err contact_error.OffScreen) written = says (contact_number (Err contact_error.OffScreen)) []

-- what a lift answers: its number, beside which nothing is named
unfoldable pub lift_said : LiftAnswer → Said
lift_said answer = says (lift_number answer) []
