-- No public promise cites this file: what private functions of the panel go by.
use Rattle.std.specs.Prelude.{Bool, cond, not, Result, Ok, Err}
use Rattle.panel.specs.Answers.{ContactAnswer}
use Rattle.panel.specs.declared.LentError.{LentError}
use Rattle.panel.specs.declared.LentError.TheVariants as lent_error
use Rattle.panel.specs.declared.ContactError.TheVariants.{NotLent, WrongList, Waits}

-- "contact 14, 1, ..", with 16 "right after 14": the first of these three that a contact is refused with; `Ok` where it is none of them
unfoldable pub before_table : (short wrong waits : Bool) → ContactAnswer
before_table short wrong waits = cond short (Err NotLent) (cond wrong (Err WrongList) (cond waits (Err Waits) (Ok tt)))

-- "asking for a report 14, ..", with 16 "right after 14": why a report still waits
unfoldable pub ask_judged : (lent wrong : Bool) → Result Unit LentError
ask_judged lent wrong = cond (not lent) (Err lent_error.NotLent) (cond wrong (Err lent_error.WrongList) (Ok tt))
