-- The counts that a report hands over, against the bytes that asking lays. "The reply follows the acknowledgement at once in the same room. .. bytes past the
-- reported count stay." The theorems are in proofs/Demand2.
use Rattle.std.specs.Prelude.{◌≡◌, true, false, cond, List, [], ◌∷◌, ℕ, ◌+◌, ◌<◌, eqb, length, take, drop}
use Rattle.reading.specs.Place.{bad_check, accepted_frame}
use Rattle.panel.specs.Answers.{AskAnswer}
use Rattle.panel.specs.Reporting.{reporting}
use Rattle.demands.specs.Calls.{Moment, ask, after, number_given, handed_over}
use Rattle.demands.specs.Reports.{acknowledgement_of}
use Rattle.demands.specs.Demand2.{read_reply, fetch_reply}

-- what asking answers: the report that it hands over, with its counts
abbrev pub handed_by : Moment → AskAnswer
handed_by now = (reporting now.panel now.lent).reported.handed

-- "Reply 0x81, address, count, bytes."; "Reply 0x83, address, count, words.": the reply frame to a command that asking hands over, where it is done
unfoldable pub reply_to : Moment → (command : ℕ) → (content : List ℕ) → List ℕ
reply_to now command content =
    cond (eqb (number_given now ask) 0) (cond (eqb command 0x81) (read_reply now content) (cond (eqb command 0x83) (fetch_reply now content) [])) []

-- "The reply follows the acknowledgement at once in the same room. .. bytes past the reported count stay.": the counts are those of an acknowledgement and a
-- reply; so many bytes of the room that is left are the one, so many right behind them the other, and all behind those are as they stood
pub record Counted (now : Moment) (acknowledged replied : ℕ) (acknowledgement reply : List ℕ) : Type 0 where
  pub acknowledged_is : acknowledged ≡ length acknowledgement
  pub replied_is : replied ≡ length reply
  pub first : take acknowledged (after now ask).lent.room ≡ acknowledgement
  pub next : take replied (drop acknowledged (after now ask).lent.room) ≡ reply
  pub rest : drop (acknowledged + replied) (after now ask).lent.room ≡ drop (acknowledged + replied) now.lent.room

-- "each bad check by the same with 0x00": its command, how long an acknowledgement was written, and no reply
pub record BadCheckCounted (now : Moment) (command acknowledged : ℕ) : Type 0 where
  pub hands : handed_over now ask ≡ bad_check command ∷ []
  pub counted : Counted now acknowledged 0 (acknowledgement_of now.panel.setup command false) []

-- "each accepted frame is first answered by header, length, command, 0xFF, check": its command, how much data there is, how long an acknowledgement and how long
-- a reply were written
pub record FrameCounted (now : Moment) (command count acknowledged replied : ℕ) : Type 0 where
  pub content : List ℕ
  pub hands : handed_over now ask ≡ accepted_frame command content ∷ []
  pub count_is : count ≡ length content
  pub counted : Counted now acknowledged replied (acknowledgement_of now.panel.setup command true) (reply_to now command content)
  pub refused_has_none : 0 < number_given now ask → replied ≡ 0
