-- A read that is replied to: "Reply 0x81, address, count, bytes.", "Reply 0x83, address, count, words."
use Rattle.std.specs.Prelude.{◌≡◌, true, List, ℕ, length, Some, Ok}
use Rattle.frame.specs.Frame.{frame_of}
use Rattle.touch.specs.Setup.{checking_of}
use Rattle.panel.specs.declared.Handed.TheVariants.{Accepted}
use Rattle.panel.specs.State.{header_of}
use Rattle.demands.specs.Calls.{Moment, ask, after, number_given}
use Rattle.demands.specs.Reports.{acknowledgement_of}
use Rattle.demands.specs.Demand2.{with_reply}
use Rattle.demands.specs.Counts.{handed_by}

-- "Reply 0x81, address, count, bytes."; "Reply 0x83, address, count, words.": the read with this data is answered 0; its report tells how long its data, the
-- acknowledgement and the reply are; and the room is left with the reply frame of that other data, right behind the acknowledgement
pub record Replied (now : Moment) (command : ℕ) (content payload : List ℕ) : Type 0 where
  pub done : number_given now ask ≡ 0
  pub counts : handed_by now
      ≡ Ok (Some (Accepted command (length content) (Ok tt) (length (acknowledgement_of now.panel.setup command true))
      (length (frame_of (checking_of now.panel.setup) (header_of now.panel.setup) command payload))))
  pub room : (after now ask).lent.room ≡ with_reply now command payload
