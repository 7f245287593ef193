-- The room that an ask leaves, byte by byte, where a report is handed over.
use mathlib.Core.Path.{◌≡◌, sym, ap, ◌∙◌}
use mathlib.Core.Bool.{Bool, true, false}
use mathlib.Core.List.{List, [], ◌∷◌, ◌++◌, append-nil}
use Prim.Native.Nat.{ℕ, ◌+◌}
use native.Mathlib.Omega.{arith}
use lib.ListN.{length, drop}
use Rattle.wire.specs.Room.{over}
use Rattle.frame.specs.Frame.{header_bytes}
use Rattle.frame.specs.Acknowledgement.{acknowledgement_length, acknowledgement}
use Rattle.reading.specs.Place.{bad_check, accepted_frame}
use Rattle.touch.specs.declared.Setup.{Setup}
use Rattle.panel.specs.State.{answering}
use Rattle.panel.specs.Reachable.{Reachable}
use Rattle.demands.specs.Calls.{Moment, ask, after, handed_over}
use Rattle.demands.specs.Reports.{acknowledgement_of}
use Rattle.demands.specs.Demand2.{after_bad_check}
use Rattle.demands.specs.Counts.{reply_to}
use Rattle.demands.specs.Acknowledged.{seven_bytes, Acknowledges}
use Rattle.demands.proofs.Access.{answers_bad_check}
use Rattle.demands.proofs.Counts.{room_left}

module _ (setup : Setup) (command : ℕ) (good : Bool) where
  seven_written : answering setup ≡ true → acknowledgement_of setup command good ≡ seven_bytes setup command good
  unfolding acknowledgement_of acknowledgement acknowledgement_length header_bytes
  seven_written on = rw on

  none_written : answering setup ≡ false → acknowledgement_of setup command good ≡ []
  unfolding acknowledgement_of
  none_written off = rw off

acknowledges : (now : Moment) (command : ℕ) (good : Bool) (reply : List ℕ)
    → (after now ask).lent.room ≡ over (acknowledgement_of now.panel.setup command good ++ reply) now.lent.room → Acknowledges now command good reply
unfolding over
acknowledges now command good reply left =
    let setup = now.panel.setup in
    let room = now.lent.room in
    let seven = seven_bytes setup command good in
    let long : length (seven ++ reply) ≡ 7 + length reply = omega arith in
    record {
      both_on = λ on.
          left ∙ ap (λ (l : List ℕ). over (l ++ reply) room) (seven_written setup command good on) ∙ ap (λ (n : ℕ). seven ++ (reply ++ drop n room)) long;
      one_off = λ off. left ∙ ap (λ (l : List ℕ). over (l ++ reply) room) (none_written setup command good off);
    }

pub bad_check_acknowledged : (now : Moment) → Reachable now.panel → (command : ℕ) → handed_over now ask ≡ bad_check command ∷ []
    → Acknowledges now command false []
unfolding after_bad_check
bad_check_acknowledged now reached command hands =
    let answer = acknowledgement_of now.panel.setup command false in
    acknowledges now command false []
    (ap (λ (m : Moment). m.lent.room) (answers_bad_check now reached command hands) ∙ ap (λ (l : List ℕ). over l now.lent.room) (sym (append-nil answer)))

pub frame_acknowledged : (now : Moment) → Reachable now.panel → (command : ℕ) (content : List ℕ) → handed_over now ask ≡ accepted_frame command content ∷ []
    → Acknowledges now command true (reply_to now command content)
frame_acknowledged now reached command content hands = acknowledges now command true (reply_to now command content) (room_left now reached command content hands)
