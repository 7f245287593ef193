-- What an ask lays over the room: the acknowledgement, and right behind it the reply.
use mathlib.Core.Path.{◌≡◌, sym, ap}
use mathlib.Core.Bool.{Bool, true, false, cond, ◌&&◌}
use mathlib.Core.List.{List, []}
use Prim.Native.Nat.{ℕ, ◌≤◌}
use native.Mathlib.Omega.{arith}
use borrow.Author.Tests.{le-leb}
use lib.Dec.{leb}
use lib.ListN.{length}
use Rattle.wire.specs.Room.{over, lays, laid}
use Rattle.wire.proofs.Over.{over_nil}
use Rattle.frame.specs.Frame.{header_bytes}
use Rattle.frame.specs.Acknowledgement.{acknowledgement}
use Rattle.frame.specs.Writer.{acknowledgement_laid, least_room}
use Rattle.frame.proofs.Acknowledgements.{length_acknowledgement}
use Rattle.touch.specs.declared.Setup.{Setup}
use Rattle.touch.specs.Setup.{checking_of, acknowledging_of}
use Rattle.panel.specs.State.{header_of}
use Rattle.panel.specs.Reporting.{acknowledged}
use Rattle.demands.specs.Reports.{acknowledgement_of}

-- 02, §1: "its frame still has seven bytes"
acknowledgement_long : (setup : Setup) (command : ℕ) (good : Bool) → length (acknowledgement (header_of setup) command good) ≡ 7
unfolding header_bytes
acknowledgement_long setup command good = length_acknowledgement (header_of setup) command good

-- a room that is lent holds every acknowledgement
pub acknowledged_laid : (setup : Setup) (command : ℕ) (good : Bool) (room : List ℕ) → least_room ≤ length room
    → acknowledged setup command good room
    ≡ lays (length (acknowledgement_of setup command good)) (over (acknowledgement_of setup command good) room)
unfolding acknowledged acknowledgement_of acknowledgement_laid laid
acknowledged_laid setup command good room large = go (checking_of setup && acknowledging_of setup)
  where
    answer : List ℕ
    answer = acknowledgement (header_of setup) command good

    fits : leb (length answer) (length room) ≡ true
    fits = le-leb (length answer) (length room) (omega (arith, acknowledgement_long setup command good))

    go : (b : Bool) → cond b (cond (leb (length answer) (length room)) (lays (length answer) (over answer room)) (lays 0 room)) (lays 0 room)
        ≡ lays (length (cond b answer [])) (over (cond b answer []) room)
    go true = rw fits
    go false = ap (λ (r : List ℕ). lays 0 r) (sym (over_nil room))

pub acknowledgement_short : (setup : Setup) (command : ℕ) (good : Bool) → length (acknowledgement_of setup command good) ≤ 7
unfolding acknowledgement_of
acknowledgement_short setup command good = go (checking_of setup && acknowledging_of setup)
  where
    go : (b : Bool) → length (cond b (acknowledgement (header_of setup) command good) []) ≤ 7
    go true = omega (arith, acknowledgement_long setup command good)
    go false = omega arith
