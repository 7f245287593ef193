-- What the frame writer answers says what 01's list gives: 14, then 3, else 0 and the frame's length.
use mathlib.Core.Path.{◌≡◌, refl, ap, ◌∙◌}
use mathlib.Core.Bool.{Bool, true, false, cond}
use mathlib.Core.List.{List, [], ◌∷◌}
use Prim.Native.Nat.{ℕ}
use lib.Dec.{ltb}
use lib.ListN.{length}
use Rattle.std.specs.Prelude.{Ok, Err}
use Rattle.wire.specs.Numbers.{says, first_said}
use Rattle.wire.specs.Room.{over}
use Rattle.frame.specs.declared.WriteError.TheVariants.{DataTooLong, RoomTooSmall}
use Rattle.frame.specs.Frame.{frame_of, most_data}
use Rattle.frame.specs.Writer.{Written, least_room, number_of_written, written_said, writer_listed, writer_said, Writing, answers, writing}
use Rattle.frame.proofs.Writers.{length_frame_of}

written_as_listed : (checking : Bool) (header : List ℕ) (command : ℕ) (payload room : List ℕ)
    → written_said (writing checking header command payload room).answer ≡ writer_said checking header payload room
unfolding writing written_said number_of_written writer_listed first_said
written_as_listed checking header command payload room =
    rw (← length_frame_of checking header command payload) (go (ltb (length room) least_room) (ltb (most_data checking) (length payload)))
  where
    frame : List ℕ
    frame = frame_of checking header command payload

    go : (a b : Bool)
        → written_said (cond a (answers (Err RoomTooSmall) room) (cond b (answers (Err DataTooLong) room) (answers (Ok (length frame)) (over frame room)))).answer
        ≡ cond a (says 14 []) (cond b (says 3 []) (says 0 (length frame ∷ [])))
    go true b = refl
    go false true = refl
    go false false = refl

pub written_said_lem : (checking : Bool) (header : List ℕ) (command : ℕ) (payload room : List ℕ) (r : Written) (left : List ℕ)
    → answers r left ≡ writing checking header command payload room
    → (answers r left ≡ writing checking header command payload room) × (written_said r ≡ writer_said checking header payload room)
written_said_lem checking header command payload room r left is =
    (is, ap (λ (w : Writing). written_said w.answer) is ∙ written_as_listed checking header command payload room)
