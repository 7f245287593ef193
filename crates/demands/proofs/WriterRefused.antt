-- A frame writer that refuses leaves the room that it was lent.
use Rattle.std.specs.Prelude.{Ok, Err}
use mathlib.Core.Path.{◌≡◌, refl}
use mathlib.Core.Bool.{Bool, true, false, cond}
use mathlib.Core.List.{List, [], ◌∷◌}
use Prim.Native.Nat.{ℕ, ◌<◌}
use native.Mathlib.Omega.{arith}
use lib.Dec.{ltb}
use lib.ListN.{length, replicate}
use Rattle.wire.specs.Room.{over}
use Rattle.frame.specs.Frame.{frame_of, most_data, check_length}
use Rattle.frame.specs.declared.WriteError.TheVariants.{DataTooLong, RoomTooSmall}
use Rattle.frame.specs.Writer.{least_room, Writing, answers, writing, number_of_written}

pub refused_writer_room : (checking : Bool) (header : List ℕ) (command : ℕ) (payload room : List ℕ)
    → 0 < number_of_written (writing checking header command payload room).answer → (writing checking header command payload room).room ≡ room
unfolding writing number_of_written
refused_writer_room checking header command payload room = go (ltb (length room) least_room) (ltb (most_data checking) (length payload))
  where
    frame : List ℕ
    frame = frame_of checking header command payload

    written : (small long : Bool) → Writing
    written small long = cond small (answers (Err RoomTooSmall) room) (cond long (answers (Err DataTooLong) room) (answers (Ok (length frame)) (over frame room)))

    go : (small long : Bool) → 0 < number_of_written (written small long).answer → (written small long).room ≡ room
    go true long above = refl
    go false true above = refl
    go false false above = absurd (omega arith)

-- both refusals there are: 14 for a room one byte short, 3 for data one byte over the limit
pub refused_by_room : number_of_written (writing true (0x5A ∷ 0xA5 ∷ []) 0x80 [] (replicate 264 0)).answer ≡ 14
unfolding writing number_of_written
refused_by_room = refl

pub refused_by_data : number_of_written (writing true (0x5A ∷ 0xA5 ∷ []) 0x80 (replicate 253 0) (replicate 265 0)).answer ≡ 3
unfolding writing number_of_written most_data check_length
refused_by_data = refl
