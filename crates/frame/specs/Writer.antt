-- 01, "Frame": "The frame writer takes any header pair, checking choice, command byte, data and room; it refuses with 14, then 3, else
-- answers the frame's length; room past the frame stays."
use Rattle.std.specs.Prelude.{ℕ, ◌+◌, Bool, cond, ◌&&◌, List, [], ◌∷◌, Result, Ok, Err, leb, ltb, length, take, drop}
use Rattle.wire.specs.Numbers.{Said, says, Listed, ◌when◌, first_said}
use Rattle.wire.specs.Room.{over, Laid, laid}
use Rattle.frame.specs.declared.WriteError.{WriteError}
use Rattle.frame.specs.declared.WriteError.TheVariants.{DataTooLong, RoomTooSmall}
use Rattle.frame.specs.Frame.{check_length, framed, frame_of, most_data}
use Rattle.frame.specs.Acknowledgement.{acknowledgement}

-- "reply or writer's room below 265"
abbrev pub least_room : ℕ
least_room = 265

-- "it refuses with 14, then 3, else answers the frame's length"
abbrev pub Written : Type 0
Written = Result ℕ WriteError

-- "it refuses with 14, then 3, else answers the frame's length": the number of each answer, "0: done" with the length
unfoldable pub number_of_written : Written → ℕ
number_of_written (Ok n) = 0
number_of_written (Err DataTooLong) = 3
number_of_written (Err RoomTooSmall) = 14

-- beside the number: "else answers the frame's length"
unfoldable pub written_said : Written → Said
written_said (Ok n) = says (number_of_written (Ok n)) (n ∷ [])
written_said (Err e) = says (number_of_written (Err e)) []

-- "it refuses with 14, then 3": "writer's room below 265"; "data over the limit"
unfoldable pub writer_listed : Bool → (payload room : List ℕ) → List Listed
writer_listed checking payload room =
    (says 14 [] when ltb (length room) least_room) ∷ (says 3 [] when ltb (most_data checking) (length payload)) ∷ []

-- "L counts command, data and check bytes, so a frame has 3 + L bytes"
abbrev pub writer_said : Bool → (header payload room : List ℕ) → Said
writer_said checking header payload room =
    first_said (writer_listed checking payload room) (says 0 ((length header + 1 + (1 + length payload + check_length checking)) ∷ []))

-- what the writer answers, and the room as it leaves it
pub record Writing : Type 0 where
  pub answer : Written
  pub room : List ℕ

-- builds one
abbrev pub answers : Written → List ℕ → Writing
answers answer room = record { answer = answer; room = room }

-- "it refuses with 14, then 3, else answers the frame's length; room past the frame stays"
unfoldable pub writing : Bool → List ℕ → ℕ → List ℕ → List ℕ → Writing
writing checking header command payload room =
    let frame = frame_of checking header command payload in
    cond (ltb (length room) least_room) (answers (Err RoomTooSmall) room)
    (cond (ltb (most_data checking) (length payload)) (answers (Err DataTooLong) room)
    (answers (Ok (length frame)) (over frame room)))

-- The inner writers lay a frame whole over the front of the room, or, where it may not or cannot stand there, leave the room and answer 0.

-- the frame for a command and data within the limit, if the room holds it
unfoldable pub frame_laid : Bool → List ℕ → ℕ → List ℕ → List ℕ → Laid
frame_laid checking header command payload room =
    let frame = frame_of checking header command payload in
    laid (leb (length payload) (most_data checking) && leb (length frame) (length room)) frame room

-- an acknowledgement, if the room holds it
unfoldable pub acknowledgement_laid : List ℕ → ℕ → Bool → List ℕ → Laid
acknowledgement_laid header command accepted room =
    let frame = acknowledgement header command accepted in
    laid (leb (length frame) (length room)) frame room

-- the frame around the n bytes of command and data that stand in the room already, behind where header and length byte go
unfoldable pub closed_laid : Bool → List ℕ → ℕ → List ℕ → Laid
closed_laid checking header n room =
    let frame = framed checking header (take n (drop (length header + 1) room)) in
    laid (leb n (1 + most_data checking) && leb (length header + 1 + (n + check_length checking)) (length room)) frame room
