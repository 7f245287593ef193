-- `frame::write_frame` meets its contract.
use Rattle.frame.proofs.Writers.{header_short, writer_no_room, writer_too_long, writer_done}
use Rattle.frame.proofs.Said.{written_said_lem}
use Rattle.frame.proofs.write_frame.Goals as goal

pub returns-then-room-lt-LEAST_ROOM : goal.returns-then-room-lt-LEAST_ROOM
returns-then-room-lt-LEAST_ROOM c = let both = written_said_lem _ _ _ _ _ _ _ (search writer_no_room) in record { room_after = both.0; result_value = both.1 }

pub returns-then-most_data-payload : goal.returns-then-most_data-payload
returns-then-most_data-payload c = let both = written_said_lem _ _ _ _ _ _ _ (search writer_too_long) in record { room_after = both.0; result_value = both.1 }

pub returns : goal.returns
returns c = let both = written_said_lem _ _ _ _ _ _ _ (search (writer_done, header_short)) in record { room_after = both.0; result_value = both.1 }
