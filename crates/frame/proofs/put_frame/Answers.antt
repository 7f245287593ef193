-- `frame::put_frame` meets its contract.
use Rattle.frame.proofs.Writers.{length_fits, frame_too_long, frame_no_room, frame_put}
use Rattle.frame.proofs.put_frame.Goals as goal

pub returns-then-most_data-n : goal.returns-then-most_data-n
returns-then-most_data-n c = search frame_too_long

pub returns-then-room-length : goal.returns-then-room-length
returns-then-room-length c = search frame_no_room

pub overflow_cast-l : goal.overflow_cast-l
overflow_cast-l c = search length_fits

pub returns : goal.returns
returns c = search frame_put
