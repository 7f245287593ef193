-- `frame::close_frame` meets its contract.
use Rattle.frame.proofs.Writers.{content_fits, close_too_long, close_no_room, close_put}
use Rattle.frame.proofs.close_frame.Goals as goal

pub returns-then-most_data-n : goal.returns-then-most_data-n
returns-then-most_data-n c = search close_too_long

pub returns-then-room-k : goal.returns-then-room-k
returns-then-room-k c = search close_no_room

pub overflow_cast-l : goal.overflow_cast-l
overflow_cast-l c = search content_fits

pub returns : goal.returns
returns c = search close_put
