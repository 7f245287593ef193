-- `frame::put_acknowledgement` meets its contract.
use Rattle.frame.proofs.Writers.{acknowledgement_fits, acknowledgement_no_room, acknowledgement_put}
use Rattle.frame.proofs.put_acknowledgement.Goals as goal

pub returns-then-room-length : goal.returns-then-room-length
returns-then-room-length c = search acknowledgement_no_room

pub put_enclosed-requires : goal.put_enclosed-requires
put_enclosed-requires c = search acknowledgement_fits

pub returns : goal.returns
returns c = search acknowledgement_put
