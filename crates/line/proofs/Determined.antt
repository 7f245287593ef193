-- One answer fits each public function.
use mathlib.Core.Path.{sym, ◌∙◌}
use Rattle.wire.specs.OneAnswer.{OneAnswer}
use Rattle.line.proofs.Waiting.number.Reads as waiting_number
use Rattle.line.proofs.Waiting.number.Kinds as waiting_number_kinds
use Rattle.line.proofs.Reader.new.Reads as new
use Rattle.line.proofs.Reader.new.Kinds as new_kinds
use Rattle.line.proofs.Reader.none.Reads as none
use Rattle.line.proofs.Reader.none.Kinds as none_kinds
use Rattle.line.proofs.Reader.is_waiting.Reads as is_waiting
use Rattle.line.proofs.Reader.is_waiting.Kinds as is_waiting_kinds
use Rattle.line.proofs.Reader.give_byte.Reads as give_byte
use Rattle.line.proofs.Reader.give_byte.Kinds as give_byte_kinds
use Rattle.line.proofs.Reader.give_mark.Reads as give_mark
use Rattle.line.proofs.Reader.give_mark.Kinds as give_mark_kinds
use Rattle.line.proofs.Reader.ask.Reads as ask
use Rattle.line.proofs.Reader.ask.Kinds as ask_kinds
use Rattle.line.proofs.Reader.give_bytes.Reads as give_bytes
use Rattle.line.proofs.Reader.give_bytes.Kinds as give_bytes_kinds

pub waiting_number_determined : OneAnswer 0 waiting_number_kinds.ps waiting_number_kinds.r waiting_number.Post
waiting_number_determined κs a x y s t p q = p ∙ sym q

pub new_determined : OneAnswer 0 new_kinds.ps new_kinds.r new.Post
new_determined κs a x y s t p q = p ∙ sym q

pub none_determined : OneAnswer 0 none_kinds.ps none_kinds.r none.Post
none_determined κs a x y s t p q = p ∙ sym q

pub is_waiting_determined : OneAnswer 0 is_waiting_kinds.ps is_waiting_kinds.r is_waiting.Post
is_waiting_determined κs a x y s t p q = p ∙ sym q

pub give_byte_determined : OneAnswer 0 give_byte_kinds.ps give_byte_kinds.r give_byte.Post
give_byte_determined κs a x y s t p q = p.0 ∙ sym q.0

pub give_mark_determined : OneAnswer 0 give_mark_kinds.ps give_mark_kinds.r give_mark.Post
give_mark_determined κs a x y s t p q = p.0 ∙ sym q.0

pub ask_determined : OneAnswer 0 ask_kinds.ps ask_kinds.r ask.Post
ask_determined κs a x y s t p q = p.0 ∙ sym q.0

pub give_bytes_determined : OneAnswer 1 give_bytes_kinds.ps give_bytes_kinds.r give_bytes.Post
give_bytes_determined κs a x y s t p q = p ∙ sym q
