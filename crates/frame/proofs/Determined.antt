-- One answer fits each public function.
use mathlib.Core.Path.{sym, ap, ◌∙◌}
use Rattle.wire.specs.OneAnswer.{OneAnswer, OneAnswerLeft}
use Rattle.wire.specs.Room.{Laid}
use Rattle.frame.specs.Writer.{Writing}
use Rattle.frame.proofs.WriteError.number.Reads as write_error_number
use Rattle.frame.proofs.WriteError.number.Kinds as write_error_number_kinds
use Rattle.frame.proofs.Header.length.Reads as length
use Rattle.frame.proofs.Header.length.Kinds as length_kinds
use Rattle.frame.proofs.check_length.Reads as check_length
use Rattle.frame.proofs.check_length.Kinds as check_length_kinds
use Rattle.frame.proofs.most_data.Reads as most_data
use Rattle.frame.proofs.most_data.Kinds as most_data_kinds
use Rattle.frame.proofs.put_frame.Reads as put_frame
use Rattle.frame.proofs.put_frame.Kinds as put_frame_kinds
use Rattle.frame.proofs.put_acknowledgement.Reads as put_acknowledgement
use Rattle.frame.proofs.put_acknowledgement.Kinds as put_acknowledgement_kinds
use Rattle.frame.proofs.close_frame.Reads as close_frame
use Rattle.frame.proofs.close_frame.Kinds as close_frame_kinds
use Rattle.frame.proofs.write_frame.Reads as write_frame
use Rattle.frame.proofs.write_frame.Kinds as write_frame_kinds

pub writeerror_number_determined : OneAnswer 0 write_error_number_kinds.ps write_error_number_kinds.r write_error_number.Post
writeerror_number_determined κs a x y s t p q = p ∙ sym q

pub length_determined : OneAnswer 0 length_kinds.ps length_kinds.r length.Post
length_determined κs a x y s t p q = cc

pub check_length_determined : OneAnswer 0 check_length_kinds.ps check_length_kinds.r check_length.Post
check_length_determined κs a x y s t p q = cc

pub most_data_determined : OneAnswer 0 most_data_kinds.ps most_data_kinds.r most_data.Post
most_data_determined κs a x y s t p q = cc

pub put_frame_determined : OneAnswerLeft 2 put_frame_kinds.ps put_frame_kinds.r put_frame.Post (λ κs s. s.1.1.1.1.0.now)
put_frame_determined κs a x y s t p q = (ap (λ (l : Laid). l.count) (p ∙ sym q), ap (λ (l : Laid). l.room) (p ∙ sym q))

pub put_acknowledgement_determined :
    OneAnswerLeft 1 put_acknowledgement_kinds.ps put_acknowledgement_kinds.r put_acknowledgement.Post (λ κs s. s.1.1.1.0.now)
put_acknowledgement_determined κs a x y s t p q = (ap (λ (l : Laid). l.count) (p ∙ sym q), ap (λ (l : Laid). l.room) (p ∙ sym q))

pub close_frame_determined : OneAnswerLeft 1 close_frame_kinds.ps close_frame_kinds.r close_frame.Post (λ κs s. s.1.1.1.0.now)
close_frame_determined κs a x y s t p q = (ap (λ (l : Laid). l.count) (p ∙ sym q), ap (λ (l : Laid). l.room) (p ∙ sym q))

pub write_frame_determined : OneAnswerLeft 2 write_frame_kinds.ps write_frame_kinds.r write_frame.Post (λ κs s. s.1.1.1.1.0.now)
write_frame_determined κs a x y s t p q = (ap (λ (w : Writing). w.answer) (p.0 ∙ sym q.0), ap (λ (w : Writing). w.room) (p.0 ∙ sym q.0))
