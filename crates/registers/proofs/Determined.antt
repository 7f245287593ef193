-- One answer fits each public function.
use mathlib.Core.Path.{sym, ap, ◌∙◌}
use Rattle.wire.specs.Room.{Laid}
use Rattle.wire.specs.OneAnswer.{OneAnswer, OneAnswerLeft}
use Rattle.registers.proofs.judging.is_unwritable.Reads as is_unwritable
use Rattle.registers.proofs.judging.is_unwritable.Kinds as is_unwritable_kinds
use Rattle.registers.proofs.judging.is_wrong_value.Reads as is_wrong_value
use Rattle.registers.proofs.judging.is_wrong_value.Kinds as is_wrong_value_kinds
use Rattle.registers.proofs.judging.clear_value.Reads as clear_value
use Rattle.registers.proofs.judging.clear_value.Kinds as clear_value_kinds
use Rattle.registers.proofs.judging.drops_catch.Reads as drops_catch
use Rattle.registers.proofs.judging.drops_catch.Kinds as drops_catch_kinds
use Rattle.registers.proofs.RegisterAddress.passes_end.Reads as passes_end
use Rattle.registers.proofs.RegisterAddress.passes_end.Kinds as passes_end_kinds
use Rattle.registers.proofs.Registers.start.Reads as start
use Rattle.registers.proofs.Registers.start.Kinds as start_kinds
use Rattle.registers.proofs.Registers.at.Reads as at
use Rattle.registers.proofs.Registers.at.Kinds as at_kinds
use Rattle.registers.proofs.Registers.write.Reads as write
use Rattle.registers.proofs.Registers.write.Kinds as write_kinds
use Rattle.registers.proofs.laying.read.Reads as read
use Rattle.registers.proofs.laying.read.Kinds as read_kinds
use Rattle.registers.proofs.Registers.page.Reads as page
use Rattle.registers.proofs.Registers.page.Kinds as page_kinds
use Rattle.registers.proofs.Registers.with_page.Reads as with_page
use Rattle.registers.proofs.Registers.with_page.Kinds as with_page_kinds
use Rattle.registers.proofs.Registers.is_down.Reads as is_down
use Rattle.registers.proofs.Registers.is_down.Kinds as is_down_kinds
use Rattle.registers.proofs.Registers.with_status.Reads as with_status
use Rattle.registers.proofs.Registers.with_status.Kinds as with_status_kinds
use Rattle.registers.proofs.Registers.is_touch_off.Reads as is_touch_off
use Rattle.registers.proofs.Registers.is_touch_off.Kinds as is_touch_off_kinds
use Rattle.registers.proofs.Registers.with_place.Reads as with_place
use Rattle.registers.proofs.Registers.with_place.Kinds as with_place_kinds
use Rattle.registers.proofs.Registers.moment.Reads as moment
use Rattle.registers.proofs.Registers.moment.Kinds as moment_kinds
use Rattle.registers.proofs.Registers.second_passed.Reads as second_passed
use Rattle.registers.proofs.Registers.second_passed.Kinds as second_passed_kinds

pub is_unwritable_determined : OneAnswer 1 is_unwritable_kinds.ps is_unwritable_kinds.r is_unwritable.Post
is_unwritable_determined κs a x y s t p q = cc

pub is_wrong_value_determined : OneAnswer 1 is_wrong_value_kinds.ps is_wrong_value_kinds.r is_wrong_value.Post
is_wrong_value_determined κs a x y s t p q = cc

pub clear_value_determined : OneAnswer 1 clear_value_kinds.ps clear_value_kinds.r clear_value.Post
clear_value_determined κs a x y s t p q = p ∙ sym q

pub drops_catch_determined : OneAnswer 1 drops_catch_kinds.ps drops_catch_kinds.r drops_catch.Post
drops_catch_determined κs a x y s t p q = cc

pub passes_end_determined : OneAnswer 0 passes_end_kinds.ps passes_end_kinds.r passes_end.Post
passes_end_determined κs a x y s t p q = p ∙ sym q

pub start_determined : OneAnswer 0 start_kinds.ps start_kinds.r start.Post
start_determined κs a x y s t p q = p ∙ sym q

pub at_determined : OneAnswer 0 at_kinds.ps at_kinds.r at.Post
at_determined κs a x y s t p q = p ∙ sym q

pub write_determined : OneAnswer 1 write_kinds.ps write_kinds.r write.Post
write_determined κs a x y s t p q = p ∙ sym q

pub read_determined : OneAnswerLeft 2 read_kinds.ps read_kinds.r read.Post (λ κs s. s.1.1.1.0.now)
read_determined κs a x y s t p q = (ap (λ (l : Laid). l.count) (p ∙ sym q), ap (λ (l : Laid). l.room) (p ∙ sym q))

pub page_determined : OneAnswer 0 page_kinds.ps page_kinds.r page.Post
page_determined κs a x y s t p q = p ∙ sym q

pub with_page_determined : OneAnswer 0 with_page_kinds.ps with_page_kinds.r with_page.Post
with_page_determined κs a x y s t p q = p ∙ sym q

pub is_down_determined : OneAnswer 0 is_down_kinds.ps is_down_kinds.r is_down.Post
is_down_determined κs a x y s t p q = p ∙ sym q

pub with_status_determined : OneAnswer 0 with_status_kinds.ps with_status_kinds.r with_status.Post
with_status_determined κs a x y s t p q = p ∙ sym q

pub is_touch_off_determined : OneAnswer 0 is_touch_off_kinds.ps is_touch_off_kinds.r is_touch_off.Post
is_touch_off_determined κs a x y s t p q = p ∙ sym q

pub with_place_determined : OneAnswer 0 with_place_kinds.ps with_place_kinds.r with_place.Post
with_place_determined κs a x y s t p q = p ∙ sym q

pub moment_determined : OneAnswer 0 moment_kinds.ps moment_kinds.r moment.Post
moment_determined κs a x y s t p q = p ∙ sym q

pub second_passed_determined : OneAnswer 0 second_passed_kinds.ps second_passed_kinds.r second_passed.Post
second_passed_determined κs a x y s t p q = p ∙ sym q
