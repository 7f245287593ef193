-- One answer fits each public function.
use mathlib.Core.Path.{sym, ◌∙◌}
use Rattle.wire.specs.OneAnswer.{OneAnswer}
use Rattle.touch.proofs.setups.good_setup.Reads as good_setup
use Rattle.touch.proofs.setups.good_setup.Kinds as good_setup_kinds
use Rattle.touch.proofs.setups.checking.Reads as checking
use Rattle.touch.proofs.setups.checking.Kinds as checking_kinds
use Rattle.touch.proofs.setups.acknowledging.Reads as acknowledging
use Rattle.touch.proofs.setups.acknowledging.Kinds as acknowledging_kinds
use Rattle.touch.proofs.records.record_of.Reads as record_of
use Rattle.touch.proofs.records.record_of.Kinds as record_of_kinds
use Rattle.touch.proofs.records.no_next.Reads as no_next
use Rattle.touch.proofs.records.no_next.Kinds as no_next_kinds
use Rattle.touch.proofs.records.is_slider.Reads as is_slider
use Rattle.touch.proofs.records.is_slider.Kinds as is_slider_kinds
use Rattle.touch.proofs.judging.good_record.Reads as good_record
use Rattle.touch.proofs.judging.good_record.Kinds as good_record_kinds
use Rattle.touch.proofs.TableError.number.Reads as table_error_number
use Rattle.touch.proofs.TableError.number.Kinds as table_error_number_kinds
use Rattle.touch.proofs.judging.judge.Reads as judge
use Rattle.touch.proofs.judging.judge.Kinds as judge_kinds
use Rattle.touch.proofs.finding.find.Reads as find
use Rattle.touch.proofs.finding.find.Kinds as find_kinds
use Rattle.touch.proofs.acting.acted.Reads as acted
use Rattle.touch.proofs.acting.acted.Kinds as acted_kinds
use Rattle.touch.proofs.acting.dragged.Reads as dragged
use Rattle.touch.proofs.acting.dragged.Kinds as dragged_kinds

pub good_setup_determined : OneAnswer 0 good_setup_kinds.ps good_setup_kinds.r good_setup.Post
good_setup_determined κs a x y s t p q = p.0 ∙ sym q.0

pub checking_determined : OneAnswer 0 checking_kinds.ps checking_kinds.r checking.Post
checking_determined κs a x y s t p q = cc

pub acknowledging_determined : OneAnswer 0 acknowledging_kinds.ps acknowledging_kinds.r acknowledging.Post
acknowledging_determined κs a x y s t p q = cc

pub record_of_determined : OneAnswer 1 record_of_kinds.ps record_of_kinds.r record_of.Post
record_of_determined κs a x y s t p q = cc

pub no_next_determined : OneAnswer 0 no_next_kinds.ps no_next_kinds.r no_next.Post
no_next_determined κs a x y s t p q = cc

pub is_slider_determined : OneAnswer 0 is_slider_kinds.ps is_slider_kinds.r is_slider.Post
is_slider_determined κs a x y s t p q = cc

pub good_record_determined : OneAnswer 0 good_record_kinds.ps good_record_kinds.r good_record.Post
good_record_determined κs a x y s t p q = cc

pub tableerror_number_determined : OneAnswer 0 table_error_number_kinds.ps table_error_number_kinds.r table_error_number.Post
tableerror_number_determined κs a x y s t p q = p ∙ sym q

pub judge_determined : OneAnswer 1 judge_kinds.ps judge_kinds.r judge.Post
judge_determined κs a x y s t p q = p.0 ∙ sym q.0

pub find_determined : OneAnswer 1 find_kinds.ps find_kinds.r find.Post
find_determined κs a x y s t p q = p.0 ∙ sym q.0

pub acted_determined : OneAnswer 0 acted_kinds.ps acted_kinds.r acted.Post
acted_determined κs a x y s t p q = cc

pub dragged_determined : OneAnswer 0 dragged_kinds.ps dragged_kinds.r dragged.Post
dragged_determined κs a x y s t p q = cc
