-- One answer fits each public function.
use mathlib.Core.Path.{sym, ap, ◌∙◌}
use Rattle.wire.specs.OneAnswer.{OneAnswer, OneAnswerLeft}
use Rattle.wire.specs.Room.{Laid}
use Rattle.items.proofs.KindBytes.{decodes_once}
use Rattle.items.proofs.item.no_item.Reads as no_item
use Rattle.items.proofs.item.no_item.Kinds as no_item_kinds
use Rattle.items.proofs.item.kind_of.Reads as kind_of
use Rattle.items.proofs.item.kind_of.Kinds as kind_of_kinds
use Rattle.items.proofs.decoding.KindTryFromU8.try_from.Reads as try_from
use Rattle.items.proofs.decoding.KindTryFromU8.try_from.Kinds as try_from_kinds
use Rattle.items.proofs.Kind.body_length.Reads as kind_body_length
use Rattle.items.proofs.Kind.body_length.Kinds as kind_body_length_kinds
use Rattle.items.proofs.decoding.body_length.Reads as body_length
use Rattle.items.proofs.decoding.body_length.Kinds as body_length_kinds
use Rattle.items.proofs.item.with_byte.Reads as with_byte
use Rattle.items.proofs.item.with_byte.Kinds as with_byte_kinds
use Rattle.items.proofs.item.setup_in.Reads as setup_in
use Rattle.items.proofs.item.setup_in.Kinds as setup_in_kinds
use Rattle.items.proofs.stages.is_started.Reads as is_started
use Rattle.items.proofs.stages.is_started.Kinds as is_started_kinds
use Rattle.items.proofs.stages.is_over.Reads as is_over
use Rattle.items.proofs.stages.is_over.Kinds as is_over_kinds
use Rattle.items.proofs.stages.may_come.Reads as may_come
use Rattle.items.proofs.stages.may_come.Kinds as may_come_kinds
use Rattle.items.proofs.records.table_length.Reads as table_length
use Rattle.items.proofs.records.table_length.Kinds as table_length_kinds
use Rattle.items.proofs.records.one_more.Reads as one_more
use Rattle.items.proofs.records.one_more.Kinds as one_more_kinds
use Rattle.items.proofs.runs.gather_run.Reads as gather_run
use Rattle.items.proofs.runs.gather_run.Kinds as gather_run_kinds

pub no_item_determined : OneAnswer 0 no_item_kinds.ps no_item_kinds.r no_item.Post
no_item_determined κs a x y s t p q = p ∙ sym q

pub kind_of_determined : OneAnswer 0 kind_of_kinds.ps kind_of_kinds.r kind_of.Post
kind_of_determined κs a x y s t p q = p ∙ sym q

pub try_from_determined : OneAnswer 0 try_from_kinds.ps try_from_kinds.r try_from.Post
try_from_determined κs a x y s t p q = decodes_once _ x y p q

pub kind_body_length_determined : OneAnswer 0 kind_body_length_kinds.ps kind_body_length_kinds.r kind_body_length.Post
kind_body_length_determined κs a x y s t p q = p ∙ sym q

pub body_length_determined : OneAnswer 0 body_length_kinds.ps body_length_kinds.r body_length.Post
body_length_determined κs a x y s t p q = p ∙ sym q

pub with_byte_determined : OneAnswer 0 with_byte_kinds.ps with_byte_kinds.r with_byte.Post
with_byte_determined κs a x y s t p q = p ∙ sym q

pub setup_in_determined : OneAnswer 1 setup_in_kinds.ps setup_in_kinds.r setup_in.Post
setup_in_determined κs a x y s t p q = p ∙ sym q

pub is_started_determined : OneAnswer 0 is_started_kinds.ps is_started_kinds.r is_started.Post
is_started_determined κs a x y s t p q = p ∙ sym q

pub is_over_determined : OneAnswer 0 is_over_kinds.ps is_over_kinds.r is_over.Post
is_over_determined κs a x y s t p q = p ∙ sym q

pub may_come_determined : OneAnswer 0 may_come_kinds.ps may_come_kinds.r may_come.Post
may_come_determined κs a x y s t p q = p ∙ sym q

pub table_length_determined : OneAnswer 0 table_length_kinds.ps table_length_kinds.r table_length.Post
table_length_determined κs a x y s t p q = p.0 ∙ sym q.0

pub one_more_determined : OneAnswer 0 one_more_kinds.ps one_more_kinds.r one_more.Post
one_more_determined κs a x y s t p q = p ∙ sym q

pub gather_run_determined : OneAnswerLeft 2 gather_run_kinds.ps gather_run_kinds.r gather_run.Post (λ κs s. s.1.0.now)
gather_run_determined κs a x y s t p q = (ap (λ (l : Laid). l.count) (p.0 ∙ sym q.0), ap (λ (l : Laid). l.room) (p.0 ∙ sym q.0))
