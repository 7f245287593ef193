-- One answer fits each public function.
use mathlib.Core.Path.{sym, ap, ◌∙◌}
use mathlib.Core.List.{List}
use Prim.Native.Nat.{ℕ}
use Rattle.wire.specs.OneAnswer.{OneAnswer, OneAnswerLeft}
use Rattle.commands.specs.Perform.{Performance}
use Rattle.commands.proofs.Refusal.number.Reads as refusal_number
use Rattle.commands.proofs.Refusal.number.Kinds as refusal_number_kinds
use Rattle.commands.proofs.Said.{nothing_lent}
use Rattle.commands.proofs.on_curves.counts_left.Reads as counts_left
use Rattle.commands.proofs.on_curves.counts_left.Kinds as counts_left_kinds
use Rattle.commands.proofs.on_registers.registers_left.Reads as registers_left
use Rattle.commands.proofs.on_registers.registers_left.Kinds as registers_left_kinds
use Rattle.commands.proofs.performing.perform.Reads as perform
use Rattle.commands.proofs.performing.perform.Kinds as perform_kinds

pub refusal_number_determined : OneAnswer 0 refusal_number_kinds.ps refusal_number_kinds.r refusal_number.Post
refusal_number_determined κs a x y s t p q = p ∙ sym q

pub registers_left_determined : OneAnswer 1 registers_left_kinds.ps registers_left_kinds.r registers_left.Post
registers_left_determined κs a x y s t p q = p ∙ sym q

pub counts_left_determined : OneAnswer 1 counts_left_kinds.ps counts_left_kinds.r counts_left.Post
counts_left_determined κs a x y s t p q = p ∙ sym q

pub perform_determined :
    OneAnswerLeft 4 perform_kinds.ps perform_kinds.r perform.Post {B = List ℕ × List ℕ}
    (λ κs s. (s.1.1.1.1.0.now, s.1.1.1.1.1.0.now))
perform_determined κs a x y s t p q =
    let both = p.0 nothing_lent ∙ sym (q.0 nothing_lent) in
    (ap (λ (d : Performance). d.performed) both, ap (λ (d : Performance). (d.lent.words, d.lent.room)) both)
