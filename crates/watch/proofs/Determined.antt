-- One answer fits each public function.
use mathlib.Core.Path.{refl, sym, ◌∙◌}
use Rattle.wire.specs.OneAnswer.{OneAnswer, OneAnswerLeft}
use Rattle.watch.proofs.WatchList.is_wrong.Reads as watchlist_is_wrong
use Rattle.watch.proofs.WatchList.is_wrong.Kinds as watchlist_is_wrong_kinds
use Rattle.watch.proofs.WatchList.note.Reads as watchlist_note
use Rattle.watch.proofs.WatchList.note.Kinds as watchlist_note_kinds
use Rattle.watch.proofs.WatchList.send.Reads as watchlist_send
use Rattle.watch.proofs.WatchList.send.Kinds as watchlist_send_kinds
use Rattle.watch.proofs.judging.is_wrong.Reads as is_wrong
use Rattle.watch.proofs.judging.is_wrong.Kinds as is_wrong_kinds

pub watchlist_is_wrong_determined : OneAnswer 3 watchlist_is_wrong_kinds.ps watchlist_is_wrong_kinds.r watchlist_is_wrong.Post
watchlist_is_wrong_determined κs a x y s t p q = p ∙ sym q

pub watchlist_note_determined : OneAnswerLeft 4 watchlist_note_kinds.ps watchlist_note_kinds.r watchlist_note.Post (λ κs s. s.0.now)
watchlist_note_determined κs a x y s t p q = (refl, p ∙ sym q)

pub watchlist_send_determined : OneAnswerLeft 4 watchlist_send_kinds.ps watchlist_send_kinds.r watchlist_send.Post (λ κs s. s.0.now)
watchlist_send_determined κs a x y s t p q = (p.0.0 ∙ sym q.0.0, p.0.1 ∙ sym q.0.1)

pub is_wrong_determined : OneAnswer 3 is_wrong_kinds.ps is_wrong_kinds.r is_wrong.Post
is_wrong_determined κs a x y s t p q = p ∙ sym q
