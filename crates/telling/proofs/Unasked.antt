-- 02, §4: "the trace lends no entries": nothing is due, so a contact of the trace writes nothing into its room.
use mathlib.Core.Path.{◌≡◌, refl}
use mathlib.Core.List.{List}
use Prim.Native.Nat.{ℕ}
use Rattle.watch.specs.Sending.{sending_from, sending}
use Rattle.panel.specs.declared.Panel.{Panel}
use Rattle.panel.specs.Watching.{unasked, telling}
use Rattle.panel.specs.Contacts.{Contact, contacting}
use Rattle.panel.proofs.Ways.{contact_ways}
use Rattle.wire.specs.Room.{over}
use Rattle.telling.specs.Memory.{Memory, lent_from}

module _ (panel : Panel) (c : Contact) (memory : Memory) (room : List ℕ) where
  pub nothing_written : (contacting panel c (lent_from memory room)).contacted.written ≡ 0
  unfolding telling unasked sending sending_from
  nothing_written = contact_ways panel c (lent_from memory room) (λ r. r.contacted.written ≡ 0) (λ answer. refl) (λ passed. refl)

  pub room_stays : (contacting panel c (lent_from memory room)).lent.room ≡ room
  unfolding telling unasked sending sending_from over
  room_stays = contact_ways panel c (lent_from memory room) (λ r. r.lent.room ≡ room) (λ answer. refl) (λ passed. refl)
