-- 02, §4: "After a contact that answers 0, the first entry in use whose word differs from its value last sent gets one unasked 0x83 reply of count 1 in the
-- reply room, and the value is noted."
use Rattle.std.specs.Prelude.{Option, None, Some}
use Rattle.words.specs.declared.WordAddress.{WordAddress}
use Rattle.std.specs.Prelude.{ℕ, List, [], ◌∷◌, ◌++◌, length}
use Rattle.wire.specs.ByteOrder.{high_first}
use Rattle.wire.specs.Room.{over}
use Rattle.frame.specs.Frame.{frame_of}
use Rattle.words.specs.Words.{word_at_address}
use Rattle.touch.specs.declared.Setup.{Setup}
use Rattle.touch.specs.Setup.{checking_of}
use Rattle.watch.specs.Watched.{with_values}
use Rattle.watch.specs.Sending.{sending}
use Rattle.commands.specs.Lent.{Lent, with_room, with_watched}
use Rattle.panel.specs.State.{header_of}

-- "one unasked 0x83 reply of count 1": "Reply 0x83, address, count, words.", with this address and the word that stands there; where nothing is due, no bytes
unfoldable pub unasked : Setup → (words : List ℕ) → Option WordAddress → List ℕ
unasked setup words None = []
unasked setup words (Some address) =
    frame_of (checking_of setup) (header_of setup) 0x83 (high_first address.0 ++ (1 ∷ high_first (word_at_address words address.0)))

-- how many bytes are written, and what is lent as that leaves it
pub record Telling : Type 0 where
  pub written : ℕ
  pub lent : Lent

-- builds one
abbrev pub tells : (written : ℕ) → Lent → Telling
tells written lent = record { written = written; lent = lent }

-- "the first entry in use whose word differs from its value last sent gets one unasked 0x83 reply of count 1 in the reply room, and the value is noted"; "bytes
-- past the reported count stay"
unfoldable pub telling : Setup → Lent → Telling
telling setup lent =
    let sent = sending lent.words lent.watched in
    let frame = unasked setup lent.words sent.due in
    tells (length frame) (with_watched (with_room lent (over frame lent.room)) (with_values lent.watched sent.values))
