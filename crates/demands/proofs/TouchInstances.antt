-- Demand 2's touch effects have something to speak of: a step of a low byte, a slider of a high byte that runs downward, and its drag, by computation.
use Rattle.std.specs.Prelude.{Ok}
use mathlib.Core.Path.{◌≡◌, refl}
use mathlib.Core.List.{List, [], ◌∷◌, ◌++◌}
use Prim.Native.Nat.{ℕ}
use native.Mathlib.Omega.{arith}
use lib.ListN.{replicate}
use lib.IntN.{pos}
use Rattle.wire.specs.Bytes.{Bytes}
use Rattle.wire.specs.Addresses.{word_count}
use Rattle.frame.specs.Writer.{least_room}
use Rattle.reading.proofs.ByteLists.{all_bytes, tested_bytes}
use Rattle.words.specs.Words.{word_at_address}
use Rattle.touch.specs.declared.Setup.{Setup}
use Rattle.touch.specs.Record.{step_fields, slider_fields, record_of}
use Rattle.panel.specs.Start.{started}
use Rattle.panel.specs.Contacts.{Contact}
use Rattle.curves.specs.Area.{curve_words}
use Rattle.watch.specs.Watched.{none_watched}
use Rattle.commands.specs.Lent.{Lent, lending}
use Rattle.demands.specs.Calls.{Moment, contact, begun, after, Typed, Arises, from_start, by_call}
use Rattle.demands.specs.Stored.{Stores}
use Rattle.demands.proofs.Computed.{computing_contacts}
use Rattle.demands.proofs.Demand2.{step_stores, slider_stores, dragged_slider_stores}
use Rattle.demands.proofs.Story.{copies_below}

-- low byte of word 0000, up 5 from 0 to 255, stop
abbrev pub step_bytes : List ℕ
step_bytes =
    0x00 ∷ 0x00 ∷ 0x00 ∷ 0x0A ∷ 0x00 ∷ 0x0A ∷ 0x00 ∷ 0x64 ∷ 0x00 ∷ 0x32 ∷ 0xFF ∷ 0x00 ∷ 0xFF ∷ 0x00 ∷ 0xFE ∷ 0x02
    ∷ 0xFE ∷ 0x00 ∷ 0x00 ∷ 0x02 ∷ 0x01 ∷ 0x00 ∷ 0x00 ∷ 0x05 ∷ 0x00 ∷ 0x00 ∷ 0x00 ∷ 0xFF ∷ 0x01 ∷ 0x00 ∷ 0x00 ∷ 0x00 ∷ []

-- high byte of word 0001, across from 100 to 300, 255 to 0
abbrev pub slider_bytes : List ℕ
slider_bytes =
    0x00 ∷ 0x00 ∷ 0x00 ∷ 0x64 ∷ 0x00 ∷ 0x3C ∷ 0x01 ∷ 0x2C ∷ 0x00 ∷ 0x50 ∷ 0xFF ∷ 0x00 ∷ 0xFF ∷ 0x00 ∷ 0xFE ∷ 0x03
    ∷ 0xFE ∷ 0x00 ∷ 0x01 ∷ 0x10 ∷ 0x00 ∷ 0x64 ∷ 0x00 ∷ 0x3C ∷ 0x01 ∷ 0x2C ∷ 0x00 ∷ 0x50 ∷ 0x00 ∷ 0xFF ∷ 0x00 ∷ 0x00 ∷ []

-- both
abbrev pub table : List ℕ
table = step_bytes ++ slider_bytes

-- checking off, the old sheet
abbrev pub setup : Setup
setup = record { h1 = 0x5A; h2 = 0xA5; flags = 0; pages = 2; width = 800; height = 480 }

-- every word is 12FD
abbrev pub lent : Lent
lent = lending (replicate word_count 0x12FD) (replicate curve_words 0) (replicate least_room 0) none_watched

-- as started
abbrev pub up : Moment
up = begun setup table lent

-- a contact on the step
abbrev pub on_step : Contact
on_step = record { table = table; x = 11; y = 11 }

-- one a quarter along the slider
abbrev on_slider : Contact
on_slider = record { table = table; x = 150; y = 70 }

-- a contact past its last edge
abbrev pub past_slider : Contact
past_slider = record { table = table; x = 400; y = 20 }

-- the slider is caught
abbrev pub down : Moment
down = after up (contact on_slider)

pub are_bytes : Bytes table
unfolding all_bytes
are_bytes = tested_bytes table refl

up_starts : (started setup table).answer ≡ Ok tt
unfolding computing_contacts
up_starts = refl

pub down_arises : Arises down
unfolding Typed
down_arises =
    by_call up (contact on_slider) (are_bytes, (omega arith, omega arith))
    (from_start setup table lent (omega arith) (omega arith)
    (λ k. copies_below word_count 0x12FD k (omega arith)) (λ k. copies_below curve_words 0 k (omega arith)) up_starts)

-- FD and 5 pass 255, where it stops: 12FD becomes 12FF
pub low_byte_stepped : Stores 2 0x12FD (word_at_address (after up (contact on_step)).lent.words 0x0000) (pos 255)
unfolding computing_contacts
low_byte_stepped = step_stores up on_step are_bytes refl refl 0 (record_of step_bytes) refl (step_fields step_bytes) refl

-- a quarter of the way down from 255: 12FD becomes C0FD; moved past the end it becomes 00FD
pub high_byte_slid : Stores 1 0x12FD (word_at_address down.lent.words 0x0001) (pos 192)
unfolding computing_contacts
high_byte_slid = slider_stores up on_slider are_bytes refl refl 1 (record_of slider_bytes) refl (slider_fields slider_bytes) refl

pub high_byte_dragged : Stores 1 0xC0FD (word_at_address (after down (contact past_slider)).lent.words 0x0001) (pos 0)
unfolding computing_contacts
high_byte_dragged = dragged_slider_stores down down_arises past_slider refl refl (record_of slider_bytes) refl (slider_fields slider_bytes) refl

-- and the words themselves
pub record WordsAfter : Type 0 where
  pub stepped : word_at_address (after up (contact on_step)).lent.words 0x0000 ≡ 0x12FF
  pub slid : word_at_address down.lent.words 0x0001 ≡ 0xC0FD
  pub dragged : word_at_address (after down (contact past_slider)).lent.words 0x0001 ≡ 0x00FD

pub words_after : WordsAfter
unfolding computing_contacts
words_after = record { stepped = refl; slid = refl; dragged = refl }
