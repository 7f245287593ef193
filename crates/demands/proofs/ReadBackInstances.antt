-- What was written is read back in part, by computation: of two registers the second, EB as 00, of three words the last two, checking on, with the read's own
-- bytes between the write and the read.
use mathlib.Core.Path.{◌≡◌, refl}
use mathlib.Core.Bool.{true}
use mathlib.Core.List.{List, [], ◌∷◌}
use Prim.Native.Nat.{ℕ}
use native.Mathlib.Omega.{arith}
use Rattle.reading.proofs.ByteLists.{all_bytes, tested_bytes}
use Rattle.demands.specs.Calls.{Moment, Call, bytes, ask, after, after_all, Typed, AllTyped, Arises, by_call}
use Rattle.demands.specs.Demand2.{NamesWord, NamesRegister, SomeCall, here, later}
use Rattle.demands.specs.Replied.{Replied}
use Rattle.demands.specs.Story.{new}
use Rattle.demands.proofs.Computed.{computing_calls}
use Rattle.demands.proofs.Demand2.{what_80_wrote_81_replies, what_82_wrote_83_replies}
use Rattle.demands.proofs.Story.{new_arises}

-- a new panel that has been given a frame
abbrev pub fed : List ℕ → Moment
fed frame = after new (bytes frame)

pub fed_arises : (frame : List ℕ) → all_bytes frame ≡ true → Arises (fed frame)
unfolding Typed
fed_arises frame are = by_call new (bytes frame) (tested_bytes frame are) new_arises

pub bytes_typed : (frame : List ℕ) → all_bytes frame ≡ true → AllTyped (bytes frame ∷ [])
unfolding AllTyped Typed
bytes_typed frame are = (tested_bytes frame are, tt)

-- bytes name no word and no register, nor does no call
bytes_name_no_word : {now : Moment} {k : ℕ} {frame : List ℕ} → NamesWord now k (bytes frame) → ⊥
bytes_name_no_word named = elim named [ ]

bytes_name_no_register : {now : Moment} {k : ℕ} {frame : List ℕ} → NamesRegister now k (bytes frame) → ⊥
bytes_name_no_register named = elim named [ ]

none_does : {P : Moment → Call → Type 0} {now : Moment} → SomeCall P now [] → ⊥
none_does some = elim some [ ]

no_word : (now : Moment) (k : ℕ) (frame : List ℕ) → SomeCall (λ then call. NamesWord then k call) now (bytes frame ∷ []) → ⊥
no_word now k frame (here _ _ _ named) = bytes_name_no_word named
no_word now k frame (later _ _ _ some) = none_does some

pub no_register : (now : Moment) (k : ℕ) (frame : List ℕ) → SomeCall (λ then call. NamesRegister then k call) now (bytes frame ∷ []) → ⊥
no_register now k frame (here _ _ _ named) = bytes_name_no_register named
no_register now k frame (later _ _ _ some) = none_does some

-- 80 sets backlight and buzzer to 20 and 05; 81 reads the buzzer
abbrev write_frame : List ℕ
write_frame = 0x5A ∷ 0xA5 ∷ 0x06 ∷ 0x80 ∷ 0x01 ∷ 0x20 ∷ 0x05 ∷ 0xA1 ∷ 0xE7 ∷ []

abbrev read_frame : List ℕ
read_frame = 0x5A ∷ 0xA5 ∷ 0x05 ∷ 0x81 ∷ 0x02 ∷ 0x01 ∷ 0xE1 ∷ 0x48 ∷ []

-- 80 EB 55 clears all channels; 81 EB 01 reads the register
abbrev clear_frame : List ℕ
clear_frame = 0x5A ∷ 0xA5 ∷ 0x05 ∷ 0x80 ∷ 0xEB ∷ 0x55 ∷ 0xFE ∷ 0xE7 ∷ []

-- 81 EB 01
abbrev read_clear : List ℕ
read_clear = 0x5A ∷ 0xA5 ∷ 0x05 ∷ 0x81 ∷ 0xEB ∷ 0x01 ∷ 0xAE ∷ 0xD8 ∷ []

-- 82 sets words 0010 to 0012 to 500, 600 and 700; 83 reads the last two
abbrev store_frame : List ℕ
store_frame = 0x5A ∷ 0xA5 ∷ 0x0B ∷ 0x82 ∷ 0x00 ∷ 0x10 ∷ 0x01 ∷ 0xF4 ∷ 0x02 ∷ 0x58 ∷ 0x02 ∷ 0xBC ∷ 0x53 ∷ 0x29 ∷ []

abbrev fetch_frame : List ℕ
fetch_frame = 0x5A ∷ 0xA5 ∷ 0x06 ∷ 0x83 ∷ 0x00 ∷ 0x11 ∷ 0x02 ∷ 0xA4 ∷ 0x31 ∷ []

abbrev then_read : Moment
then_read = after_all (after (fed write_frame) ask) (bytes read_frame ∷ [])

-- the clear handed over, and the read given
abbrev then_clear_read : Moment
then_clear_read = after_all (after (fed clear_frame) ask) (bytes read_clear ∷ [])

abbrev then_fetched : Moment
then_fetched = after_all (after (fed store_frame) ask) (bytes fetch_frame ∷ [])

pub buzzer_reads_back : Replied then_read 0x81 (0x02 ∷ 0x01 ∷ []) (0x02 ∷ 0x01 ∷ 0x05 ∷ [])
unfolding computing_calls all_bytes
buzzer_reads_back =
    what_80_wrote_81_replies (fed write_frame) (fed_arises write_frame refl) (0x01 ∷ 0x20 ∷ 0x05 ∷ []) refl refl (bytes read_frame ∷ []) (bytes_typed read_frame refl)
    0x02 1 (omega arith) (omega arith) (λ k from below. no_register (after (fed write_frame) ask) k read_frame) refl

-- 02, §2: register EB "becomes writable and reads 00"
pub clear_reads_back_00 : Replied then_clear_read 0x81 (0xEB ∷ 0x01 ∷ []) (0xEB ∷ 0x01 ∷ 0x00 ∷ [])
unfolding computing_calls all_bytes
clear_reads_back_00 =
    what_80_wrote_81_replies (fed clear_frame) (fed_arises clear_frame refl) (0xEB ∷ 0x55 ∷ []) refl refl (bytes read_clear ∷ []) (bytes_typed read_clear refl) 0xEB 1
    (omega arith) (omega arith) (λ k from below. no_register (after (fed clear_frame) ask) k read_clear) refl

pub two_of_three_read_back : Replied then_fetched 0x83 (0x00 ∷ 0x11 ∷ 0x02 ∷ []) (0x00 ∷ 0x11 ∷ 0x02 ∷ 0x02 ∷ 0x58 ∷ 0x02 ∷ 0xBC ∷ [])
unfolding computing_calls all_bytes
two_of_three_read_back =
    what_82_wrote_83_replies (fed store_frame) (fed_arises store_frame refl) (0x00 ∷ 0x10 ∷ 0x01 ∷ 0xF4 ∷ 0x02 ∷ 0x58 ∷ 0x02 ∷ 0xBC ∷ []) refl refl (bytes fetch_frame ∷ [])
    (bytes_typed fetch_frame refl) 0x11 2 (omega arith) (omega arith) (λ k from below. no_word (after (fed store_frame) ask) k fetch_frame) refl (omega arith)
