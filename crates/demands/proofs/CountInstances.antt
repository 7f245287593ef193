-- Reports with counts, by computation: checking and acknowledging on, a read that is done, one that is refused, a command that is not known, and a bad check.
use Rattle.std.specs.Prelude.{Ok, Err}
use mathlib.Core.Path.{◌≡◌, refl}
use mathlib.Core.Bool.{true}
use mathlib.Core.List.{List, [], ◌∷◌}
use Prim.Native.Nat.{ℕ}
use native.Mathlib.Omega.{arith}
use lib.ListN.{replicate}
use Rattle.wire.specs.Addresses.{word_count}
use Rattle.frame.specs.Writer.{least_room}
use Rattle.reading.proofs.ByteLists.{all_bytes, tested_bytes}
use Rattle.commands.specs.declared.Refusal.TheVariants.{UnknownCommand, PastEnd}
use Rattle.curves.specs.Area.{curve_words}
use Rattle.watch.specs.Watched.{none_watched}
use Rattle.commands.specs.Lent.{lending}
use Rattle.touch.specs.declared.Setup.{Setup}
use Rattle.panel.specs.Start.{started}
use Rattle.demands.specs.Calls.{Moment, bytes, ask, begun, after, Typed, Arises, from_start, by_call}
use Rattle.demands.specs.Counts.{reply_to, BadCheckCounted, FrameCounted}
use Rattle.demands.specs.Story.{version, new}
use Rattle.demands.proofs.Computed.{computing_start, computing_calls, computing_acknowledgements}
use Rattle.demands.proofs.Demand2.{counts_of_frame, counts_of_bad_check, bad_check_acknowledged, frame_acknowledged}
use Rattle.demands.proofs.Story.{copies_below, new_arises}

-- header 5A A5, checking and acknowledging on
abbrev pub acknowledging : Setup
acknowledging = record { h1 = 0x5A; h2 = 0xA5; flags = 3; pages = 2; width = 800; height = 480 }

-- given a frame, every byte of the room EE
abbrev pub fed : List ℕ → Moment
fed frame = after (begun acknowledging [] (lending (replicate word_count 0) (replicate curve_words 0) (replicate least_room 0xEE) none_watched)) (bytes frame)

-- 81 of 2 registers from FF on
abbrev past_end : List ℕ
past_end = 0x5A ∷ 0xA5 ∷ 0x05 ∷ 0x81 ∷ 0xFF ∷ 0x02 ∷ 0xE1 ∷ 0xD9 ∷ []

-- 85
abbrev unknown : List ℕ
unknown = 0x5A ∷ 0xA5 ∷ 0x05 ∷ 0x85 ∷ 0x00 ∷ 0x01 ∷ 0xA1 ∷ 0xE9 ∷ []

-- 81 with wrong check bytes
abbrev damaged : List ℕ
damaged = 0x5A ∷ 0xA5 ∷ 0x05 ∷ 0x81 ∷ 0x00 ∷ 0x01 ∷ 0xE0 ∷ 0x29 ∷ []

starts : (started acknowledging []).answer ≡ Ok tt
unfolding computing_start
starts = refl

pub fed_arises : (frame : List ℕ) → all_bytes frame ≡ true → Arises (fed frame)
unfolding Typed
fed_arises frame are =
    by_call (begun acknowledging [] (lending (replicate word_count 0) (replicate curve_words 0) (replicate least_room 0xEE) none_watched)) (bytes frame) (tested_bytes frame are)
    (from_start acknowledging [] (lending (replicate word_count 0) (replicate curve_words 0) (replicate least_room 0xEE) none_watched) (omega arith) (omega arith)
    (λ k. copies_below word_count 0 k (omega arith)) (λ k. copies_below curve_words 0 k (omega arith)) starts)

-- two bytes of data each; seven bytes of acknowledgement; nine of reply where the read is done
pub read_counted : FrameCounted (fed version) 0x81 2 7 9
unfolding computing_calls computing_acknowledgements all_bytes
read_counted = counts_of_frame (fed version) (fed_arises version refl) 0x81 2 (Ok tt) 7 9 refl

pub refused_counted : FrameCounted (fed past_end) 0x81 2 7 0
unfolding computing_calls computing_acknowledgements all_bytes
refused_counted = counts_of_frame (fed past_end) (fed_arises past_end refl) 0x81 2 (Err PastEnd) 7 0 refl

pub unknown_counted : FrameCounted (fed unknown) 0x85 2 7 0
unfolding computing_calls computing_acknowledgements all_bytes
unknown_counted = counts_of_frame (fed unknown) (fed_arises unknown refl) 0x85 2 (Err UnknownCommand) 7 0 refl

pub damaged_counted : BadCheckCounted (fed damaged) 0x81 7
unfolding computing_calls computing_acknowledgements all_bytes
damaged_counted = counts_of_bad_check (fed damaged) (fed_arises damaged refl) 0x81 7 refl

-- the whole room that the bad check leaves: seven bytes, and EE behind them as before
pub damaged_acknowledged : (after (fed damaged) ask).lent.room ≡ 0x5A ∷ 0xA5 ∷ 0x02 ∷ 0x81 ∷ 0x00 ∷ 0x61 ∷ 0xE0 ∷ replicate 258 0xEE
unfolding computing_calls computing_acknowledgements all_bytes
damaged_acknowledged = (bad_check_acknowledged (fed damaged) (fed_arises damaged refl) 0x81 refl).both_on refl

-- and that the read leaves: seven bytes, nine of reply, and EE behind them
pub read_acknowledged : (after (fed version) ask).lent.room
    ≡ 0x5A ∷ 0xA5 ∷ 0x02 ∷ 0x81 ∷ 0xFF ∷ 0x21 ∷ 0xA0 ∷ 0x5A ∷ 0xA5 ∷ 0x06 ∷ 0x81 ∷ 0x00 ∷ 0x01 ∷ 0x10 ∷ 0x28 ∷ 0x44 ∷ replicate 249 0xEE
unfolding computing_calls computing_acknowledgements all_bytes reply_to
read_acknowledged = (frame_acknowledged (fed version) (fed_arises version refl) 0x81 (0x00 ∷ 0x01 ∷ []) refl).both_on refl

-- with acknowledging off the bad check leaves every byte of the room
pub damaged_unacknowledged : (after (after new (bytes damaged)) ask).lent.room ≡ replicate least_room 0
unfolding computing_calls computing_acknowledgements Typed all_bytes
damaged_unacknowledged =
    (bad_check_acknowledged (after new (bytes damaged)) (by_call new (bytes damaged) (tested_bytes damaged refl) new_arises) 0x81 refl).one_off refl
