-- Channels and their history, by computation: numbers for channels 0 and 2, an unfinished round that is refused, a clear of channel 2, and numbers again.
use mathlib.Core.Path.{◌≡◌, refl}
use mathlib.Core.Logic.{◌≢◌}
use mathlib.Core.List.{List, [], ◌∷◌}
use Prim.Native.Nat.{ℕ}
use native.Mathlib.Omega.{arith}
use lib.ListN.{replicate}
use Rattle.reading.proofs.ByteLists.{all_bytes, tested_bytes}
use Rattle.wire.specs.Addresses.{word_count}
use Rattle.frame.specs.Writer.{least_room}
use Rattle.curves.specs.Area.{curve_words}
use Rattle.watch.specs.Watched.{none_watched}
use Rattle.commands.specs.Lent.{lending}
use Rattle.panel.specs.State.{panel_count}
use Rattle.demands.specs.Calls.{Moment, Call, bytes, ask, after, after_all, Typed, AllTyped, Arises, by_call}
use Rattle.demands.specs.Demand2.{curve_word_at, NamesCurveWord, NamesCount, SomeCall}
use Rattle.demands.specs.History.{recorded, recorded_by, history_by, history_over, history_of, area_left, LentAsLeft, lends_anew, none_lends_anew, Keeps}
use Rattle.demands.specs.Story.{story_setup, new}
use Rattle.demands.proofs.Computed.{computing_start, computing_calls}
use Rattle.demands.proofs.Demand2.{channels_keep_their_history, lent_as_left_where_none_lends, only_named_channels_change, no_other_count_changes}
use Rattle.demands.proofs.Story.{new_arises}

-- 84 05: of two rounds, 0001 and 0002 for channel 0, 0010 and 0020 for channel 2
abbrev add_frame : List ℕ
add_frame =
    0x5A ∷ 0xA5 ∷ 0x0C ∷ 0x84 ∷ 0x05 ∷ 0x00 ∷ 0x01 ∷ 0x00 ∷ 0x10 ∷ 0x00 ∷ 0x02 ∷ 0x00 ∷ 0x20 ∷ 0x78 ∷ 0x71 ∷ []

-- 84 05 with one number, half a round
abbrev unfinished_frame : List ℕ
unfinished_frame = 0x5A ∷ 0xA5 ∷ 0x06 ∷ 0x84 ∷ 0x05 ∷ 0x00 ∷ 0x07 ∷ 0x79 ∷ 0x17 ∷ []

-- 80 EB 58: channel 2 is cleared
abbrev clear_frame : List ℕ
clear_frame = 0x5A ∷ 0xA5 ∷ 0x05 ∷ 0x80 ∷ 0xEB ∷ 0x58 ∷ 0x3F ∷ 0x22 ∷ []

-- these frames, the first three times, each asked for as it comes
abbrev calls : List Call
calls = bytes add_frame ∷ ask ∷ bytes unfinished_frame ∷ ask ∷ bytes clear_frame ∷ ask ∷ bytes add_frame ∷ ask ∷ bytes add_frame ∷ ask ∷ []

calls_typed : AllTyped calls
unfolding AllTyped Typed all_bytes
calls_typed = (
  tested_bytes add_frame refl,
  (
    tt,
    (
      tested_bytes unfinished_frame refl,
      (
        tt,
        (
          tested_bytes clear_frame refl,
          (
            tt,
            (
              tested_bytes add_frame refl,
              (
                tt,
                (tested_bytes add_frame refl, (tt, tt)),
              ),
            ),
          ),
        ),
      ),
    ),
  ),
)

-- each report is lent the area as the one before left it
as_left : LentAsLeft (replicate curve_words 0) new calls
unfolding lends_anew none_lends_anew
as_left = lent_as_left_where_none_lends new calls refl

-- what they leave
abbrev then : Moment
then = after_all new calls

-- the area as the last ask leaves it
abbrev then_left : List ℕ
then_left = area_left new calls (replicate curve_words 0)

-- channel 0 has all its numbers, channel 2 those since its clear, channel 1 none
pub histories : (history_of 0 new calls ≡ 1 ∷ 2 ∷ 1 ∷ 2 ∷ 1 ∷ 2 ∷ []) × (history_of 2 new calls ≡ 0x10 ∷ 0x20 ∷ 0x10 ∷ 0x20 ∷ []) × (history_of 1 new calls ≡ [])
unfolding recorded recorded_by history_by history_over computing_calls
histories = (refl, refl, refl)

pub channel_0_keeps : Keeps 0 then then_left (history_of 0 new calls)
unfolding computing_start
channel_0_keeps =
    channels_keep_their_history story_setup [] (lending (replicate word_count 0) (replicate curve_words 0) (replicate least_room 0) none_watched) refl calls calls_typed
    (replicate curve_words 0) as_left 0 (omega arith)

pub channel_2_keeps : Keeps 2 then then_left (history_of 2 new calls)
unfolding computing_start
channel_2_keeps =
    channels_keep_their_history story_setup [] (lending (replicate word_count 0) (replicate curve_words 0) (replicate least_room 0) none_watched) refl calls calls_typed
    (replicate curve_words 0) as_left 2 (omega arith)

-- how many each has; there is no channel 8
pub counted : (panel_count then.panel 0 ≡ 6) × (panel_count then.panel 2 ≡ 4) × (panel_count then.panel 1 ≡ 0) × (panel_count then.panel 8 ≡ 0)
unfolding computing_calls
counted = (refl, refl, refl, refl)

-- a clear leaves the area's words
pub clear_leaves_words : curve_word_at (after_all new (bytes add_frame ∷ ask ∷ bytes clear_frame ∷ ask ∷ [])).lent.curves 2 1 ≡ 0x20
unfolding computing_calls
clear_leaves_words = refl

-- an ask that changes a word: its premises are met, and it is named
abbrev fed : Moment
fed = after new (bytes add_frame)

fed_arises : Arises fed
unfolding Typed all_bytes
fed_arises = by_call new (bytes add_frame) (tested_bytes add_frame refl) new_arises

word_changes : curve_word_at (after fed ask).lent.curves 2 1 ≢ curve_word_at fed.lent.curves 2 1
unfolding computing_calls
word_changes same = omega arith

pub changed_word_is_named : NamesCurveWord fed 2 1 ask
changed_word_is_named = only_named_channels_change fed fed_arises 2 (omega arith) 1 (omega arith) word_changes

count_changes : panel_count (after_all fed (ask ∷ [])).panel 0 ≢ panel_count fed.panel 0
unfolding computing_calls
count_changes same = omega arith

pub changed_count_is_named : SomeCall (λ now call. NamesCount now 0 call) fed (ask ∷ [])
unfolding AllTyped Typed
changed_count_is_named = no_other_count_changes fed fed_arises (ask ∷ []) (tt, tt) 0 (omega arith) count_changes
