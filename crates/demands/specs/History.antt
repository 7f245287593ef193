-- 02, §2: "Demand 2 covers channels by the whole history since the last clear, or the start where there was none, as long as each report is lent the curve area
-- as the one before left it." The theorems are in proofs/Demand2.
use Prim.{Unit}
use Rattle.std.specs.Prelude.{ℕ, min, ◌≡◌, Bool, true, false, cond, not, ◌&&◌, List, [], ◌∷◌, ◌++◌, eqb, length, take, drop}
use Rattle.wire.specs.ByteOrder.{byte_at}
use Rattle.reading.specs.Place.{Report, bad_check, accepted_frame}
use Rattle.registers.specs.Run.{clear_value}
use Rattle.curves.specs.Area.{channel_words, part_of, latest}
use Rattle.curves.specs.Rounds.{numbers_for}
use Rattle.curves.specs.Clearing.{clears}
use Rattle.panel.specs.State.{panel_count}
use Rattle.demands.specs.Calls.{Moment, Call, lend, byte, bytes, mark, second, ask, contact, lift, after, number_given, handed_over}

-- what a frame that is done makes of a channel's history: the numbers of an 0x84 for it come behind, "the last clear" ends it; any other leaves it
unfoldable pub recorded : (n command : ℕ) → (content history : List ℕ) → List ℕ
recorded n command content history =
    cond (eqb command 0x84) (history ++ numbers_for content n)
    (cond (eqb command 0x80) (cond (clears (clear_value (byte_at content 0) (drop 1 content)) n) [] history) history)

-- what reports that are handed over make of it
unfoldable pub recorded_by : (n : ℕ) → List Report → (history : List ℕ) → List ℕ
recorded_by n [] history = history
recorded_by n (bad_check command ∷ reports) history = recorded_by n reports history
recorded_by n (accepted_frame command content ∷ reports) history = recorded_by n reports (recorded n command content history)

-- what a call makes of it: only a frame that is handed over with number 0 counts
unfoldable pub history_by : (n : ℕ) → Moment → Call → (history : List ℕ) → List ℕ
history_by n now call history = cond (eqb (number_given now call) 0) (recorded_by n (handed_over now call) history) history

-- "the whole history", over calls one after the other
unfoldable pub history_over : (n : ℕ) → Moment → List Call → (history : List ℕ) → List ℕ
history_over n now [] history = history
history_over n now (call ∷ calls) history = history_over n (after now call) calls (history_by n now call history)

-- "the whole history since the last clear, or the start where there was none": at the start there is none
abbrev pub history_of : (n : ℕ) → (start : Moment) → List Call → List ℕ
history_of n start calls = history_over n start calls []

-- the curve area as the last ask left it: a call other than asking leaves that as it was
unfoldable pub left_by : Moment → Call → (left : List ℕ) → List ℕ
left_by now (lend lent) left = left
left_by now (byte b) left = left
left_by now (bytes bs) left = left
left_by now mark left = left
left_by now second left = left
left_by now ask left = (after now ask).lent.curves
left_by now (contact c) left = left
left_by now lift left = left

-- the same over calls one after the other; before the first ask, the area that this is lent
unfoldable pub area_left : Moment → List Call → (left : List ℕ) → List ℕ
area_left now [] left = left
area_left now (call ∷ calls) left = area_left (after now call) calls (left_by now call left)

-- a report that is asked for "is lent the curve area as the one before left it"
unfoldable pub AskedWith : (left : List ℕ) → Moment → Call → Type 0
AskedWith left now (lend lent) = Unit
AskedWith left now (byte b) = Unit
AskedWith left now (bytes bs) = Unit
AskedWith left now mark = Unit
AskedWith left now second = Unit
AskedWith left now ask = now.lent.curves ≡ left
AskedWith left now (contact c) = Unit
AskedWith left now lift = Unit

-- "as long as each report is lent the curve area as the one before left it"; the first may be lent any area, which is `left` here
unfoldable pub LentAsLeft : (left : List ℕ) → Moment → List Call → Type 0
LentAsLeft left now [] = Unit
LentAsLeft left now (call ∷ calls) = AskedWith left now call × LentAsLeft (left_by now call left) (after now call) calls

-- whether the caller lends other things by this call
unfoldable pub lends_anew : Call → Bool
lends_anew (lend lent) = true
lends_anew (byte b) = false
lends_anew (bytes bs) = false
lends_anew mark = false
lends_anew second = false
lends_anew ask = false
lends_anew (contact c) = false
lends_anew lift = false

-- whether none of these calls does so: then each report is lent the curve area as the one before left it
unfoldable pub none_lends_anew : List Call → Bool
none_lends_anew [] = true
none_lends_anew (call ∷ calls) = not (lends_anew call) && none_lends_anew calls

-- "Each of eight channels keeps its latest 1,024 numbers, oldest first, channel n from word 1,024n": the count, and the words of the area
pub record Keeps (n : ℕ) (later : Moment) (area history : List ℕ) : Type 0 where
  pub count : panel_count later.panel n ≡ min channel_words (length history)
  pub numbers : take (panel_count later.panel n) (part_of n area) ≡ latest history
