-- Instances, by computation, of the theorems on the clock of 02, §6: source documents 003's and 004's settings read back, a midnight, the century's end, a second
-- that is refused, one in the midst of a frame, and settings that are refused with 5 and with 6. Checking is on.
use mathlib.Core.Path.{◌≡◌, refl, sym, ap}
use mathlib.Core.Logic.{◌⊎◌, inl}
use mathlib.Core.Bool.{true, false}
use mathlib.Core.List.{List, [], ◌∷◌}
use Prim.Native.Nat.{ℕ}
use native.Mathlib.Omega.{arith}
use Rattle.reading.proofs.ByteLists.{all_bytes}
use Rattle.clock.specs.declared.Date.{Date}
use Rattle.clock.specs.Passing.{dated, timed, moment}
use Rattle.clock.specs.Counting.{day_seconds}
use Rattle.registers.specs.Table.{weekday_register}
use Rattle.panel.specs.State.{panel_register, panel_moment}
use Rattle.demands.specs.Calls.{Moment, Call, bytes, mark, second, ask, after, after_all, number_given, handed_over_all, Typed, Arises, by_call}
use Rattle.demands.specs.Reports.{report_waits}
use Rattle.demands.specs.Replied.{Replied}
use Rattle.demands.specs.Story.{version, read_version, story_setup, new}
use Rattle.demands.specs.Clock.{ClockRight, after_second, ChangesClock, by_a_setting, JumpsBack, seconds, SecondsPass, ADayPasses, without_seconds}
use Rattle.demands.proofs.Computed.{computing_start, computing_calls}
use Rattle.demands.proofs.Story.{new_arises}
use Rattle.demands.proofs.ReadBackInstances.{fed, fed_arises, bytes_typed, no_register}
use Rattle.demands.proofs.Clock.{clock_always_right, clock_starts, second_leaves, second_advances_the_clock, second_changes_only_the_clock, setting_done_exactly, part_of_the_clock_is_5, setting_sets_the_clock, setting_changes_only_the_clock, only_seconds_and_settings, weekday_moves_on_at_midnight, n_seconds_later, a_day_is_86400_seconds, setting_is_read_back, seconds_are_no_marks}

-- "The example of 003 for 8 November 2013": 80 1F 5A 13 11 08 00 18 56 00
abbrev setting_of_003 : List ℕ
setting_of_003 = 0x5A ∷ 0xA5 ∷ 0x0C ∷ 0x80 ∷ 0x1F ∷ 0x5A ∷ 0x13 ∷ 0x11 ∷ 0x08 ∷ 0x00 ∷ 0x18 ∷ 0x56 ∷ 0x00 ∷ 0x01 ∷ 0x7A ∷ []

-- source document 004's, 9 March 2016: 80 1F 5A 16 03 09 00 16 18 30
abbrev setting_of_004 : List ℕ
setting_of_004 = 0x5A ∷ 0xA5 ∷ 0x0C ∷ 0x80 ∷ 0x1F ∷ 0x5A ∷ 0x16 ∷ 0x03 ∷ 0x09 ∷ 0x00 ∷ 0x16 ∷ 0x18 ∷ 0x30 ∷ 0x3E ∷ 0xBF ∷ []

-- 81 1F 08
abbrev read_clock : List ℕ
read_clock = 0x5A ∷ 0xA5 ∷ 0x05 ∷ 0x81 ∷ 0x1F ∷ 0x08 ∷ 0x28 ∷ 0x1E ∷ []

-- 8 November 2013, 23:59:59, with FF for the weekday
abbrev setting_at_night : List ℕ
setting_at_night = 0x5A ∷ 0xA5 ∷ 0x0C ∷ 0x80 ∷ 0x1F ∷ 0x5A ∷ 0x13 ∷ 0x11 ∷ 0x08 ∷ 0xFF ∷ 0x23 ∷ 0x59 ∷ 0x59 ∷ 0x85 ∷ 0x69 ∷ []

-- 31 December 2099, 23:59:59, with 07 for the weekday
abbrev setting_at_the_end : List ℕ
setting_at_the_end = 0x5A ∷ 0xA5 ∷ 0x0C ∷ 0x80 ∷ 0x1F ∷ 0x5A ∷ 0x99 ∷ 0x12 ∷ 0x31 ∷ 0x07 ∷ 0x23 ∷ 0x59 ∷ 0x59 ∷ 0x03 ∷ 0xF7 ∷ []

-- 20 to 26 without 1F
abbrev without_the_first : List ℕ
without_the_first = 0x5A ∷ 0xA5 ∷ 0x0B ∷ 0x80 ∷ 0x20 ∷ 0x13 ∷ 0x11 ∷ 0x08 ∷ 0x00 ∷ 0x18 ∷ 0x56 ∷ 0x00 ∷ 0x16 ∷ 0xC8 ∷ []

-- 1F to 26 with 1E
abbrev with_another : List ℕ
with_another = 0x5A ∷ 0xA5 ∷ 0x0D ∷ 0x80 ∷ 0x1E ∷ 0x00 ∷ 0x5A ∷ 0x13 ∷ 0x11 ∷ 0x08 ∷ 0x00 ∷ 0x18 ∷ 0x56 ∷ 0x00 ∷ 0x35 ∷ 0xE3 ∷ []

-- 1F to 26 without 5A
abbrev without_5a : List ℕ
without_5a = 0x5A ∷ 0xA5 ∷ 0x0C ∷ 0x80 ∷ 0x1F ∷ 0x00 ∷ 0x13 ∷ 0x11 ∷ 0x08 ∷ 0x00 ∷ 0x18 ∷ 0x56 ∷ 0x00 ∷ 0x84 ∷ 0x39 ∷ []

-- the digit A in the year
abbrev bad_digit : List ℕ
bad_digit = 0x5A ∷ 0xA5 ∷ 0x0C ∷ 0x80 ∷ 0x1F ∷ 0x5A ∷ 0x1A ∷ 0x11 ∷ 0x08 ∷ 0x00 ∷ 0x18 ∷ 0x56 ∷ 0x00 ∷ 0x98 ∷ 0x7A ∷ []

-- 29 February 2001
abbrev no_such_day : List ℕ
no_such_day = 0x5A ∷ 0xA5 ∷ 0x0C ∷ 0x80 ∷ 0x1F ∷ 0x5A ∷ 0x01 ∷ 0x02 ∷ 0x29 ∷ 0x00 ∷ 0x18 ∷ 0x56 ∷ 0x00 ∷ 0x8D ∷ 0xDF ∷ []

-- the data of 003's frame
abbrev write_of_003 : List ℕ
write_of_003 = 0x1F ∷ 0x5A ∷ 0x13 ∷ 0x11 ∷ 0x08 ∷ 0x00 ∷ 0x18 ∷ 0x56 ∷ 0x00 ∷ []

-- a setting handed over
abbrev set : List ℕ → Moment
set frame = after (fed frame) ask

set_arises : (frame : List ℕ) → all_bytes frame ≡ true → Arises (set frame)
unfolding Typed
set_arises frame are = by_call (fed frame) ask tt (fed_arises frame are)

-- and then the read given
abbrev then_read : List ℕ → Moment
then_read frame = after_all (set frame) (bytes read_clock ∷ [])

-- "The example of 003 for 8 November 2013 gives weekday 05."
pub setting_of_003_reads_05 : Replied (then_read setting_of_003) 0x81 (0x1F ∷ 8 ∷ [])
    (0x1F ∷ 8 ∷ 0x00 ∷ 0x13 ∷ 0x11 ∷ 0x08 ∷ 0x05 ∷ 0x18 ∷ 0x56 ∷ 0x00 ∷ [])
unfolding computing_calls all_bytes
setting_of_003_reads_05 =
    setting_is_read_back (fed setting_of_003) (fed_arises setting_of_003 refl) 0x13 0x11 0x08 0x00 0x18 0x56 0x00 refl refl (bytes read_clock ∷ [])
    (bytes_typed read_clock refl) (λ k from below. no_register (set setting_of_003) k read_clock) refl

pub setting_of_004_reads_03 : Replied (then_read setting_of_004) 0x81 (0x1F ∷ 8 ∷ [])
    (0x1F ∷ 8 ∷ 0x00 ∷ 0x16 ∷ 0x03 ∷ 0x09 ∷ 0x03 ∷ 0x16 ∷ 0x18 ∷ 0x30 ∷ [])
unfolding computing_calls all_bytes
setting_of_004_reads_03 =
    setting_is_read_back (fed setting_of_004) (fed_arises setting_of_004 refl) 0x16 0x03 0x09 0x00 0x16 0x18 0x30 refl refl (bytes read_clock ∷ [])
    (bytes_typed read_clock refl) (λ k from below. no_register (set setting_of_004) k read_clock) refl

-- what the setting of 003 leaves: done, the clock stands there, and no other register changes; the clock's change by it and by no other call
pub setting_of_003_done : number_given (fed setting_of_003) ask ≡ 0
unfolding computing_calls all_bytes
setting_of_003_done = (setting_done_exactly (fed setting_of_003) (fed_arises setting_of_003 refl) write_of_003 refl refl).done.wherever refl

pub moment_of_003 : panel_moment (set setting_of_003).panel ≡ moment (dated 13 11 8) (timed 18 56 0)
unfolding computing_calls all_bytes
moment_of_003 = setting_sets_the_clock (fed setting_of_003) (fed_arises setting_of_003 refl) write_of_003 refl refl refl

pub backlight_stays : panel_register (set setting_of_003).panel 0x01 ≡ 0x3F
unfolding computing_calls all_bytes
backlight_stays = setting_changes_only_the_clock (fed setting_of_003) (fed_arises setting_of_003 refl) write_of_003 refl refl refl 0x01 refl

pub right_behind_003 : ClockRight (set setting_of_003).panel
unfolding all_bytes
right_behind_003 = clock_always_right (set setting_of_003) (set_arises setting_of_003 refl)

pub by_the_setting : ChangesClock (fed setting_of_003) ask
unfolding computing_calls
by_the_setting = by_a_setting write_of_003 refl refl refl

pub by_no_mark : (panel_register (after new mark).panel 0x26 ≡ panel_register new.panel 0x26) ⊎ ChangesClock new mark
unfolding computing_calls
by_no_mark = only_seconds_and_settings new new_arises mark 0x26 refl

-- a start, a second behind it, and a minute
pub starts_so : panel_moment new.panel ≡ moment (dated 0 1 1) (timed 0 0 0)
unfolding computing_start
starts_so = (clock_starts story_setup [] refl).0

pub one_second_behind : panel_moment (after new second).panel ≡ moment (dated 0 1 1) (timed 0 0 1)
unfolding computing_calls
one_second_behind = second_advances_the_clock new new_arises refl

pub second_leaves_so : after new second ≡ after_second new
unfolding computing_calls
second_leaves_so = second_leaves new refl

pub flag_stays : panel_register (after new second).panel 0x05 ≡ 0x00
unfolding computing_calls
flag_stays = (second_changes_only_the_clock new new_arises).others_stay 0x05 (inl (omega arith))

pub a_minute_behind : SecondsPass new (after_all new (seconds 60)) 60
unfolding computing_calls
a_minute_behind = n_seconds_later new new_arises refl 60

-- within a day the weekday stays
pub friday_stays : panel_register (after (set setting_of_003) second).panel weekday_register ≡ 5
unfolding computing_calls all_bytes
friday_stays = (weekday_moves_on_at_midnight (set setting_of_003) (set_arises setting_of_003 refl) refl).within_a_day refl

-- a midnight: Friday is followed by Saturday, whatever weekday was sent
pub saturday_follows : panel_register (after (set setting_at_night) second).panel weekday_register ≡ 6
unfolding computing_calls all_bytes
saturday_follows =
    (weekday_moves_on_at_midnight (set setting_at_night) (set_arises setting_at_night refl) refl).at_midnight refl
    (λ same. let year : ◌≡◌ {A = ℕ} 13 99 = ap (λ (d : Date). d.year) same in omega arith)

-- the century's end
pub back_at_the_end : JumpsBack (set setting_at_the_end) (after (set setting_at_the_end) second)
unfolding computing_calls all_bytes
back_at_the_end = (weekday_moves_on_at_midnight (set setting_at_the_end) (set_arises setting_at_the_end refl) refl).at_the_end refl refl

-- a day of seconds behind the start
pub a_day_behind_the_start : ADayPasses new (after_all new (seconds day_seconds))
a_day_behind_the_start = a_day_is_86400_seconds new new_arises none_waits
  where
    none_waits : report_waits new.panel ≡ false
    none_waits = unfold computing_calls in refl

-- "1 for a second while a report waits"
pub second_refused : number_given (fed version) second ≡ 1
unfolding computing_calls
second_refused = refl

-- a second in the midst of a frame: the frame is read as if none had come
abbrev in_the_midst : List Call
in_the_midst = bytes (0x5A ∷ 0xA5 ∷ 0x05 ∷ []) ∷ second ∷ bytes (0x81 ∷ 0x00 ∷ 0x01 ∷ 0xE0 ∷ 0x28 ∷ []) ∷ ask ∷ []

pub frame_goes_on : handed_over_all new in_the_midst ≡ read_version ∷ []
unfolding computing_calls handed_over_all without_seconds
frame_goes_on = sym (seconds_are_no_marks new in_the_midst).handed_same

-- "5 for a write touching some but not all eight or joined with others"
pub some_of_eight_refused : number_given (fed without_the_first) ask ≡ 5
unfolding computing_calls all_bytes
some_of_eight_refused =
    part_of_the_clock_is_5 (fed without_the_first) (fed_arises without_the_first refl) (0x20 ∷ 0x13 ∷ 0x11 ∷ 0x08 ∷ 0x00 ∷ 0x18 ∷ 0x56 ∷ 0x00 ∷ []) refl (omega arith)
    (record { register = 0x20; is_clock = refl; has = refl }) refl

pub joined_refused : number_given (fed with_another) ask ≡ 5
unfolding computing_calls
joined_refused = refl

-- "6 for a first byte other than 5A, a bad digit outside the weekday, or a date or time that doesn't exist"
pub without_5a_refused : number_given (fed without_5a) ask ≡ 6
unfolding computing_calls
without_5a_refused = refl

pub bad_digit_refused : number_given (fed bad_digit) ask ≡ 6
unfolding computing_calls
bad_digit_refused = refl

pub no_such_day_refused : number_given (fed no_such_day) ask ≡ 6
unfolding computing_calls all_bytes
no_such_day_refused =
    (setting_done_exactly (fed no_such_day) (fed_arises no_such_day refl) (0x1F ∷ 0x5A ∷ 0x01 ∷ 0x02 ∷ 0x29 ∷ 0x00 ∷ 0x18 ∷ 0x56 ∷ 0x00 ∷ []) refl refl).wrong.wherever refl
