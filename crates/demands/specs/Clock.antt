-- 02, §6, of a panel's calls: what the clock's registers show, what changes them, and seconds that pass. The theorems are in proofs/Clock.
use Rattle.std.specs.Prelude.{ℕ, ◌+◌, ◌%◌, ◌≤◌, ◌<◌, ◌≡◌, ◌⊎◌, true, false, List, [], ◌∷◌, length, drop, replicate}
use Rattle.wire.specs.ByteOrder.{byte_at}
use Rattle.reading.specs.Place.{accepted_frame}
use Rattle.clock.specs.Calendar.{day_number, weekday_of}
use Rattle.clock.specs.Passing.{dated, timed, moment, ends_day}
use Rattle.clock.specs.Digits.{are_digits}
use Rattle.clock.specs.Counting.{century_days, century_seconds, second_number, later}
use Rattle.registers.specs.Table.{weekday_register}
use Rattle.registers.specs.Run.{sets_clock, wrong_setting}
use Rattle.registers.specs.Clocked.{Stands, second_passed}
use Rattle.panel.specs.declared.Panel.{Panel}
use Rattle.panel.specs.State.{with_registers, panel_register, panel_moment}
use Rattle.demands.specs.Calls.{Moment, Call, lend, byte, bytes, mark, second, ask, contact, lift, with_panel, number_given, handed_over, handed_over_all}
use Rattle.demands.specs.Given.{given_all}
use Rattle.demands.specs.Done.{Exactly}

-- "year, month, day, weekday, hour, minute, second in BCD": what the clock's registers read, at any time
pub record ClockRight (panel : Panel) : Type 0 where
  -- they show the moment at which the clock stands, which exists; "1F reads 00"
  pub stands : Stands panel.registers (panel_moment panel)
  -- "the weekday .. worked out in the Gregorian calendar, Sunday 0": that of the date which stands beside it
  pub weekday : panel_register panel weekday_register ≡ weekday_of (panel_moment panel).date
  -- "in BCD": no digit is above 9
  pub digits : (address : ℕ) → 0x20 ≤ address → address ≤ 0x26 → are_digits (panel_register panel address) ≡ true

-- "A write that covers all of 1F to 26, with 5A first, sets the clock"; "6 for a first byte other than 5A, a bad digit outside the weekday, or a date or time that
-- doesn't exist": a write of just the eight is done exactly where its bytes are not wrong, and answered 6 exactly where they are
pub record SettingAnswered (now : Moment) (bytes : List ℕ) : Type 0 where
  pub done : Exactly (number_given now ask ≡ 0) (wrong_setting bytes ≡ false)
  pub wrong : Exactly (number_given now ask ≡ 6) (wrong_setting bytes ≡ true)

-- "A new input, one second, advances it": what a second leaves that is taken
unfoldable pub after_second : Moment → Moment
after_second now = with_panel now (with_registers now.panel (second_passed now.panel.registers))

-- "Demand 2's last sentence then also lets a second change the clock's registers": 20 to 26, and nothing else of the panel or of what is lent
pub record OnlyTheClock (now then : Moment) : Type 0 where
  pub others_stay : (address : ℕ) → (address < 0x20) ⊎ (0x27 ≤ address) → panel_register then.panel address ≡ panel_register now.panel address
  pub rest_stays : then ≡ with_panel now (with_registers now.panel then.panel.registers)

-- what may change the clock's registers: "one second", and "A write that covers all of 1F to 26", which is done
pub data ChangesClock (now : Moment) : Call → Type 0 where
  by_a_second : number_given now second ≡ 0 → ChangesClock now second
  by_a_setting : (content : List ℕ) → handed_over now ask ≡ accepted_frame 0x80 content ∷ [] → number_given now ask ≡ 0
      → sets_clock (byte_at content 0) (length (drop 1 content)) ≡ true → ChangesClock now ask

-- "23:59:59 on 31 December 2099", a Thursday, "is followed by 00:00:00 on 1 January 2000", a Saturday
pub record JumpsBack (now then : Moment) : Type 0 where
  pub thursday : panel_register now.panel weekday_register ≡ 4
  pub first_moment : panel_moment then.panel ≡ moment (dated 0 1 1) (timed 0 0 0)
  pub saturday : panel_register then.panel weekday_register ≡ 6

-- what a second that is taken makes of the weekday: within a day it stays; each midnight moves it on by one, but for the jump back at the century's end
pub record WeekdayMoves (now then : Moment) : Type 0 where
  pub within_a_day : ends_day (panel_moment now.panel).time ≡ false
      → panel_register then.panel weekday_register ≡ panel_register now.panel weekday_register
  pub at_midnight : ends_day (panel_moment now.panel).time ≡ true → ((panel_moment now.panel).date ≡ dated 99 12 31 → ⊥)
      → panel_register then.panel weekday_register ≡ (panel_register now.panel weekday_register + 1) % 7
  pub at_the_end : ends_day (panel_moment now.panel).time ≡ true → (panel_moment now.panel).date ≡ dated 99 12 31 → JumpsBack now then

-- n seconds, one after the other
abbrev pub seconds : ℕ → List Call
seconds n = replicate n second

-- "one second, advances it", n times where no report waits: the clock stands n seconds later, over the whole century and again from its first day
pub record SecondsPass (now then : Moment) (n : ℕ) : Type 0 where
  pub stands_later : panel_moment then.panel ≡ later n (panel_moment now.panel)
  pub counted : second_number (panel_moment then.panel) ≡ (second_number (panel_moment now.panel) + n) % century_seconds
  -- the next second is taken too
  pub taken : number_given then second ≡ 0

-- 86,400 seconds are a day: the next day at the same time
pub record ADayPasses (now then : Moment) : Type 0 where
  pub next_day : day_number (panel_moment then.panel).date ≡ (day_number (panel_moment now.panel).date + 1) % century_days
  pub same_time : (panel_moment then.panel).time ≡ (panel_moment now.panel).time

-- a word of ours: calls without the seconds among them
unfoldable pub without_seconds : List Call → List Call
without_seconds [] = []
without_seconds (lend lent ∷ calls) = lend lent ∷ without_seconds calls
without_seconds (byte b ∷ calls) = byte b ∷ without_seconds calls
without_seconds (bytes bs ∷ calls) = bytes bs ∷ without_seconds calls
without_seconds (mark ∷ calls) = mark ∷ without_seconds calls
without_seconds (second ∷ calls) = without_seconds calls
without_seconds (ask ∷ calls) = ask ∷ without_seconds calls
without_seconds (contact c ∷ calls) = contact c ∷ without_seconds calls
without_seconds (lift ∷ calls) = lift ∷ without_seconds calls

-- 01, "Reading the line": two sequences of calls from one moment give the line the same, and hand over the same reports
pub record ReadsOn (now : Moment) (some others : List Call) : Type 0 where
  pub given_same : given_all now some ≡ given_all now others
  pub handed_same : handed_over_all now some ≡ handed_over_all now others
