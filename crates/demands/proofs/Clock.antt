-- 02, §6, "Clock": what is claimed of the clock over any calls, sentence by sentence. What the sentences suppose and say is in specs/Clock.
use Rattle.std.specs.Prelude.{Ok}
use mathlib.Core.Path.{◌≡◌, refl, ◌∙◌}
use mathlib.Core.Logic.{◌⊎◌}
use mathlib.Core.Bool.{true, false}
use mathlib.Core.List.{List, [], ◌∷◌}
use Prim.Native.Nat.{ℕ, ◌+◌, ◌≤◌, ◌<◌}
use native.Mathlib.Omega.{arith}
use lib.ListN.{length, drop}
use Rattle.wire.specs.Addresses.{register_count}
use Rattle.wire.specs.ByteOrder.{byte_at}
use Rattle.reading.specs.Place.{accepted_frame}
use Rattle.clock.specs.Calendar.{weekday_of}
use Rattle.clock.specs.Passing.{dated, timed, moment, next_second}
use Rattle.clock.specs.Shown.{date_in, moment_in}
use Rattle.clock.specs.Counting.{day_seconds}
use Rattle.registers.specs.Table.{register_run, is_clock}
use Rattle.registers.specs.Run.{sets_clock}
use Rattle.registers.specs.Clocked.{HasClockRegister}
use Rattle.registers.proofs.ClockRuns.{touches_exactly}
use Rattle.registers.proofs.Moments.{stands_at, eight_read_back}
use Rattle.line.specs.Methods.{busy}
use Rattle.touch.specs.declared.Setup.{Setup}
use Rattle.panel.specs.Start.{new_panel, started}
use Rattle.panel.specs.State.{panel_register, panel_moment}
use Rattle.panel.proofs.Invariant.{reachable_sound}
use Rattle.demands.specs.Calls.{Moment, Call, second, ask, after, after_all, number_given, handed_over, AllTyped, Arises}
use Rattle.demands.specs.Reports.{report_waits}
use Rattle.demands.specs.Demand2.{NamesRegister, SomeCall}
use Rattle.demands.specs.Replied.{Replied}
use Rattle.demands.specs.Clock.{ClockRight, SettingAnswered, after_second, OnlyTheClock, ChangesClock, WeekdayMoves, seconds, SecondsPass, ADayPasses, without_seconds, ReadsOn}
use Rattle.demands.proofs.Calls.{arises_reachable}
use Rattle.demands.proofs.Computed.{computing_registers}
use Rattle.demands.proofs.Sizes.{started_new}
use Rattle.demands.proofs.Waits.{busy_waits}
use Rattle.demands.proofs.WrittenReads as WrittenReads
use Rattle.demands.proofs.ClockCalls as ClockCalls
use Rattle.demands.proofs.NoMarks.{seconds_left_out}

-- "year, month, day, weekday, hour, minute, second in BCD", whatever calls came before
pub clock_always_right : (now : Moment) → Arises now → ClockRight now.panel
clock_always_right now arises = ClockCalls.clock_right now.panel (arises_reachable now arises)

-- "Panels start at the latter moment", 00:00:00 on 1 January 2000, a Saturday
pub clock_starts : (setup : Setup) (table : List ℕ) → (started setup table).answer ≡ Ok tt
    → (panel_moment (started setup table).panel ≡ moment (dated 0 1 1) (timed 0 0 0))
    × (register_run (started setup table).panel.registers 0x1F 8 ≡ 0x00 ∷ 0x00 ∷ 0x01 ∷ 0x01 ∷ 0x06 ∷ 0x00 ∷ 0x00 ∷ 0x00 ∷ [])
unfolding computing_registers new_panel
clock_starts setup table is = rw (started_new setup table is) (refl, refl)

-- "A new input, one second, advances it": all that a second leaves which is taken
pub second_leaves : (now : Moment) → number_given now second ≡ 0 → after now second ≡ after_second now
second_leaves = ClockCalls.second_leaves

pub second_advances_the_clock : (now : Moment) → Arises now → number_given now second ≡ 0
    → panel_moment (after now second).panel ≡ next_second (panel_moment now.panel)
second_advances_the_clock now arises = ClockCalls.second_advances now (arises_reachable now arises)

-- "Demand 2's last sentence then also lets a second change the clock's registers."
pub second_changes_only_the_clock : (now : Moment) → Arises now → OnlyTheClock now (after now second)
second_changes_only_the_clock now arises = ClockCalls.second_changes_only now (arises_reachable now arises)

-- each midnight moves the weekday on by one, "but" 31 December 2099 "is followed by .. 1 January 2000"
pub weekday_moves_on_at_midnight : (now : Moment) → Arises now → number_given now second ≡ 0 → WeekdayMoves now (after now second)
weekday_moves_on_at_midnight now arises = ClockCalls.weekday_moves now (arises_reachable now arises)

-- no report waits: seconds, one after the other
module _ (now : Moment) (arises : Arises now) (none_waits : report_waits now.panel ≡ false) where
  quiet : busy now.panel.reader ≡ false
  quiet = busy_waits now.panel (reachable_sound now.panel (arises_reachable now arises)) ∙ none_waits

  pub n_seconds_later : (n : ℕ) → SecondsPass now (after_all now (seconds n)) n
  n_seconds_later = ClockCalls.seconds_pass now (arises_reachable now arises) quiet

  pub a_day_is_86400_seconds : ADayPasses now (after_all now (seconds day_seconds))
  a_day_is_86400_seconds = ClockCalls.a_day_passes now (arises_reachable now arises) quiet

-- "A write that covers all of 1F to 26, with 5A first, sets the clock": done where its bytes are not wrong, and else 6
pub setting_done_exactly : (now : Moment) → Arises now → (content : List ℕ) → handed_over now ask ≡ accepted_frame 0x80 content ∷ []
    → sets_clock (byte_at content 0) (length (drop 1 content)) ≡ true → SettingAnswered now (drop 1 content)
setting_done_exactly now arises = ClockCalls.setting_answered now (arises_reachable now arises)

-- "5 for a write touching some but not all eight or joined with others": every other write that has one of them, and does not pass the end (4)
pub part_of_the_clock_is_5 : (now : Moment) → Arises now → (content : List ℕ) → handed_over now ask ≡ accepted_frame 0x80 content ∷ []
    → byte_at content 0 + length (drop 1 content) ≤ register_count → HasClockRegister (byte_at content 0) (length (drop 1 content))
    → sets_clock (byte_at content 0) (length (drop 1 content)) ≡ false → number_given now ask ≡ 5
part_of_the_clock_is_5 now arises content writes fits has =
    ClockCalls.part_answered_5 now (arises_reachable now arises) content writes fits ((touches_exactly (byte_at content 0) (length (drop 1 content))).1 has)

-- what one that is done leaves
module _ (now : Moment) (arises : Arises now) (content : List ℕ) (writes : handed_over now ask ≡ accepted_frame 0x80 content ∷ []) (done : number_given now ask ≡ 0)
    (sets : sets_clock (byte_at content 0) (length (drop 1 content)) ≡ true) where
  pub setting_sets_the_clock : panel_moment (after now ask).panel ≡ moment_in (drop 2 content)
  setting_sets_the_clock =
      stands_at (after now ask).panel.registers (moment_in (drop 2 content))
      (ClockCalls.setting_sets now (arises_reachable now arises) content writes done sets)

  -- "No word or register changes but those the command .. names": 1F to 26
  pub setting_changes_only_the_clock : (address : ℕ) → is_clock address ≡ false → panel_register (after now ask).panel address ≡ panel_register now.panel address
  setting_changes_only_the_clock = ClockCalls.setting_changes_only now (arises_reachable now arises) content writes done sets

-- a register of the clock changes by a second or by a setting, and by no other call
pub only_seconds_and_settings : (now : Moment) → Arises now → (call : Call) (address : ℕ) → is_clock address ≡ true
    → (panel_register (after now call).panel address ≡ panel_register now.panel address) ⊎ ChangesClock now call
only_seconds_and_settings now arises = ClockCalls.clock_changes_by now (arises_reachable now arises)

-- "the weekday byte is ignored and worked out ..; Afterwards 1F reads 00": what a setting that is done wrote, an 0x81 of the eight replies, whatever calls come
-- between that name none of them
pub setting_is_read_back : (now : Moment) → Arises now → (year month day sent hour minute last : ℕ)
    → handed_over now ask ≡ accepted_frame 0x80 (0x1F ∷ 0x5A ∷ year ∷ month ∷ day ∷ sent ∷ hour ∷ minute ∷ last ∷ []) ∷ [] → number_given now ask ≡ 0
    → (calls : List Call) → AllTyped calls
    → ((k : ℕ) → 0x1F ≤ k → k < 0x27 → SomeCall (λ then call. NamesRegister then k call) (after now ask) calls → ⊥)
    → handed_over (after_all (after now ask) calls) ask ≡ accepted_frame 0x81 (0x1F ∷ 8 ∷ []) ∷ []
    → Replied (after_all (after now ask) calls) 0x81 (0x1F ∷ 8 ∷ [])
    (0x1F ∷ 8 ∷ 0x00 ∷ year ∷ month ∷ day ∷ weekday_of (date_in year month day) ∷ hour ∷ minute ∷ last ∷ [])
setting_is_read_back now arises year month day sent hour minute last writes done calls typed none reads =
    rw (eight_read_back 0x5A year month day sent hour minute last) at
    (WrittenReads.what_80_wrote_81_replies now (arises_reachable now arises) (0x1F ∷ 0x5A ∷ year ∷ month ∷ day ∷ sent ∷ hour ∷ minute ∷ last ∷ []) writes done calls typed
    0x1F 8 (omega arith) (omega arith) none reads)

-- a second is no mark, also in the midst of a frame: with the seconds left out, the same is given to the line and the same reports are handed over
pub seconds_are_no_marks : (now : Moment) (calls : List Call) → ReadsOn now (without_seconds calls) calls
seconds_are_no_marks = seconds_left_out
