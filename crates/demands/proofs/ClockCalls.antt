-- 02, §6, of a panel's calls: what a second and a setting leave of the clock, and that nothing else changes it.
use Rattle.std.specs.Prelude.{Ok, Err}
use mathlib.Core.Path.{◌≡◌, refl, sym, ap, ◌∙◌}
use mathlib.Core.Logic.{◌⊎◌, inl, inr, ⊎_elim}
use mathlib.Core.Bool.{Bool, true, false, cond}
use mathlib.Core.List.{List, [], ◌∷◌}
use Prim.{tt}
use Prim.Native.Nat.{ℕ, zero, suc, ◌+◌, ◌-◌, ◌/◌, ◌%◌, ◌≤◌, ◌<◌}
use native.Mathlib.Omega.{arith}
use lib.ListN.{length, get_or, drop}
use lib.Seq.{drop-drop}
use borrow.Author.Tests.{le-leb, le-ltb}
use Rattle.wire.proofs.Truths.{never, and_left}
use Rattle.wire.specs.ByteOrder.{byte_at}
use Rattle.wire.specs.Addresses.{register_count}
use Rattle.line.specs.Methods.{busy, number_of_answer}
use Rattle.reading.specs.Place.{accepted_frame}
use Rattle.clock.specs.declared.Moment as Clock
use Rattle.clock.specs.Calendar.{day_number, weekday_of}
use Rattle.clock.specs.Existing.{date_exists, time_exists, moment_exists}
use Rattle.clock.specs.Passing.{dated, timed, moment, next_second}
use Rattle.clock.specs.Digits.{are_digits}
use Rattle.clock.specs.Shown.{shown, moment_in}
use Rattle.clock.specs.Counting.{day_seconds, second_number, later}
use Rattle.clock.proofs.TwoDigits.{digits_are_digits}
use Rattle.clock.proofs.Weekdays.{weekday_below, weekday_moves_on_but_last, last_day_thursday, last_day_followed, first_day_saturday}
use Rattle.clock.proofs.Seconds.{midnight_follows, seconds_later, a_day_is_86400_seconds, later_behind}
use Rattle.registers.specs.declared.Registers.{Registers}
use Rattle.registers.specs.Table.{register_at, register_run, set_register, weekday_register, is_clock}
use Rattle.registers.specs.Run.{sets_clock, touches_clock, wrong_setting}
use Rattle.registers.specs.Clocked.{Stands, second_passed}
use Rattle.registers.proofs.ClockRuns.{clock_touched, touched_some, none_touched, setting_run, setting_may, setting_values, setting_right, part_refused, setting_outside, clock_behind}
use Rattle.registers.proofs.Moments.{stands_at, second_stands, setting_stands}
use Rattle.registers.proofs.Written.{others_stay}
use Rattle.commands.specs.declared.Refusal.TheVariants.{WrongValue}
use Rattle.commands.specs.Outcome.{number_of_outcome, write_registers_outcome, outcome}
use Rattle.commands.specs.Effect.{registers_left}
use Rattle.commands.proofs.DoneWrites.{RegistersPassed, registers_passed}
use Rattle.panel.specs.declared.Panel.{Panel}
use Rattle.panel.specs.State.{with_registers, panel_register, panel_moment}
use Rattle.panel.specs.Reachable.{Reachable}
use Rattle.panel.specs.Inputs.{fed_second}
use Rattle.panel.proofs.Named.{second_only_clock}
use Rattle.panel.proofs.Ways.{second_ways}
use Rattle.panel.proofs.Invariant.{always_256_registers, reachable_sound}
use Rattle.demands.specs.Calls.{Moment, Call, second, ask, with_panel, after, after_all, number_given, handed_over, Typed}
use Rattle.demands.specs.Demand2.{after_write, leaving, NamesRegister, by_write, by_status, by_place, by_page, by_second, by_lifting}
use Rattle.demands.specs.Done.{Exactly}
use Rattle.demands.specs.Clock.{ClockRight, SettingAnswered, after_second, OnlyTheClock, ChangesClock, by_a_second, by_a_setting, WeekdayMoves, seconds, SecondsPass, ADayPasses}
use Rattle.demands.proofs.Calls.{call_reached}
use Rattle.demands.proofs.FrameAsked.{handed_asks, done_number}
use Rattle.demands.proofs.Access.{is_done_lem, writes_registers}
use Rattle.demands.proofs.Reading.{second_keeps_reader}
use Rattle.demands.proofs.Named.{call_names_register}

-- ---- what the registers read

-- a register of a run, by its place
run_at : (registers : Registers) (address n i : ℕ) → i < n → register_at registers (address + i) ≡ get_or (register_run registers address n) i 0
unfolding register_run
run_at registers address zero i h = absurd (omega arith)
run_at registers address (suc n) zero h = let here : address + 0 ≡ address = omega arith in ap (register_at registers) here
run_at registers address (suc n) (suc i) h =
    let next : address + suc i ≡ suc address + i = omega arith in
    ap (register_at registers) next ∙ run_at registers (suc address) n i (omega arith)

module _ (registers : Registers) (m : Clock.Moment) (at : Stands registers m) where
  shown_at : (i : ℕ) → i < 8 → register_at registers (set_register + i) ≡ get_or (0x00 ∷ shown m) i 0
  shown_at i h = run_at registers set_register 8 i h ∙ ap (λ (run : List ℕ). get_or run i 0) at.shows

  weekday_shown : register_at registers weekday_register ≡ weekday_of m.date
  unfolding shown
  weekday_shown = shown_at 4 (omega arith)

  small_digit : (w : ℕ) → w < 7 → are_digits w ≡ true
  unfolding are_digits
  small_digit w h = let high : w / 16 ≡ 0 = omega arith in let low : w % 16 ≡ w = omega arith in rw (high, low, le-leb w 9 (omega arith))

  digits_shown : (i : ℕ) → i < 7 → are_digits (get_or (shown m) i 0) ≡ true
  unfolding shown
  digits_shown zero h = digits_are_digits m.date.year
  digits_shown (suc zero) h = digits_are_digits m.date.month
  digits_shown (suc (suc zero)) h = digits_are_digits m.date.day
  digits_shown (suc (suc (suc zero))) h = small_digit (weekday_of m.date) (weekday_below m.date)
  digits_shown (suc (suc (suc (suc zero)))) h = digits_are_digits m.time.hour
  digits_shown (suc (suc (suc (suc (suc zero))))) h = digits_are_digits m.time.minute
  digits_shown (suc (suc (suc (suc (suc (suc zero)))))) h = digits_are_digits m.time.second
  digits_shown (suc (suc (suc (suc (suc (suc (suc i))))))) h = absurd (omega arith)

  clock_digits : (address : ℕ) → 0x20 ≤ address → address ≤ 0x26 → are_digits (register_at registers address) ≡ true
  clock_digits address from to =
      let place : set_register + suc (address - 0x20) ≡ address = omega arith in
      rw (← place, shown_at (suc (address - 0x20)) (omega arith)) (digits_shown (address - 0x20) (omega arith))

pub clock_right : (panel : Panel) → Reachable panel → ClockRight panel
clock_right panel reached =
    let at = (reachable_sound panel reached).clock in
    record {
      stands = at;
      weekday = weekday_shown panel.registers (panel_moment panel) at;
      digits = clock_digits panel.registers (panel_moment panel) at;
    }

-- ---- a second

pub second_leaves : (now : Moment) → number_given now second ≡ 0 → after now second ≡ after_second now
unfolding after number_given number_of_answer after_second
second_leaves now =
    second_ways now.panel (λ f. number_of_answer f.answer ≡ 0 → with_panel now f.panel ≡ with_panel now (with_registers now.panel (second_passed now.panel.registers)))
    (λ done. absurd (omega arith)) (λ quiet done. refl)

module _ (now : Moment) (reached : Reachable now.panel) where
  at_now : Stands now.panel.registers (panel_moment now.panel)
  at_now = (reachable_sound now.panel reached).clock

  -- all that it may change
  pub second_changes_only : OnlyTheClock now (after now second)
  unfolding after
  second_changes_only =
      record {
        others_stay = second_only_clock now.panel (always_256_registers now.panel reached);
        rest_stays =
            second_ways now.panel (λ f. with_panel now f.panel ≡ with_panel now (with_registers now.panel f.panel.registers)) refl (λ quiet. refl);
      }

  -- one that is taken: the registers show the next second
  second_shows : number_given now second ≡ 0 → Stands (after now second).panel.registers (next_second (panel_moment now.panel))
  unfolding after number_given number_of_answer
  second_shows =
      second_ways now.panel (λ f. number_of_answer f.answer ≡ 0 → Stands f.panel.registers (next_second (panel_moment now.panel)))
      (λ done. absurd (omega arith))
      (λ quiet done. second_stands now.panel.registers (always_256_registers now.panel reached) (panel_moment now.panel) at_now)

  pub second_advances : number_given now second ≡ 0 → panel_moment (after now second).panel ≡ next_second (panel_moment now.panel)
  second_advances done = stands_at (after now second).panel.registers (next_second (panel_moment now.panel)) (second_shows done)

  -- the weekday
  module _ (done : number_given now second ≡ 0) where
    before : panel_register now.panel weekday_register ≡ weekday_of (panel_moment now.panel).date
    before = weekday_shown now.panel.registers (panel_moment now.panel) at_now

    behind : panel_register (after now second).panel weekday_register ≡ weekday_of (next_second (panel_moment now.panel)).date
    behind = weekday_shown (after now second).panel.registers (next_second (panel_moment now.panel)) (second_shows done)

    date_is : date_exists (panel_moment now.panel).date ≡ true
    unfolding moment_exists
    date_is = and_left (date_exists (panel_moment now.panel).date) (time_exists (panel_moment now.panel).time) at_now.exists

    pub weekday_moves : WeekdayMoves now (after now second)
    unfolding next_second
    weekday_moves =
        let m = panel_moment now.panel in
        record {
          within_a_day = λ off. behind ∙ rw off (sym before);
          at_midnight = λ ends other. behind ∙ rw ends (weekday_moves_on_but_last m.date date_is other ∙ ap (λ (w : ℕ). (w + 1) % 7) (sym before));
          at_the_end = λ ends last.
              let first : next_second m ≡ moment (dated 0 1 1) (timed 0 0 0) = rw (ends, last, last_day_followed, midnight_follows m.time ends) in
              record {
                thursday = before ∙ rw last last_day_thursday;
                first_moment = second_advances done ∙ first;
                saturday = behind ∙ ap (λ (k : Clock.Moment). weekday_of k.date) first ∙ first_day_saturday;
              };
        }

-- ---- seconds one after the other

-- where no report waits, a second is taken, and none waits behind it
taken_while_quiet : (now : Moment) → busy now.panel.reader ≡ false → number_given now second ≡ 0
unfolding number_given fed_second number_of_answer
taken_while_quiet now quiet = rw quiet

quiet_behind : (now : Moment) → busy now.panel.reader ≡ false → busy (after now second).panel.reader ≡ false
unfolding after
quiet_behind now quiet = ap busy (second_keeps_reader now.panel) ∙ quiet

seconds_stand : (now : Moment) → Reachable now.panel → busy now.panel.reader ≡ false → (n : ℕ)
    → (panel_moment (after_all now (seconds n)).panel ≡ later n (panel_moment now.panel)) × (number_given (after_all now (seconds n)) second ≡ 0)
unfolding after_all Typed
seconds_stand now reached quiet zero = (unfold later in refl, taken_while_quiet now quiet)
seconds_stand now reached quiet (suc n) =
    let rest = seconds_stand (after now second) (call_reached now second tt reached) (quiet_behind now quiet) n in
    (rest.0 ∙ ap (later n) (second_advances now reached (taken_while_quiet now quiet)) ∙ later_behind n (panel_moment now.panel), rest.1)

pub seconds_pass : (now : Moment) → Reachable now.panel → busy now.panel.reader ≡ false → (n : ℕ) → SecondsPass now (after_all now (seconds n)) n
seconds_pass now reached quiet n =
    let stand = seconds_stand now reached quiet n in
    record {
      stands_later = stand.0;
      counted = ap second_number stand.0 ∙ seconds_later (panel_moment now.panel) (reachable_sound now.panel reached).clock.exists n;
      taken = stand.1;
    }

pub a_day_passes : (now : Moment) → Reachable now.panel → busy now.panel.reader ≡ false → ADayPasses now (after_all now (seconds day_seconds))
a_day_passes now reached quiet =
    let m = panel_moment now.panel in
    let day = a_day_is_86400_seconds m (reachable_sound now.panel reached).clock.exists in
    let there = (seconds_stand now reached quiet day_seconds).0 in
    record {
      next_day = ap (λ (k : Clock.Moment). day_number k.date) there ∙ day.0;
      same_time = ap (λ (k : Clock.Moment). k.time) there ∙ day.1;
    }

-- ---- a setting, and that nothing else changes the clock

one_dropped : (xs : List ℕ) → 0 < length (drop 1 xs) → length xs ≡ suc (length (drop 1 xs))
one_dropped [] some = absurd (omega arith)
one_dropped (x ∷ xs) some = refl

-- 0 where a test fails, 6 where it holds
exactly : {n : ℕ} (w : Bool) → n ≡ cond w 6 0 → Exactly (n ≡ 0) (w ≡ false)
exactly true e = record { only_when = λ is. absurd (omega arith); wherever = λ is. never (cc) }
exactly false e = record { only_when = λ is. refl; wherever = λ is. e }

exactly_6 : {n : ℕ} (w : Bool) → n ≡ cond w 6 0 → Exactly (n ≡ 6) (w ≡ true)
exactly_6 true e = record { only_when = λ is. refl; wherever = λ is. e }
exactly_6 false e = record { only_when = λ is. absurd (omega arith); wherever = λ is. never (cc) }

module _ (now : Moment) (reached : Reachable now.panel) (content : List ℕ) (writes : handed_over now ask ≡ accepted_frame 0x80 content ∷ []) where
  -- what an 0x80 is answered
  write_answer : number_given now ask ≡ number_of_outcome (write_registers_outcome now.panel.setup.pages content)
  unfolding outcome
  write_answer = done_number now (reachable_sound now.panel reached) 0x80 content (handed_asks now 0x80 content writes)

  -- a write of some of the eight, or of all with others
  pub part_answered_5 : byte_at content 0 + length (drop 1 content) ≤ register_count → touches_clock (byte_at content 0) (length (drop 1 content)) ≡ true
      → sets_clock (byte_at content 0) (length (drop 1 content)) ≡ false → number_given now ask ≡ 5
  unfolding write_registers_outcome number_of_outcome
  part_answered_5 fits touches other =
      let some = touched_some (byte_at content 0) (length (drop 1 content)) touches in
      let long : length content ≡ suc (length (drop 1 content)) = one_dropped content some in
      write_answer
      ∙ rw (
        le-ltb (length content) 2 (omega arith),
        le-ltb register_count (byte_at content 0 + length (drop 1 content)) fits,
        part_refused (byte_at content 0) (length (drop 1 content)) touches other,
      )

  -- a write of just the eight
  module _ (sets : sets_clock (byte_at content 0) (length (drop 1 content)) ≡ true) where
    setting_answer : number_given now ask ≡ cond (wrong_setting (drop 1 content)) 6 0
    unfolding write_registers_outcome number_of_outcome
    setting_answer =
        let run = setting_run (byte_at content 0) (length (drop 1 content)) sets in
        let long : length content ≡ suc (length (drop 1 content)) = one_dropped content (omega (arith, run.1)) in
        write_answer
        ∙ rw (
          le-ltb (length content) 2 (omega (arith, run.1)),
          le-ltb register_count (byte_at content 0 + length (drop 1 content)) (omega (arith, run.0, run.1)),
          setting_may (byte_at content 0) (length (drop 1 content)) sets,
          setting_values (byte_at content 0) (drop 1 content) now.panel.setup.pages sets,
        ) (by_wrong (wrong_setting (drop 1 content)))
      where
        by_wrong : (w : Bool) → number_of_outcome (cond w (Err WrongValue) (Ok tt)) ≡ cond w 6 0
        by_wrong true = refl
        by_wrong false = refl

    pub setting_answered : SettingAnswered now (drop 1 content)
    setting_answered = record { done = exactly (wrong_setting (drop 1 content)) setting_answer; wrong = exactly_6 (wrong_setting (drop 1 content)) setting_answer }

module _ (now : Moment) (reached : Reachable now.panel) (content : List ℕ) (writes : handed_over now ask ≡ accepted_frame 0x80 content ∷ [])
    (done : number_given now ask ≡ 0) where
  passed_write : RegistersPassed now.panel.setup.pages content
  unfolding outcome
  passed_write = registers_passed now.panel.setup.pages content (is_done_lem now reached content done 0x80 (handed_asks now 0x80 content writes))

  left_registers : (after now ask).panel.registers ≡ registers_left now.panel.registers content
  unfolding after_write leaving
  left_registers = ap (λ (m : Moment). m.panel.registers) (writes_registers now reached content done writes)

  -- a write that has one of the clock's registers sets the clock
  has_clock_sets : (address : ℕ) → is_clock address ≡ true → byte_at content 0 ≤ address → address < byte_at content 0 + length (drop 1 content)
      → sets_clock (byte_at content 0) (length (drop 1 content)) ≡ true
  has_clock_sets address is from below = go (sets_clock (byte_at content 0) (length (drop 1 content))) refl
    where
      go : (b : Bool) → sets_clock (byte_at content 0) (length (drop 1 content)) ≡ b → b ≡ true
      go true e = refl
      go false e =
          let none = none_touched (byte_at content 0) (length (drop 1 content)) passed_write.may e in
          let some = clock_touched (byte_at content 0) (length (drop 1 content)) address is from below in
          never (let x : true ≡ false = sym some ∙ none in cc)

  module _ (sets : sets_clock (byte_at content 0) (length (drop 1 content)) ≡ true) where
    -- it sets the clock to the moment of its bytes
    pub setting_sets : Stands (after now ask).panel.registers (moment_in (drop 2 content))
    unfolding registers_left
    setting_sets =
        rw (left_registers, ← drop-drop 1 1 content)
        (setting_stands now.panel.registers (always_256_registers now.panel reached) (byte_at content 0) (drop 1 content) passed_write.fits sets
        (setting_right (byte_at content 0) (drop 1 content) now.panel.setup.pages passed_write.right sets))

    -- and changes no other register
    pub setting_changes_only : (address : ℕ) → is_clock address ≡ false → panel_register (after now ask).panel address ≡ panel_register now.panel address
    unfolding registers_left
    setting_changes_only address other =
        rw left_registers
        (others_stay now.panel.registers (always_256_registers now.panel reached) (byte_at content 0) (drop 1 content) passed_write.fits address
        (setting_outside (byte_at content 0) (length (drop 1 content)) address sets other))

-- a register of the clock over any call: it stays, or the call is a second or a setting
pub clock_changes_by : (now : Moment) → Reachable now.panel → (call : Call) (address : ℕ) → is_clock address ≡ true
    → (panel_register (after now call).panel address ≡ panel_register now.panel address) ⊎ ChangesClock now call
clock_changes_by now reached call address is =
    ⊎_elim inl (λ named. inr (changes call named)) (call_names_register now (always_256_registers now.panel reached) call address)
  where
    far : 0x0B ≤ address
    far = clock_behind address is

    changes : (call : Call) → NamesRegister now address call → ChangesClock now call
    changes _ (by_write content writes done from below) =
        by_a_setting content writes done (has_clock_sets now reached content writes done address is from below)
    changes _ (by_status c done at) = absurd (omega (arith, far))
    changes _ (by_place c done flag at) =
        absurd (⊎_elim (λ (e : address ≡ 0x05). omega (arith, far)) (λ (e : (0x07 ≤ address) × (address < 0x0B)). omega (arith, far, e.1)) at)
    changes _ (by_page c i r done up at next page) = absurd (⊎_elim (λ (e : address ≡ 0x03). omega (arith, far)) (λ (e : address ≡ 0x04). omega (arith, far)) page)
    changes _ (by_second done from to) = by_a_second done
    changes _ (by_lifting done at) = absurd (omega (arith, far))
