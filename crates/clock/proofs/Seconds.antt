-- Laws of the seconds: which times exist, that the next second does, and that n seconds later the count of seconds is n further, modulo the century's.
use mathlib.Core.Path.{◌≡◌, refl, sym, ap, ◌∙◌}
use mathlib.Core.Bool.{Bool, true, false, cond, ◌&&◌}
use mathlib.Core.Logic.{◌↔◌}
use Prim.Native.Nat.{ℕ, zero, suc, ◌+◌, ◌*◌, ◌%◌, ◌≤◌, ◌<◌}
use native.Mathlib.Nat.{mod-add-mod}
use native.Mathlib.Omega.{arith}
use Rattle.std.proofs.lemmas.Bool.Decides.{nat_tests}
use Rattle.std.proofs.Math.Bool.{and-false}
use lib.Dec.{leb, ltb}
use borrow.Author.Tests.{ltb-true, ltb-false, lt-ltb, le-leb, lt-leb}
use Rattle.wire.proofs.Truths.{never, and_left, and_right}
use Rattle.clock.specs.declared.Date.{Date}
use Rattle.clock.specs.declared.Time.{Time}
use Rattle.clock.specs.declared.Moment.{Moment}
use Rattle.clock.specs.Calendar.{day_number}
use Rattle.clock.specs.Existing.{date_exists, time_exists, moment_exists}
use Rattle.clock.specs.Passing.{dated, timed, moment, tomorrow, ends_day, second_later, next_second}
use Rattle.clock.specs.Counting.{OnCalendar, OnClock, day_seconds, century_days, century_seconds, second_of_day, second_number, later}
use Rattle.clock.proofs.Computed.{computing_clock}
use Rattle.clock.proofs.Days.{date_exists_exactly, day_number_below, tomorrow_exists, one_day_later, same_day_number}

-- ---- times and moments that exist

-- `time_exists`, in numbers
pub time_exists_exactly : (time : Time) → (time_exists time ≡ true) ↔ OnClock time
unfolding time_exists
time_exists_exactly time = (
  λ is. record { hour_below = grind (arith, nat_tests); minute_below = grind (arith, nat_tests); second_below = grind (arith, nat_tests) },
  λ on. rw (lt-ltb time.hour 24 on.hour_below, lt-ltb time.minute 60 on.minute_below, lt-ltb time.second 60 on.second_below),
)

-- `moment_exists`, in numbers
pub moment_exists_exactly : (m : Moment) → (moment_exists m ≡ true) ↔ (OnCalendar m.date × OnClock m.time)
unfolding moment_exists
moment_exists_exactly m = (on, back)
  where
    on : (date_exists m.date && time_exists m.time) ≡ true → OnCalendar m.date × OnClock m.time
    on is = (
      (date_exists_exactly m.date).0 (and_left (date_exists m.date) (time_exists m.time) is),
      (time_exists_exactly m.time).0 (and_right (date_exists m.date) (time_exists m.time) is),
    )

    back : OnCalendar m.date × OnClock m.time → (date_exists m.date && time_exists m.time) ≡ true
    back on = rw ((date_exists_exactly m.date).1 on.0, (time_exists_exactly m.time).1 on.1)

-- ---- the next second

-- which time is the next, and whether a new day begins with it
data Tick (time : Time) : Bool → Time → Type 0 where
  in_minute : time.second < 59 → Tick time false (timed time.hour time.minute (suc time.second))
  in_hour : 59 ≤ time.second → time.minute < 59 → Tick time false (timed time.hour (suc time.minute) 0)
  in_day : 59 ≤ time.second → 59 ≤ time.minute → time.hour < 23 → Tick time false (timed (suc time.hour) 0 0)
  midnight : 59 ≤ time.second → 59 ≤ time.minute → 23 ≤ time.hour → Tick time true (timed 0 0 0)

tick : (time : Time) → Tick time (ends_day time) (second_later time)
unfolding ends_day second_later
tick time = go (ltb s 59) refl (ltb m 59) refl (ltb h 23) refl
  where
    h : ℕ
    h = time.hour

    m : ℕ
    m = time.minute

    s : ℕ
    s = time.second

    go : (p : Bool) → ltb s 59 ≡ p → (q : Bool) → ltb m 59 ≡ q → (r : Bool) → ltb h 23 ≡ r
        → Tick time (leb 23 h && leb 59 m && leb 59 s) (cond p (timed h m (suc s)) (cond q (timed h (suc m) 0) (cond r (timed (suc h) 0 0) (timed 0 0 0))))
    go true p q q' r r' =
        let i : s < 59 = ltb-true s 59 p in
        rw (lt-leb 59 s i, and-false) (in_minute i)
    go false p true q r r' =
        let i : 59 ≤ s = ltb-false s 59 p in
        let j : m < 59 = ltb-true m 59 q in
        rw (lt-leb 59 m j, and-false) (in_hour i j)
    go false p false q true r =
        let i : 59 ≤ s = ltb-false s 59 p in
        let j : 59 ≤ m = ltb-false m 59 q in
        let k : h < 23 = ltb-true h 23 r in
        rw (lt-leb 23 h k) (in_day i j k)
    go false p false q false r =
        let i : 59 ≤ s = ltb-false s 59 p in
        let j : 59 ≤ m = ltb-false m 59 q in
        let k : 23 ≤ h = ltb-false h 23 r in
        rw (le-leb 23 h k, le-leb 59 m j, le-leb 59 s i) (midnight i j k)

time_on : (time next : Time) (ends : Bool) → OnClock time → Tick time ends next → OnClock next
time_on time next ends on (in_minute i) = record { hour_below = on.hour_below; minute_below = on.minute_below; second_below = omega arith }
time_on time next ends on (in_hour i j) = record { hour_below = on.hour_below; minute_below = omega arith; second_below = omega arith }
time_on time next ends on (in_day i j k) = record { hour_below = omega arith; minute_below = omega arith; second_below = omega arith }
time_on time next ends on (midnight i j k) = record { hour_below = omega arith; minute_below = omega arith; second_below = omega arith }

-- "23:59:59 .. is followed by 00:00:00"
pub midnight_follows : (time : Time) → ends_day time ≡ true → second_later time ≡ timed 0 0 0
midnight_follows time = go (ends_day time) (second_later time) (tick time)
  where
    go : (ends : Bool) (next : Time) → Tick time ends next → ends ≡ true → next ≡ timed 0 0 0
    go _ _ (in_minute i) is = never (cc)
    go _ _ (in_hour i j) is = never (cc)
    go _ _ (in_day i j k) is = never (cc)
    go _ _ (midnight i j k) is = refl

-- "23:59:59 on 31 December 2099 is followed by 00:00:00 on 1 January 2000"
pub last_second_followed : next_second (moment (dated 99 12 31) (timed 23 59 59)) ≡ moment (dated 0 1 1) (timed 0 0 0)
unfolding computing_clock
last_second_followed = refl

-- the second behind a moment that exists exists
pub next_exists : (m : Moment) → moment_exists m ≡ true → moment_exists (next_second m) ≡ true
unfolding next_second
next_exists m is =
    let on = (moment_exists_exactly m).0 is in
    (moment_exists_exactly (moment (cond (ends_day m.time) (tomorrow m.date) m.date) (second_later m.time))).1
    (date_on (ends_day m.time) on.0, time_on m.time (second_later m.time) (ends_day m.time) on.1 (tick m.time))
  where
    date_on : (ends : Bool) → OnCalendar m.date → OnCalendar (cond ends (tomorrow m.date) m.date)
    date_on true on = (date_exists_exactly (tomorrow m.date)).0 (tomorrow_exists m.date ((date_exists_exactly m.date).1 on))
    date_on false on = on

-- and so does the n-th
pub later_exists : (n : ℕ) (m : Moment) → moment_exists m ≡ true → moment_exists (later n m) ≡ true
unfolding later
later_exists zero m is = is
later_exists (suc n) m is = next_exists (later n m) (later_exists n m is)

-- ---- seconds counted

-- a time's number is below a day's count of seconds
pub second_of_day_below : (time : Time) → time_exists time ≡ true → second_of_day time < day_seconds
unfolding second_of_day
second_of_day_below time is = let on = (time_exists_exactly time).0 is in omega arith

module _ (m : Moment) (is : moment_exists m ≡ true) where
  date_is : date_exists m.date ≡ true
  date_is = (date_exists_exactly m.date).1 ((moment_exists_exactly m).0 is).0

  day_below : day_number m.date < century_days
  day_below = day_number_below m.date date_is

  time_below : second_of_day m.time < day_seconds
  time_below = second_of_day_below m.time ((time_exists_exactly m.time).1 ((moment_exists_exactly m).0 is).1)

-- a moment's number is below the century's count of seconds
pub second_number_below : (m : Moment) → moment_exists m ≡ true → second_number m < century_seconds
unfolding second_number
second_number_below m is = omega (arith, day_below m is, time_below m is)

same_day : (day second : ℕ) → day < century_days → suc second < day_seconds
    → day * day_seconds + suc second ≡ (day * day_seconds + second + 1) % century_seconds
same_day day second h i = omega arith

-- a day further, or at the beginning again
next_day : (day next second : ℕ) → day < century_days → next ≡ (day + 1) % century_days → second < day_seconds
    → next * day_seconds + second ≡ (day * day_seconds + second + day_seconds) % century_seconds
next_day day next second h e i = omega arith

-- the next second is one further, and "23:59:59 on 31 December 2099 is followed by 00:00:00 on 1 January 2000"
pub one_second_later : (m : Moment) → moment_exists m ≡ true → second_number (next_second m) ≡ (second_number m + 1) % century_seconds
unfolding second_number second_of_day next_second
one_second_later m is = go (ends_day m.time) (second_later m.time) ((moment_exists_exactly m).0 is).1 (tick m.time)
  where
    day : ℕ
    day = day_number m.date

    now : ℕ
    now = (m.time.hour * 60 + m.time.minute) * 60 + m.time.second

    go : (ends : Bool) (next : Time) → OnClock m.time → Tick m.time ends next
        → day_number (cond ends (tomorrow m.date) m.date) * day_seconds + ((next.hour * 60 + next.minute) * 60 + next.second)
        ≡ (day * day_seconds + now + 1) % century_seconds
    go ends next on (in_minute i) = omega (arith, same_day day now (day_below m is) (omega arith))
    go ends next on (in_hour i j) = omega (arith, same_day day now (day_below m is) (omega arith))
    go ends next on (in_day i j k) = omega (arith, same_day day now (day_below m is) (omega arith))
    go ends next on (midnight i j k) =
        let full : day * day_seconds + 0 + day_seconds ≡ day * day_seconds + now + 1 = omega arith in
        rw (← full) (next_day day (day_number (tomorrow m.date)) 0 (day_below m is) (one_day_later m.date (date_is m is)) (omega arith))

-- n seconds later the count is n further, modulo the century's
pub seconds_later : (m : Moment) → moment_exists m ≡ true → (n : ℕ) → second_number (later n m) ≡ (second_number m + n) % century_seconds
unfolding later
seconds_later m is zero = omega (arith, second_number_below m is)
seconds_later m is (suc n) =
    let before : second_number (later n m) ≡ (second_number m + n) % century_seconds = seconds_later m is n in
    let more : second_number m + n + 1 ≡ second_number m + suc n = omega arith in
    one_second_later (later n m) (later_exists n m is) ∙ rw (before, mod-add-mod, more)

-- ---- a day of seconds

-- days and seconds of the day are known from their sum
parts : (day other second rest : ℕ) → second < day_seconds → rest < day_seconds → day * day_seconds + second ≡ other * day_seconds + rest
    → (day ≡ other) × (second ≡ rest)
parts day other second rest h i e = let same : day ≡ other = omega arith in (same, omega arith)

-- the time is known from its second of the day
same_time : (a b : Time) → OnClock a → OnClock b → second_of_day a ≡ second_of_day b → a ≡ b
unfolding second_of_day
same_time a b on on' e =
    let hour : a.hour ≡ b.hour = omega arith in
    let minute : a.minute ≡ b.minute = omega arith in
    let second : a.second ≡ b.second = omega arith in
    made a.hour a.minute a.second b.hour b.minute b.second hour minute second
  where
    made : (h m s h' m' s' : ℕ) → h ≡ h' → m ≡ m' → s ≡ s' → timed h m s ≡ timed h' m' s'
    made h m s h' m' s' p q r = rw (p, q, r)

module _ (m : Moment) (is : moment_exists m ≡ true) where
  day_and_time : (n : ℕ) → n ≡ day_seconds
      → (day_number (later n m).date ≡ (day_number m.date + 1) % century_days) × (second_of_day (later n m).time ≡ second_of_day m.time)
  unfolding second_number
  day_and_time n e = parts (day_number l.date) next (second_of_day l.time) (second_of_day m.time) (time_below l l_is) (time_below m is) same
    where
      l : Moment
      l = later n m

      l_is : moment_exists l ≡ true
      l_is = later_exists n m is

      next : ℕ
      next = (day_number m.date + 1) % century_days

      same : day_number l.date * day_seconds + second_of_day l.time ≡ next * day_seconds + second_of_day m.time
      same =
          let sum : second_number l ≡ (day_number m.date * day_seconds + second_of_day m.time + n) % century_seconds = seconds_later m is n in
          sum ∙ rw e (sym (next_day (day_number m.date) next (second_of_day m.time) (day_below m is) refl (time_below m is)))

-- 86,400 seconds are a day, from any moment: the day is the next, and the time of day the same
pub a_day_is_86400_seconds : (m : Moment) → moment_exists m ≡ true
    → (day_number (later day_seconds m).date ≡ (day_number m.date + 1) % century_days) × ((later day_seconds m).time ≡ m.time)
a_day_is_86400_seconds m is = from day_seconds refl
  where
    from : (n : ℕ) → n ≡ day_seconds → (day_number (later n m).date ≡ (day_number m.date + 1) % century_days) × ((later n m).time ≡ m.time)
    from n e =
        let both = day_and_time m is n e in
        (both.0, same_time (later n m).time m.time ((moment_exists_exactly (later n m)).0 (later_exists n m is)).1 ((moment_exists_exactly m).0 is).1 both.1)

-- the count of seconds says the moment
pub same_second_number : (a b : Moment) → moment_exists a ≡ true → moment_exists b ≡ true → second_number a ≡ second_number b → a ≡ b
unfolding second_number
same_second_number a b a-is b-is e =
    let both = parts (day_number a.date) (day_number b.date) (second_of_day a.time) (second_of_day b.time) (time_below a a-is) (time_below b b-is) e in
    made a.date b.date a.time b.time (same_day_number a.date b.date (date_is a a-is) (date_is b b-is) both.0)
    (same_time a.time b.time ((moment_exists_exactly a).0 a-is).1 ((moment_exists_exactly b).0 b-is).1 both.1)
  where
    made : (d d' : Date) (t t' : Time) → d ≡ d' → t ≡ t' → moment d t ≡ moment d' t'
    made d d' t t' p q = rw (p, q)

-- a second first, and then n more
pub later_behind : (n : ℕ) (m : Moment) → later n (next_second m) ≡ later (suc n) m
unfolding later
later_behind zero m = refl
later_behind (suc n) m = ap next_second (later_behind n m)
