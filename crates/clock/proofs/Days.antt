-- Laws of the calendar's days: which exist, that the next one does, and that it is one further in the count of days.
use mathlib.Core.Path.{◌≡◌, refl, ap}
use mathlib.Core.Bool.{Bool, true, false, cond, ◌&&◌}
use mathlib.Core.Logic.{◌⊎◌, inl, inr, ⊎_elim, ◌↔◌}
use Prim.Native.Nat.{ℕ, zero, suc, ◌+◌, ◌-◌, ◌%◌, ◌≤◌, ◌<◌}
use native.Mathlib.Nat.{eq-or-lt_of_le, le_of_suc-le-suc, le_refl, le_trans}
use native.Mathlib.Omega.{arith}
use Rattle.std.proofs.lemmas.Bool.Decides.{nat_tests}
use lib.Dec.{leb, ltb}
use borrow.Author.Tests.{ltb-true, ltb-false, lt-ltb, le-leb}
use Rattle.wire.proofs.EachBelow.{all_below, below_passes}
use Rattle.clock.specs.declared.Date.{Date}
use Rattle.clock.specs.Calendar.{leap_year, is_leap, month_lengths, month_days, days_before_month, days_before_year, day_number}
use Rattle.clock.specs.Existing.{date_exists}
use Rattle.clock.specs.Passing.{dated, tomorrow}
use Rattle.clock.specs.Counting.{century_days, OnCalendar}
use Rattle.clock.proofs.Answers.{no_month}

-- ---- months

no_month_0 : (leap : Bool) → month_days leap 0 ≡ 0
unfolding month_days
no_month_0 leap = refl

of_a_month : (leap : Bool) → all_below 12 (λ (m : ℕ). leb 28 (month_days leap (suc m)) && leb (month_days leap (suc m)) 31) ≡ true
unfolding all_below month_days month_lengths
of_a_month true = refl
of_a_month false = refl

-- a month has 28 to 31 days
pub month_days_within : (leap : Bool) (month : ℕ) → 1 ≤ month → month ≤ 12 → (28 ≤ month_days leap month) × (month_days leap month ≤ 31)
month_days_within leap zero from to = absurd (omega arith)
month_days_within leap (suc m) from to =
    let both = below_passes 12 (λ (n : ℕ). leb 28 (month_days leap (suc n)) && leb (month_days leap (suc n)) 31) (of_a_month leap) m (omega arith) in
    (grind (arith, nat_tests), grind (arith, nat_tests))

month_within : (leap : Bool) (month : ℕ) → 1 ≤ month_days leap month → (1 ≤ month) × (month ≤ 12)
month_within leap zero some = absurd (omega (arith, no_month_0 leap))
month_within leap (suc m) some = (omega arith, grind (arith, no_month leap (suc m)))

-- ---- dates that exist

-- `date_exists`, in numbers
pub date_exists_exactly : (date : Date) → (date_exists date ≡ true) ↔ OnCalendar date
unfolding date_exists
date_exists_exactly date = (on, back)
  where
    days : ℕ
    days = month_days (is_leap date) date.month

    on : (ltb date.year 100 && leb 1 date.day && leb date.day days) ≡ true → OnCalendar date
    on is =
        let some : 1 ≤ days = grind (arith, nat_tests) in
        let month = month_within (is_leap date) date.month some in
        record {
          in_century = grind (arith, nat_tests);
          from_january = month.0;
          to_december = month.1;
          from_first = grind (arith, nat_tests);
          to_last = grind (arith, nat_tests);
        }

    back : OnCalendar date → (ltb date.year 100 && leb 1 date.day && leb date.day days) ≡ true
    back on =
        rw (lt-ltb date.year 100 on.in_century, le-leb 1 date.day on.from_first, le-leb date.day days on.to_last)

-- ---- days counted

-- what does not fall from one number to the next falls nowhere
rising : (f : ℕ → ℕ) → ((n : ℕ) → f n ≤ f (suc n)) → (m n : ℕ) → m ≤ n → f m ≤ f n
rising f step m zero h = let none : m ≡ 0 = omega arith in rw none (le_refl (f 0))
rising f step m (suc n) h =
    ⊎_elim (λ same. rw same (le_refl (f (suc n)))) (λ less. le_trans (rising f step m n (le_of_suc-le-suc less)) (step n)) (eq-or-lt_of_le h)

next_month : (leap : Bool) (month : ℕ) → days_before_month leap (suc month) ≡ days_before_month leap month + month_days leap month
unfolding days_before_month
next_month leap month = refl

before_months_rise : (leap : Bool) (m n : ℕ) → m ≤ n → days_before_month leap m ≤ days_before_month leap n
before_months_rise leap m n h = rising (days_before_month leap) (λ month. omega (arith, next_month leap month)) m n h

before_january : (leap : Bool) → days_before_month leap 1 ≡ 0
unfolding days_before_month month_days
before_january leap = refl

next_year : (year : ℕ) → days_before_year (suc year) ≡ days_before_year year + days_before_month (leap_year (2000 + year)) 13
unfolding days_before_year
next_year year = refl

before_years_rise : (m n : ℕ) → m ≤ n → days_before_year m ≤ days_before_year n
before_years_rise m n h = rising days_before_year (λ year. omega (arith, next_year year)) m n h

-- "years 2000 to 2099" have so many days
pub century_days_lem : days_before_year 100 ≡ century_days
unfolding days_before_year days_before_month month_days month_lengths leap_year
century_days_lem = refl

-- how many days of its year come before a date
abbrev day_of_year : Date → ℕ
day_of_year date = days_before_month (is_leap date) date.month + (date.day - 1)

by_year : (date : Date) → day_number date ≡ days_before_year date.year + day_of_year date
unfolding day_number
by_year date = omega arith

module _ (date : Date) (on : OnCalendar date) where
  in_its_month : day_of_year date < days_before_month (is_leap date) (suc date.month)
  in_its_month = omega (arith, next_month (is_leap date) date.month)

  in_its_year : day_number date < days_before_year (suc date.year)
  in_its_year =
      omega (arith, by_year date, in_its_month, next_year date.year, before_months_rise (is_leap date) (suc date.month) 13 (omega arith))

  in_the_century : day_number date < century_days
  in_the_century = omega (arith, in_its_year, century_days_lem, before_years_rise (suc date.year) 100 (omega arith))

-- a date's number is below the century's count of days
pub day_number_below : (date : Date) → date_exists date ≡ true → day_number date < century_days
day_number_below date is = in_the_century date ((date_exists_exactly date).0 is)

-- ---- the next day

-- which day is the next
data Way (date : Date) : Date → Type 0 where
  in_month : date.day < month_days (is_leap date) date.month → Way date (dated date.year date.month (suc date.day))
  in_year : month_days (is_leap date) date.month ≤ date.day → date.month < 12 → Way date (dated date.year (suc date.month) 1)
  in_century : month_days (is_leap date) date.month ≤ date.day → 12 ≤ date.month → date.year < 99 → Way date (dated (suc date.year) 1 1)
  back : month_days (is_leap date) date.month ≤ date.day → 12 ≤ date.month → 99 ≤ date.year → Way date (dated 0 1 1)

way : (date : Date) → Way date (tomorrow date)
unfolding tomorrow
way date = go (ltb date.day days) refl (ltb date.month 12) refl (ltb date.year 99) refl
  where
    days : ℕ
    days = month_days (is_leap date) date.month

    go : (m : Bool) → ltb date.day days ≡ m → (y : Bool) → ltb date.month 12 ≡ y → (c : Bool) → ltb date.year 99 ≡ c
        → Way date (cond m (dated date.year date.month (suc date.day))
        (cond y (dated date.year (suc date.month) 1) (cond c (dated (suc date.year) 1 1) (dated 0 1 1))))
    go true p y q c r = in_month (ltb-true date.day days p)
    go false p true q c r = in_year (ltb-false date.day days p) (ltb-true date.month 12 q)
    go false p false q true r = in_century (ltb-false date.day days p) (ltb-false date.month 12 q) (ltb-true date.year 99 r)
    go false p false q false r = back (ltb-false date.day days p) (ltb-false date.month 12 q) (ltb-false date.year 99 r)

next_on : (date next : Date) → OnCalendar date → Way date next → OnCalendar next
next_on date next on (in_month h) = record { in_century = on.in_century; from_january = on.from_january; to_december = on.to_december; from_first = omega arith; to_last = h }
next_on date next on (in_year h i) =
    let some = month_days_within (is_leap date) (suc date.month) (omega arith) (omega arith) in
    record { in_century = on.in_century; from_january = omega arith; to_december = omega arith; from_first = omega arith; to_last = omega arith }
next_on date next on (in_century h i j) =
    let some = month_days_within (leap_year (2000 + suc date.year)) 1 (omega arith) (omega arith) in
    record { in_century = omega arith; from_january = omega arith; to_december = omega arith; from_first = omega arith; to_last = omega arith }
next_on date next on (back h i j) =
    let some = month_days_within (leap_year (2000 + 0)) 1 (omega arith) (omega arith) in
    record { in_century = omega arith; from_january = omega arith; to_december = omega arith; from_first = omega arith; to_last = omega arith }

-- the day behind a date that exists exists
pub tomorrow_exists : (date : Date) → date_exists date ≡ true → date_exists (tomorrow date) ≡ true
tomorrow_exists date is = (date_exists_exactly (tomorrow date)).1 (next_on date (tomorrow date) ((date_exists_exactly date).0 is) (way date))

before_2000 : days_before_year 0 ≡ 0
unfolding days_before_year
before_2000 = refl

-- the last of December is the last day before the next year
year_ends : (date : Date) → OnCalendar date → month_days (is_leap date) date.month ≤ date.day → 12 ≤ date.month
    → suc (day_number date) ≡ days_before_year (suc date.year)
year_ends date on h i =
    let december : date.month ≡ 12 = omega arith in
    let whole : days_before_month (is_leap date) (suc date.month) ≡ days_before_month (is_leap date) 13 = ap (λ m. days_before_month (is_leap date) (suc m)) december in
    omega (arith, by_year date, next_month (is_leap date) date.month, next_year date.year)

-- the count goes on by one, or begins again behind the last day
Counts : (date next : Date) → Type 0
Counts date next = (day_number next ≡ suc (day_number date)) ⊎ ((suc (day_number date) ≡ century_days) × (day_number next ≡ 0))

counts : (date next : Date) → OnCalendar date → Way date next → Counts date next
unfolding Counts
counts date next on (in_month h) = inl (omega (arith, by_year date, by_year (dated date.year date.month (suc date.day))))
counts date next on (in_year h i) =
    inl (omega (arith, by_year date, by_year (dated date.year (suc date.month) 1), next_month (is_leap date) date.month))
counts date next on (in_century h i j) =
    let first = dated (suc date.year) 1 1 in
    inl (omega (arith, year_ends date on h i, by_year first, before_january (is_leap first)))
counts date next on (back h i j) =
    let last : date.year ≡ 99 = omega arith in
    let whole : days_before_year (suc date.year) ≡ days_before_year 100 = ap (λ y. days_before_year (suc y)) last in
    inr (omega (arith, year_ends date on h i, century_days_lem), omega (arith, by_year (dated 0 1 1), before_january (is_leap (dated 0 1 1)), before_2000))

-- the next day is one further, and "31 December 2099 is followed by .. 1 January 2000"
pub one_day_later : (date : Date) → date_exists date ≡ true → day_number (tomorrow date) ≡ (day_number date + 1) % century_days
unfolding Counts
one_day_later date is = go (counts date (tomorrow date) ((date_exists_exactly date).0 is) (way date))
  where
    go : Counts date (tomorrow date) → day_number (tomorrow date) ≡ (day_number date + 1) % century_days
    go (inl on) = omega (arith, day_number_below (tomorrow date) (tomorrow_exists date is))
    go (inr (last, first)) = omega arith

-- ---- a date from its number

-- of what does not fall, a number lies between one value and the next at one place only
one_place : (f : ℕ → ℕ) → ((m n : ℕ) → m ≤ n → f m ≤ f n) → (a b x y : ℕ) → x ≡ y → f a ≤ x → x < f (suc a) → f b ≤ y → y < f (suc b) → a ≡ b
one_place f rise a b x y e h i j k = grind (arith, rise (suc a) b, rise (suc b) a)

same_in_year : (year month day month' day' : ℕ) → OnCalendar (dated year month day) → OnCalendar (dated year month' day')
    → day_number (dated year month day) ≡ day_number (dated year month' day') → dated year month day ≡ dated year month' day'
same_in_year year month day month' day' on on' e =
    let a = dated year month day in
    let b = dated year month' day' in
    let leap = leap_year (2000 + year) in
    let same : day_of_year a ≡ day_of_year b = omega (arith, by_year a, by_year b) in
    let is-month : month ≡ month' =
    one_place (days_before_month leap) (before_months_rise leap) month month' (day_of_year a) (day_of_year b) same (omega arith) (in_its_month a on) (omega arith)
    (in_its_month b on')
    in
    let before : days_before_month leap month ≡ days_before_month leap month' = ap (days_before_month leap) is-month in
    let is-day : day ≡ day' = omega (arith, on.from_first, on'.from_first) in
    rw (is-month, is-day)

-- the count of days says the date
pub same_day_number : (a b : Date) → date_exists a ≡ true → date_exists b ≡ true → day_number a ≡ day_number b → a ≡ b
same_day_number a b a-is b-is e = go a.year year ((date_exists_exactly a).0 a-is) e
  where
    on_b : OnCalendar b
    on_b = (date_exists_exactly b).0 b-is

    year : a.year ≡ b.year
    year =
        one_place days_before_year before_years_rise a.year b.year (day_number a) (day_number b) e (omega (arith, by_year a))
        (in_its_year a ((date_exists_exactly a).0 a-is)) (omega (arith, by_year b)) (in_its_year b on_b)

    go : (y : ℕ) → y ≡ b.year → OnCalendar (dated y a.month a.day) → day_number (dated y a.month a.day) ≡ day_number b → dated y a.month a.day ≡ b
    go y is on same = rw is (same_in_year b.year a.month a.day b.month b.day (rw is at on) on_b (rw is at same))
