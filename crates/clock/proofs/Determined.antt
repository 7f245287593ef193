-- One answer fits each public function.
use mathlib.Core.Path.{sym, ◌∙◌}
use Rattle.wire.specs.OneAnswer.{OneAnswer}
use Rattle.clock.proofs.Date.is_in_leap_year.Reads as is_in_leap_year
use Rattle.clock.proofs.Date.is_in_leap_year.Kinds as is_in_leap_year_kinds
use Rattle.clock.proofs.Date.day_number.Reads as day_number
use Rattle.clock.proofs.Date.day_number.Kinds as day_number_kinds
use Rattle.clock.proofs.Date.weekday.Reads as weekday
use Rattle.clock.proofs.Date.weekday.Kinds as weekday_kinds
use Rattle.clock.proofs.Date.exists.Reads as date_exists
use Rattle.clock.proofs.Date.exists.Kinds as date_exists_kinds
use Rattle.clock.proofs.Date.tomorrow.Reads as tomorrow
use Rattle.clock.proofs.Date.tomorrow.Kinds as tomorrow_kinds
use Rattle.clock.proofs.Time.exists.Reads as time_exists
use Rattle.clock.proofs.Time.exists.Kinds as time_exists_kinds
use Rattle.clock.proofs.Moment.exists.Reads as moment_exists
use Rattle.clock.proofs.Moment.exists.Kinds as moment_exists_kinds
use Rattle.clock.proofs.Moment.next.Reads as next
use Rattle.clock.proofs.Moment.next.Kinds as next_kinds
use Rattle.clock.proofs.digits.digits_of.Reads as digits_of
use Rattle.clock.proofs.digits.digits_of.Kinds as digits_of_kinds
use Rattle.clock.proofs.digits.number_of.Reads as number_of
use Rattle.clock.proofs.digits.number_of.Kinds as number_of_kinds
use Rattle.clock.proofs.showing.shown.Reads as shown
use Rattle.clock.proofs.showing.shown.Kinds as shown_kinds
use Rattle.clock.proofs.showing.date_in.Reads as date_in
use Rattle.clock.proofs.showing.date_in.Kinds as date_in_kinds
use Rattle.clock.proofs.showing.time_in.Reads as time_in
use Rattle.clock.proofs.showing.time_in.Kinds as time_in_kinds
use Rattle.clock.proofs.showing.moment_in.Reads as moment_in
use Rattle.clock.proofs.showing.moment_in.Kinds as moment_in_kinds
use Rattle.clock.proofs.showing.is_wrong.Reads as is_wrong
use Rattle.clock.proofs.showing.is_wrong.Kinds as is_wrong_kinds

pub is_in_leap_year_determined : OneAnswer 0 is_in_leap_year_kinds.ps is_in_leap_year_kinds.r is_in_leap_year.Post
is_in_leap_year_determined κs a x y s t p q = p ∙ sym q

pub day_number_determined : OneAnswer 0 day_number_kinds.ps day_number_kinds.r day_number.Post
day_number_determined κs a x y s t p q = p.0 ∙ sym q.0

pub weekday_determined : OneAnswer 0 weekday_kinds.ps weekday_kinds.r weekday.Post
weekday_determined κs a x y s t p q = p ∙ sym q

pub date_exists_determined : OneAnswer 0 date_exists_kinds.ps date_exists_kinds.r date_exists.Post
date_exists_determined κs a x y s t p q = p ∙ sym q

pub tomorrow_determined : OneAnswer 0 tomorrow_kinds.ps tomorrow_kinds.r tomorrow.Post
tomorrow_determined κs a x y s t p q = p ∙ sym q

pub time_exists_determined : OneAnswer 0 time_exists_kinds.ps time_exists_kinds.r time_exists.Post
time_exists_determined κs a x y s t p q = p ∙ sym q

pub moment_exists_determined : OneAnswer 0 moment_exists_kinds.ps moment_exists_kinds.r moment_exists.Post
moment_exists_determined κs a x y s t p q = p ∙ sym q

pub next_determined : OneAnswer 0 next_kinds.ps next_kinds.r next.Post
next_determined κs a x y s t p q = p ∙ sym q

pub digits_of_determined : OneAnswer 0 digits_of_kinds.ps digits_of_kinds.r digits_of.Post
digits_of_determined κs a x y s t p q = p ∙ sym q

pub number_of_determined : OneAnswer 0 number_of_kinds.ps number_of_kinds.r number_of.Post
number_of_determined κs a x y s t p q = p ∙ sym q

pub shown_determined : OneAnswer 0 shown_kinds.ps shown_kinds.r shown.Post
shown_determined κs a x y s t p q = p ∙ sym q

pub date_in_determined : OneAnswer 0 date_in_kinds.ps date_in_kinds.r date_in.Post
date_in_determined κs a x y s t p q = p ∙ sym q

pub time_in_determined : OneAnswer 0 time_in_kinds.ps time_in_kinds.r time_in.Post
time_in_determined κs a x y s t p q = p ∙ sym q

pub moment_in_determined : OneAnswer 1 moment_in_kinds.ps moment_in_kinds.r moment_in.Post
moment_in_determined κs a x y s t p q = p ∙ sym q

pub is_wrong_determined : OneAnswer 1 is_wrong_kinds.ps is_wrong_kinds.r is_wrong.Post
is_wrong_determined κs a x y s t p q = p ∙ sym q
