-- `clock::calendar::days_before_month` meets its contract: its items are the months' days.
use Rattle.std.proofs.Common.{rules, arith, ◌∙◌}
use borrow.Author.Tests.{tests}
use Rattle.std.proofs.lemmas.Iterator.{YieldsList-from_map, YieldsList-from_range}
use Rattle.std.proofs.lemmas.Iterator.Consumers.{sum_from_yields_List, fits_from_yields_list}
use Rattle.clock.specs.Calendar.{month_days}
use Rattle.clock.proofs.Answers.{months_summed, months_bounded}
use Rattle.clock.proofs.calendar.days_before_month.Goals as goal

pub sum-requires-clause-fits : goal.sum-requires-clause-fits
sum-requires-clause-fits c =
    fits_from_yields_list c.map.result _
    (YieldsList-from_map _ (month_days c.args.leap) (YieldsList-from_range 0 c.args.month c.args.month (cc) (omega arith)) c.map.ensures.closure (λ x r q k. search (rules, tests)))
    (rw (months_summed c.args.leap c.args.month) (omega (arith, months_bounded c.args.leap c.args.month)))

pub returns-clause-value : goal.returns-clause-value
returns-clause-value c =
    sum_from_yields_List c.map.result _ c.sum.ensures.ran
    (YieldsList-from_map _ (month_days c.args.leap) (YieldsList-from_range 0 c.args.month c.args.month (cc) (omega arith)) c.map.ensures.closure (λ x r q k. search (rules, tests)))
    ∙ months_summed c.args.leap c.args.month

pub returns-clause-upper_bound : goal.returns-clause-upper_bound
returns-clause-upper_bound c = omega (arith, returns-clause-value c, months_bounded c.args.leap c.args.month)
