-- `panel::starting::judge` meets its contract.
use Rattle.std.proofs.lemmas.Result.{err_from_is_err_and}
use Rattle.panel.proofs.Inputs.{setup_wrong, start_good, table_wrong}
use Rattle.panel.proofs.starting.judge.Goals as goal

pub returns-then-not-good_setup : goal.returns-then-not-good_setup
returns-then-not-good_setup c = search setup_wrong

pub returns-in_err-judge : goal.returns-in_err-judge
returns-in_err-judge c =
    let error = err_from_is_err_and c.from_residual.result c.from_residual.ensures.1 in
    rw (error.1, error.2)
    (table_wrong _ _ c.good_setup.result c.good_setup.ensures.value c.if-not-good_setup.false c.judge.result c.judge.ensures.value _ c.in_err-judge.was)

pub returns : goal.returns
returns c =
    start_good _ _ c.good_setup.result c.good_setup.ensures.value c.if-not-good_setup.false c.judge.result c.judge.ensures.value c.in_ok-judge.was
