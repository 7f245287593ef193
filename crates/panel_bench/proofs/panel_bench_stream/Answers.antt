-- `panel_bench::panel_bench_stream` meets its contract.
use Rattle.std.proofs.Common.{arith}
use Rattle.panel_bench.proofs.Asks.{none_streamed}
use Rattle.panel_bench.proofs.Streaming.{ready_new, all_streamed}
use Rattle.panel_bench.proofs.panel_bench_stream.Goals as goal

pub returns-then-not-is_lent : goal.returns-then-not-is_lent
returns-then-not-is_lent c = search none_streamed

-- with the paths written out: a panel leaves more facts than a search looks at
pub stream_on-requires : goal.stream_on-requires
stream_on-requires c =
    let setup = c.bench_setup in
    let begun = c.start-started in (
      ready_new c.args.input.now _ _ _ setup.result begun.result setup.ensures begun.ensures.value c.is_lent.result c.is_lent.ensures c.if-not-is_lent.false,
      λ j. omega (arith, c.type_inv.input j),
    )

pub returns : goal.returns
returns c =
    let setup = c.bench_setup in
    let begun = c.start-started in
    all_streamed c.args.input.now _ _ _ setup.result begun.result setup.ensures begun.ensures.value c.stream_on.result _ c.stream_on.ensures
