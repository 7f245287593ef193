-- One answer fits the public function.
use Rattle.std.proofs.Common.{ℕ, List, sym, ap, ◌∙◌}
use Rattle.wire.specs.OneAnswer.{OneAnswerLeft}
use Rattle.panel_bench.specs.Stream.{Streamed}
use Rattle.panel_bench.proofs.panel_bench_stream.Reads as panel_bench_stream
use Rattle.panel_bench.proofs.panel_bench_stream.Kinds as panel_bench_stream_kinds

pub panel_bench_stream_determined :
    OneAnswerLeft 4 panel_bench_stream_kinds.ps panel_bench_stream_kinds.r panel_bench_stream.Post {B = List ℕ × (List ℕ × List ℕ)}
    (λ κs s. (s.1.0.now, (s.1.1.0.now, s.1.1.1.0.now)))
panel_bench_stream_determined κs a x y s t p q =
    (ap (λ (d : Streamed). d.sum) (p ∙ sym q), ap (λ (d : Streamed). (d.lent.words, (d.lent.curves, d.lent.room))) (p ∙ sym q))
