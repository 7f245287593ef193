-- One answer fits each public function.
use Rattle.std.proofs.Common.{sym, ◌∙◌}
use Rattle.wire.specs.OneAnswer.{OneAnswer}
use Rattle.line_bench.proofs.line_bench_chunks.Reads as line_bench_chunks
use Rattle.line_bench.proofs.line_bench_chunks.Kinds as line_bench_chunks_kinds
use Rattle.line_bench.proofs.line_bench_single.Reads as line_bench_single
use Rattle.line_bench.proofs.line_bench_single.Kinds as line_bench_single_kinds

pub line_bench_chunks_determined : OneAnswer 1 line_bench_chunks_kinds.ps line_bench_chunks_kinds.r line_bench_chunks.Post
line_bench_chunks_determined κs a x y s t p q = p ∙ sym q

pub line_bench_single_determined : OneAnswer 1 line_bench_single_kinds.ps line_bench_single_kinds.r line_bench_single.Post
line_bench_single_determined κs a x y s t p q = p ∙ sym q
