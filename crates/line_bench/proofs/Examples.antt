-- What is added up where a false frame falls with two good ones inside: its bad check, and 004's frame twice.
use Rattle.std.proofs.Common.{◌≡◌, ℕ, ◌+◌, true, List, [], ◌∷◌, ◌++◌, ap}
use Rattle.frame.specs.Frame.{header_bytes}
use Rattle.reading.specs.Place.{Report}
use Rattle.reading.proofs.Examples.{two_inside}
use Rattle.line_bench.specs.Sum.{weight_of, sum_of, wrapped, bench_sum}

abbrev frame : List ℕ
frame = 0x5A ∷ 0xA5 ∷ 0x05 ∷ 0x81 ∷ 0x00 ∷ 0x01 ∷ 0xE0 ∷ 0x28 ∷ []

pub two_inside_summed :
    bench_sum (record { h1 = 0x5A; h2 = 0xA5 }) true (0x5A ∷ 0xA5 ∷ 0x10 ∷ (frame ++ frame)) ≡ 0x5A + (65536 + 0x81 + 2 + 0x00) + (65536 + 0x81 + 2 + 0x00)
unfolding bench_sum sum_of weight_of header_bytes
two_inside_summed = ap (λ (these : List Report). wrapped (sum_of these)) two_inside
