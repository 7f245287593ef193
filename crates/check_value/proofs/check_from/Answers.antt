-- `check_value::check_from` meets its contract: pair by pair, and then the byte that may be left.
use mathlib.Core.Path.{◌≡◌, ◌∙◌}
use Prim.Native.Nat.{◌/◌}
use native.Mathlib.Omega.{arith}
use borrow.Author.Rules.{rules}
use lib.ListN.{length}
use Rattle.std.specs.List.{fold}
use Rattle.std.specs.Simd.{first_chunks}
use Rattle.check_value.specs.CheckValue.{byte_step}
use Rattle.check_value.proofs.ReadingOn.{pair_step, by_pairs}
use Rattle.check_value.proofs.check_from.Goals as goal

pub returns : goal.returns
returns c =
    let bytes = c.args.bytes.now in
    let pairs : c.fold-reached.result ≡ fold pair_step c.args.value (first_chunks 2 (length bytes / 2) bytes) = search rules in
    let last : c.fold.result ≡ fold byte_step c.fold-reached.result c.as_chunks.result.1.now = search rules in
    last ∙ by_pairs (length bytes / 2) c.args.value bytes _ _ pairs c.as_chunks.ensures.back (omega arith)
