-- `line::arrays::packed` meets its contract.
use Rattle.frame.specs.Frame.{longest_frame}
use Rattle.line.proofs.Padding.{copied_empty, zeros_empty}
use Rattle.line.proofs.arrays.packed.Goals as goal

pub returns : goal.returns
returns c = copied_empty longest_frame c.args.s.now c.zeros-out.result _ (zeros_empty _ _ c.zeros-out.ensures) (rw c.copy_from_slice.ensures.after)
