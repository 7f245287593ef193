-- `frame::put_check` meets its contract.
use native.Mathlib.Omega.{arith}
use Rattle.frame.proofs.Prefix.{check_room, check_count, check_laid, none_count, none_laid}
use Rattle.frame.proofs.put_check.Goals as goal

pub returns-then-not-checking : goal.returns-then-not-checking
returns-then-not-checking c = search (none_count, none_laid)

pub slice_bounds-copy_from_slice-end : goal.slice_bounds-copy_from_slice-end
slice_bounds-copy_from_slice-end c =
    let room = check_room c.args.checking c.args.n _ c.if-not-checking.false c.requires in
    omega arith

pub returns : goal.returns
returns c = search (check_count, check_laid)
