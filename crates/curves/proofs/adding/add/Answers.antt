-- `curves::adding::add` meets its contract.
use Rattle.curves.proofs.Refusing.{begun, refused, wrong_area, all_added}
use Rattle.curves.proofs.adding.add.Goals as goal
use Rattle.curves.proofs.adding.add.Goals.{then-is_wrong-via-then-is_wrong, then-is_wrong-via-else-is_wrong+then-area-ne-CURVE_WORDS}

pub returns-then-is_wrong : goal.returns-then-is_wrong
returns-then-is_wrong c =
    elim c.then-is_wrong.branch [ then-is_wrong-via-then-is_wrong w ↦ search refused | then-is_wrong-via-else-is_wrong+then-area-ne-CURVE_WORDS w ↦ search wrong_area ]

pub slice_bounds-add_all-count : goal.slice_bounds-add_all-count
slice_bounds-add_all-count c = search begun

pub slice_bounds-add_all-start : goal.slice_bounds-add_all-start
slice_bounds-add_all-start c = search begun

pub returns : goal.returns
returns c = search all_added
