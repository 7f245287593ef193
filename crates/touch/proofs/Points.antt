-- A point in a record's area is its own nearest place: what a slider stores there goes by the point itself.
use mathlib.Core.Path.{◌≡◌, sym}
use mathlib.Core.Bool.{Bool, true, false, ◌&&◌, cond}
use Prim.Native.Nat.{ℕ, ◌%◌}
use lib.Dec.{leb, eqb}
use borrow.Author.Tests.{leb-true}
use Rattle.stores.specs.Slider.{nearest}
use Rattle.stores.proofs.Slid.{near_inside}
use Rattle.touch.specs.declared.Area.{Area}
use Rattle.touch.specs.Record.{along, first_edge, last_edge}
use Rattle.touch.specs.Find.{in_area}
use Rattle.wire.proofs.Truths.{and_left, and_right}

pub inside_not_moved : (mode : ℕ) (a : Area) (x y : ℕ) → in_area a x y ≡ true
    → nearest (first_edge mode a) (last_edge mode a) (along mode x y) ≡ along mode x y
inside_not_moved mode a x y e = go (eqb (mode % 16) 0)
  where
    across : (leb a.xs x && leb x a.xe) ≡ true
    across =
        and_left (leb a.xs x && leb x a.xe) (leb a.ys y)
        (and_left (leb a.xs x && leb x a.xe && leb a.ys y) (leb y a.ye) e)

    go : (b : Bool) → nearest (cond b a.xs a.ys) (cond b a.xe a.ye) (cond b x y) ≡ cond b x y
    go true =
        sym (near_inside a.xs a.xe x (leb-true a.xs x (and_left (leb a.xs x) (leb x a.xe) across))
        (leb-true x a.xe (and_right (leb a.xs x) (leb x a.xe) across)))
    go false =
        sym (near_inside a.ys a.ye y
        (leb-true a.ys y
        (and_right (leb a.xs x && leb x a.xe) (leb a.ys y)
        (and_left (leb a.xs x && leb x a.xe && leb a.ys y) (leb y a.ye) e)))
        (leb-true y a.ye (and_right (leb a.xs x && leb x a.xe && leb a.ys y) (leb y a.ye) e)))
