-- What is said of one kind of item.
use mathlib.Core.Path.{◌≡◌, refl}
use Rattle.items.specs.Items.{body_length}

-- 02, §6: "kind 06 without a body is the second"
pub second_has_no_body : body_length 6 ≡ 0
unfolding body_length
second_has_no_body = refl
