-- What holds of both answers of a test holds of the answer.
use mathlib.Core.Path.{◌≡◌, refl}
use mathlib.Core.Bool.{Bool, true, false, cond}

pub by_test : {A : Type 0} (P : A → Type 0) (b : Bool) (c d : A) → (b ≡ true → P c) → (b ≡ false → P d) → P (cond b c d)
by_test P true c d p q = p refl
by_test P false c d p q = q refl
