-- The figures that are printed for two header bytes, 257 and 258, are those of a header of any length.
use mathlib.Core.Path.{◌≡◌, refl}
use mathlib.Core.List.{List, [], ◌∷◌}
use Prim.Native.Nat.{ℕ, ◌+◌}
use native.Mathlib.Omega.{arith}
use Rattle.frame.specs.Frame.{longest_frame, longest_with}
use Rattle.reading.specs.Demand3.{one_less_than_longest}

-- "once 257 bytes have followed the damage"
pub two_bytes_257 : (h1 h2 : ℕ) → one_less_than_longest (h1 ∷ h2 ∷ []) ≡ 257
two_bytes_257 h1 h2 = refl

-- "a frame has 3 + L bytes, at most 258"
pub two_bytes_258 : (h1 h2 : ℕ) → longest_with (h1 ∷ h2 ∷ []) ≡ longest_frame
two_bytes_258 h1 h2 = refl

pub one_less : (header : List ℕ) → one_less_than_longest header + 1 ≡ longest_with header
one_less header = omega arith
