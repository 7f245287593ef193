-- Bytes past the end count as 0.
use mathlib.Core.Path.{◌≡◌, sym}
use mathlib.Core.List.{List}
use Prim.Native.Nat.{ℕ, ◌+◌, ◌≤◌}
use native.Mathlib.Omega.{arith}
use lib.ListN.{length, get_or, get_or-eq_default}
use Rattle.wire.specs.ByteOrder.{word_at}

pub byte_past_end : (bytes : List ℕ) (at : ℕ) → length bytes ≤ at → 0 ≡ get_or bytes at 0
byte_past_end bytes at past = sym (get_or-eq_default bytes 0 past)

pub word_past_end : (bytes : List ℕ) (at : ℕ) → length bytes ≤ at → 0 ≡ word_at bytes at
word_past_end bytes at past =
    let next : length bytes ≤ at + 1 = omega arith in
    rw (get_or-eq_default bytes 0 past, get_or-eq_default bytes 0 next)
