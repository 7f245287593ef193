-- Laws of the stores that lay header and length byte, and the check bytes.
use mathlib.Core.Path.{◌≡◌, sym, ap, ◌∙◌}
use mathlib.Core.Bool.{Bool, true, false}
use mathlib.Core.List.{List, [], ◌∷◌, ◌++◌, append-nil}
use Prim.Native.Nat.{ℕ, ◌+◌, ◌-◌, ◌^◌, ◌≤◌, ◌<◌}
use native.Mathlib.Nat.{add-zero}
use native.Mathlib.Omega.{arith}
use lib.ListN.{length, take, take-append-drop}
use borrow.Rule.Slice.PartMut.{put_mid}
use lib.Seq.{length-take-le}
use Rattle.std.specs.Int.{w16, byte_at, to_le_bytes}
use Rattle.wire.specs.ByteOrder.{low_byte, high_byte}
use Rattle.wire.specs.Room.{over}
use Rattle.wire.proofs.Over.{over_mid}
use Rattle.check_value.specs.CheckValue.{check_value}
use Rattle.frame.specs.Frame.{check_length, check_bytes}

-- what stands at the front is laid over itself
over_own : (n : ℕ) (room : List ℕ) → n ≤ length room → over (take n room) room ≡ room
unfolding over
over_own n room fits = rw (length-take-le n room fits, take-append-drop n room)

pub check_room : (checking : Bool) (n m : ℕ) → checking ≡ true → n + check_length checking ≤ m → n + 2 ≤ m
unfolding check_length
check_room checking n m is fits = rw is at fits

pub check_count : (checking : Bool) (n : ℕ) → checking ≡ true → n + 2 ≡ n + check_length checking
unfolding check_length
check_count checking n is = rw is

pub check_laid : (checking : Bool) (n value : ℕ) (body sent left : List ℕ) → checking ≡ true → n + check_length checking ≤ length body
    → value ≡ check_value (take n body) → value < 2 ^ 16 → sent ≡ to_le_bytes w16 value → left ≡ sent
    → put_mid n (n + 2 - n) body left ≡ over (take n body ++ check_bytes checking (take n body)) body
unfolding check_bytes
check_laid checking n value body sent left is fits v small r q =
    let low : ℕ = low_byte value in
    let high : ℕ = high_byte value in
    let whole : byte_at 1 value ≡ high = omega arith in
    let room : n + 2 ≤ length body = check_room checking n (length body) is fits in
    let two : length (low ∷ high ∷ []) ≡ n + 2 - n = omega arith in
    let same : low ∷ high ∷ [] ≡ check_bytes checking (take n body) = rw (is, v) in
    rw (q, r, whole) (over_mid (take n body) (low ∷ high ∷ []) body body n (n + 2 - n) (length-take-le n body (omega arith)) two (sym (over_own n body (omega arith))))
    ∙ ap (λ (s : List ℕ). over (take n body ++ s) body) same

pub none_count : (checking : Bool) (n : ℕ) → checking ≡ false → n ≡ n + check_length checking
unfolding check_length
none_count checking n is = rw (is, add-zero)

pub none_laid : (checking : Bool) (n : ℕ) (body : List ℕ) → checking ≡ false → n + check_length checking ≤ length body
    → body ≡ over (take n body ++ check_bytes checking (take n body)) body
unfolding check_bytes
none_laid checking n body is fits = sym (rw (is, append-nil) (over_own n body (omega arith)))
