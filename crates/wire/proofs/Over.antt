-- Laws of `over`: how runs of bytes laid over the front of a room compose.
use mathlib.Core.Path.{◌≡◌, refl, sym, ap, ◌∙◌}
use mathlib.Core.Bool.{Bool, true, false, ◌&&◌}
use mathlib.Core.List.{List, [], ◌∷◌, ◌++◌, append_assoc, append-nil}
use Prim.Native.Nat.{ℕ, suc, ◌+◌, ◌-◌, ◌≤◌, ◌<◌}
use native.Mathlib.Omega.{arith}
use lib.ListN.{length, take, drop, set, get_or, length-append, length-drop}
use borrow.Rule.Slice.PartMut.{put_mid}
use lib.Seq.{take_at, drop_at, set_at, drop-cons, drop-drop, drop-append-add}
use Rattle.wire.specs.Room.{over, Laid, lays, laid}
use Rattle.wire.proofs.Parts.{part_whole, part_end}

pub over_nil : (room : List ℕ) → over [] room ≡ room
unfolding over
over_nil room = refl

pub length_over : (s room : List ℕ) → length s ≤ length room → length (over s room) ≡ length room
unfolding over
length_over s room fits = simp (length-append, length-drop) (omega arith)

pub take_over : (s room : List ℕ) (n : ℕ) → length s ≡ n → take n (over s room) ≡ s
unfolding over
take_over s room n is = take_at s (drop (length s) room) n is

pub drop_over : (s room : List ℕ) (n : ℕ) → length s ≡ n → drop n (over s room) ≡ drop n room
unfolding over
drop_over s room n is = drop_at s (drop (length s) room) n is ∙ ap (λ (k : ℕ). drop k room) is

-- one store right behind what has been laid
pub over_more : (s room : List ℕ) (b n : ℕ) → length s ≡ n → n < length room → set (over s room) n b ≡ over (s ++ (b ∷ [])) room
unfolding over
over_more s room b n is inside =
    let fits : length s < length room = omega arith in
    let one : length (s ++ (b ∷ [])) ≡ suc (length s) = simp length-append (omega arith) in
    rw (drop-cons room (length s) 0 fits, set_at s (get_or room (length s) 0) (drop (suc (length s)) room) b n is, one, append_assoc)

over_over : (s t room : List ℕ) → s ++ over t (drop (length s) room) ≡ over (s ++ t) room
unfolding over
over_over s t room = rw (drop-drop, length-append s t, append_assoc)

-- a second run laid over the room's part behind the first, as the part comes back to the lender
pub over_part : (s t room l r : List ℕ) (n : ℕ) → length s ≡ n → l ≡ over s room → r ≡ over t (take (length l - n) (drop n l))
    → take n l ++ (r ++ drop (length l - n) (drop n l)) ≡ over (s ++ t) room
over_part s t room l r n is p q =
    let front : take n l ≡ s = rw p (take_over s room n is) in
    let behind : drop n l ≡ drop (length s) room = rw p (drop_over s room n is ∙ ap (λ (k : ℕ). drop k room) (sym is)) in
    let laid : r ≡ over t (drop (length s) room) = q ∙ ap (over t) (part_whole l n ∙ behind) in
    rw (front, part_end l n, append-nil, laid) (over_over s t room)

-- a second run copied into just its place behind the first
pub over_mid : (s t room l : List ℕ) (i n : ℕ) → length s ≡ i → length t ≡ n → l ≡ over s room → put_mid i n l t ≡ over (s ++ t) room
unfolding over
over_mid s t room l i n is long p =
    let front : take i l ≡ s = rw p (take_over s room i is) in
    let behind : drop i l ≡ drop (length s) room = rw p (drop_over s room i is ∙ ap (λ (k : ℕ). drop k room) (sym is)) in
    rw (front, behind, ← long) (over_over s t room)

-- the same bytes laid again, with more behind them
pub over_longer : (s t room : List ℕ) → over (s ++ t) (over s room) ≡ over (s ++ t) room
unfolding over
over_longer s t room =
    let n : length (s ++ t) ≡ length s + length t = length-append s t in
    rw (n, drop-append-add s (drop (length s) room) (length t), drop-drop)

-- the tests that decide whether a run may be laid
pub and_true : (a b : Bool) → a ≡ true → b ≡ true → (a && b) ≡ true
and_true a b p q = rw (p, q)

pub left_false : (a b : Bool) → a ≡ false → (a && b) ≡ false
left_false a b p = rw p

pub right_false : (a b : Bool) → b ≡ false → (a && b) ≡ false
right_false true b p = p
right_false false b p = refl

-- laid whole, or not at all
pub laid_not : (may : Bool) (bytes room : List ℕ) → may ≡ false → lays 0 room ≡ laid may bytes room
unfolding laid
laid_not may bytes room is = rw is

pub laid_whole : (may : Bool) (now bytes room left : List ℕ) (count : ℕ) → may ≡ true → now ≡ bytes
    → count ≡ length now → left ≡ over now room → lays count left ≡ laid may bytes room
unfolding laid
laid_whole may now bytes room left count is same is-count is-left = rw (is, is-count, is-left, same)

-- what was laid where it may be
pub laid_left : (may : Bool) (bytes room left : List ℕ) (count : ℕ) → may ≡ true → lays count left ≡ laid may bytes room
    → (count ≡ length bytes) × (left ≡ over bytes room)
unfolding laid
laid_left may bytes room left count is e =
    let e' : lays count left ≡ lays (length bytes) (over bytes room) = e ∙ rw is in
    (ap (λ (l : Laid). l.count) e', ap (λ (l : Laid). l.room) e')
