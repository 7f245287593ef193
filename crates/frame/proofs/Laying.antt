-- How the parts of a frame, laid one behind the other over the front of a room, make the whole.
use mathlib.Core.Path.{◌≡◌, refl, sym, ap, ap₂, ◌∙◌}
use mathlib.Core.Bool.{Bool, true, false}
use mathlib.Core.List.{List, [], ◌∷◌, ◌++◌}
use Prim.Native.Nat.{ℕ, ◌+◌, ◌-◌, ◌≤◌}
use lib.ListN.{length, take, drop, set, length-append}
use borrow.Rule.Slice.PartMut.{put_mid}
use native.Mathlib.Omega.{arith}
use lib.Seq.{sets-eq}
use Rattle.wire.specs.Room.{over}
use Rattle.wire.proofs.Over.{over_part, over_mid, over_longer, take_over}
use Rattle.frame.specs.Frame.{check_length, check_bytes, enclosed}

first_laid : (b : ℕ) (room : List ℕ) → 1 ≤ length room → set room 0 b ≡ over (b ∷ []) room
unfolding over
first_laid b room fits = sets-eq (b ∷ []) room 0 fits

pub length_check_bytes : (checking : Bool) (content : List ℕ) → length (check_bytes checking content) ≡ check_length checking
unfolding check_bytes check_length
length_check_bytes true content = refl
length_check_bytes false content = refl

-- check bytes behind a content that was laid first
pub content_checked : (checking : Bool) (n : ℕ) (content room l r : List ℕ) → length content ≡ n → l ≡ over content room
    → r ≡ over (take n l ++ check_bytes checking (take n l)) l → r ≡ over (content ++ check_bytes checking content) room
content_checked checking n content room l r is p q =
    let front : take n l ≡ content = rw p (take_over content room n is) in
    q ∙ rw (front, p) (over_longer content (check_bytes checking content) room)

-- a command laid first, and its data copied behind it
pub command_laid : (command : ℕ) (payload room r : List ℕ) → 1 ≤ length room → r ≡ payload
    → put_mid 1 (1 + length payload - 1) (set room 0 command) r ≡ over (command ∷ payload) room
command_laid command payload room r fits q =
    let n : length payload ≡ 1 + length payload - 1 = omega arith in
    rw q (over_mid (command ∷ []) payload room (set room 0 command) 1 (1 + length payload - 1) refl n (first_laid command room fits))

pub length_prefix : (header : List ℕ) (l : ℕ) → length (header ++ (l ∷ [])) ≡ length header + 1
length_prefix header l = length-append header (l ∷ [])

pub length_enclosed : (checking : Bool) (header : List ℕ) (l : ℕ) (content : List ℕ)
    → length (enclosed checking header l content) ≡ length header + 1 + (length content + check_length checking)
unfolding enclosed
length_enclosed checking header l content =
    length-append (header ++ (l ∷ [])) (content ++ check_bytes checking content)
    ∙ ap₂ (λ (a b : ℕ). a + b) (length_prefix header l) (length-append content (check_bytes checking content) ∙ ap (λ (n : ℕ). length content + n) (length_check_bytes checking content))

-- header and length byte laid first, and the rest laid over the room's part behind them
pub enclosed_laid : (checking : Bool) (header : List ℕ) (l n : ℕ) (content room m r : List ℕ) → n ≡ length header
    → m ≡ over (header ++ (l ∷ [])) room → r ≡ over (content ++ check_bytes checking content) (take (length m - (n + 1)) (drop (n + 1) m))
    → take (n + 1) m ++ (r ++ drop (length m - (n + 1)) (drop (n + 1) m)) ≡ over (enclosed checking header l content) room
unfolding enclosed
enclosed_laid checking header l n content room m r is p q =
    over_part (header ++ (l ∷ [])) (content ++ check_bytes checking content) room m r (n + 1)
    (length_prefix header l ∙ ap (λ (k : ℕ). k + 1) (sym is)) p q
