-- Parts of a lent slice, as the lender sees them.
use mathlib.Core.Path.{◌≡◌, sym}
use mathlib.Core.List.{List, []}
use Prim.Native.Nat.{ℕ, ◌-◌, ◌≤◌}
use native.Mathlib.Omega.{arith}
use lib.ListN.{length, take, drop, length-drop, drop_of_length-le}
use lib.Seq.{take_all, length-take-le}

-- the part from the front, `&s[..n]`
pub front_length : (n : ℕ) (l : List ℕ) → n ≤ length l → n ≡ length (take n l)
front_length n l fits = sym (length-take-le n l fits)

-- the part from a place on, `&s[n..]`, is what is left of the list, and nothing lies behind it
pub part_whole : (l : List ℕ) (n : ℕ) → take (length l - n) (drop n l) ≡ drop n l
part_whole l n =
    let all : length (drop n l) ≤ length l - n = simp length-drop (omega arith) in
    take_all (length l - n) (drop n l) all

pub part_end : (l : List ℕ) (n : ℕ) → drop (length l - n) (drop n l) ≡ []
part_end l n =
    let all : length (drop n l) ≤ length l - n = simp length-drop (omega arith) in
    drop_of_length-le (drop n l) all

-- the same of a list whose length is known
pub front_length_of : (n m : ℕ) (l : List ℕ) → length l ≡ m → n ≤ m → n ≡ length (take n l)
front_length_of n m l is fits = front_length n l (rw is fits)
