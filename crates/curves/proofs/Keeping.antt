-- What one channel's part becomes: the numbers that stay, moved to the front, and the new ones behind them.
use mathlib.Core.Path.{◌≡◌, sym, ap, ◌∙◌}
use mathlib.Core.List.{List, [], ◌∷◌, ◌++◌}
use Prim.Native.Nat.{ℕ, zero, suc, ◌+◌, ◌-◌, ◌≤◌, min}
use borrow.Rule.Slice.PartMut.{put_mid}
use native.Mathlib.Omega.{arith}
use lib.ListN.{length, take, drop, length-append, length-drop}
use lib.Seq.{length-take-le, take-nil, drop-nil}
use Rattle.wire.specs.Room.{over, lays}
use Rattle.wire.proofs.Over.{over_mid}
use Rattle.curves.specs.Area.{channel_words, latest}
use Rattle.curves.specs.Inner.{kept_in}

-- a part's end past the list's is the list's
take_least : (n : ℕ) (l : List ℕ) → take n l ≡ take (n - (n - length l)) l
take_least zero l =
    let none : zero - (zero - length l) ≡ zero = omega arith in
    rw none
take_least (suc n) [] = sym (take-nil (suc n - (suc n - 0)))
take_least (suc n) (x ∷ xs) =
    let one : suc n - (suc n - suc (length xs)) ≡ suc (n - (n - length xs)) = omega arith in
    rw one (ap (λ (rest : List ℕ). x ∷ rest) (take_least n xs))

drop_least : (n : ℕ) (l : List ℕ) → drop n l ≡ drop (n - (n - length l)) l
drop_least zero l =
    let none : zero - (zero - length l) ≡ zero = omega arith in
    rw none
drop_least (suc n) [] = sym (drop-nil (suc n - (suc n - 0)))
drop_least (suc n) (x ∷ xs) =
    let one : suc n - (suc n - suc (length xs)) ≡ suc (n - (n - length xs)) = omega arith in
    rw one (drop_least n xs)

pub drop_take : (m n : ℕ) (l : List ℕ) → drop m (take n l) ≡ take (n - m) (drop m l)
drop_take zero n l =
    let all : n - zero ≡ n = omega arith in
    rw all
drop_take (suc m) zero l =
    let none : zero - suc m ≡ zero = omega arith in
    rw none
drop_take (suc m) (suc n) [] = sym (take-nil (suc n - suc m))
drop_take (suc m) (suc n) (x ∷ xs) =
    let one : suc n - suc m ≡ n - m = omega arith in
    rw one (drop_take m n xs)

pub drop_append : (n : ℕ) (xs ys : List ℕ) → drop n (xs ++ ys) ≡ drop n xs ++ drop (n - length xs) ys
drop_append n [] ys =
    let all : n - 0 ≡ n = omega arith in
    rw (all, drop-nil n)
drop_append zero (x ∷ xs) ys =
    let none : zero - suc (length xs) ≡ zero = omega arith in
    rw none
drop_append (suc n) (x ∷ xs) ys =
    let one : suc n - suc (length xs) ≡ n - length xs = omega arith in
    rw one (drop_append n xs ys)

-- of `gone` numbers, `old` of those that the part has and `first` of the new ones
pub record Going (has rounds gone first old : ℕ) : Type 0 where
  fits : has ≤ channel_words
  sum : old + first ≡ gone
  few : old ≤ has
  fewer : first ≤ rounds
  stays : has - old + (rounds - first) ≡ has + rounds - gone
  least : old ≡ gone - (gone - has)
  past : first ≡ gone - has

going : (has rounds gone old : ℕ) → has ≤ channel_words → gone ≡ has + rounds - channel_words → old ≡ min gone has → Going has rounds gone (gone - old) old
going has rounds gone old fits is-gone is-old =
    let few : old ≤ has = omega arith in
    let fewer : gone - old ≤ rounds = omega arith in
    let sum : old + (gone - old) ≡ gone = omega arith in
    record { fits = fits; sum = sum; few = few; fewer = fewer; stays = omega arith; least = omega arith; past = omega arith }

-- the latest of the words of a part and what comes behind them: of those that go, first those that the part has
latest_of : (part new : List ℕ) (has gone first old : ℕ) → length part ≡ channel_words → gone ≡ has + length new - channel_words → Going has (length new) gone first old
    → latest (take has part ++ new) ≡ take (has - old) (drop old part) ++ drop first new
unfolding latest
latest_of part new has gone first old whole is-gone go =
    let long : length (take has part) ≡ has = length-take-le has part (rw whole go.fits) in
    let goes : length (take has part ++ new) - channel_words ≡ gone = rw (length-append (take has part) new, long) (sym is-gone) in
    let stays : drop gone (take has part) ≡ take (has - old) (drop old part) =
    drop_least gone (take has part) ∙ rw (long, ← go.least) (drop_take old has part) in
    let behind : gone - length (take has part) ≡ first = rw long (sym go.past) in
    rw (goes, drop_append gone (take has part) new, stays, behind)

-- `add_to`, a law for each goal
module _ (part new : List ℕ) (count held gone old : ℕ) (whole : length part ≡ channel_words) (is-held : held ≡ min count channel_words)
    (is-gone : gone ≡ held + length new - channel_words) (is-old : old ≡ min gone held) where
  goes : Going held (length new) gone (gone - old) old
  goes = going held (length new) gone old (omega arith) is-gone is-old

  abbrev stay : List ℕ
  stay = take (held - old) (drop old part)

  long_stay : length stay ≡ held - old
  long_stay =
      let room : held - old ≤ length (drop old part) = simp (length-drop, whole) (fits_less held old goes.fits) in
      length-take-le (held - old) (drop old part) room
    where
      fits_less : (a b : ℕ) → a ≤ channel_words → a - b ≤ channel_words - b
      fits_less a b h = omega arith

  held_words : take count part ≡ take held part
  held_words =
      let least : count - (count - channel_words) ≡ held = omega arith in
      take_least count part ∙ rw (whole, least)

  -- what stays, moved to the front, and the new numbers behind it
  pub kept : (moved run : List ℕ) → moved ≡ over stay part → run ≡ drop (gone - old) new
      → lays (held + length new - gone) (put_mid (held - old) (held + length new - gone - (held - old)) moved run) ≡ kept_in part (take count part ++ new)
  unfolding kept_in
  kept moved run is-moved is-run =
      let behind : length run ≡ held + length new - gone - (held - old) = rw (is-run, length-drop (gone - old) new) (omega (arith, goes.stays)) in
      let counted : length (stay ++ run) ≡ held + length new - gone = rw (length-append stay run, long_stay, behind) (omega (arith, goes.stays)) in
      let numbers : latest (take count part ++ new) ≡ stay ++ run = rw (held_words, is-run) (latest_of part new held gone (gone - old) old whole is-gone goes) in
      rw (numbers, counted) (ap (lays (held + length new - gone)) (over_mid stay run part moved (held - old) (held + length new - gone - (held - old)) long_stay behind is-moved))
