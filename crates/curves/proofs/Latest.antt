-- Laws of `latest`: of numbers, the last 1,024, or all where there are fewer.
use mathlib.Core.Path.{◌≡◌, sym, ap, ◌∙◌}
use mathlib.Core.List.{List, ◌++◌}
use Prim.Native.Nat.{ℕ, ◌+◌, ◌-◌, ◌≤◌}
use Prim.Native.Nat.{min}
use native.Mathlib.Omega.{arith}
use lib.ListN.{length, drop, length-append, length-drop}
use lib.Seq.{drop-append-le, drop-drop}
use Rattle.curves.specs.Area.{channel_words, latest}

pub length_latest : (numbers : List ℕ) → length (latest numbers) ≡ min channel_words (length numbers)
unfolding latest
length_latest numbers = length-drop (length numbers - channel_words) numbers ∙ least (length numbers)
  where
    least : (n : ℕ) → n - (n - channel_words) ≡ min channel_words n
    least n = omega arith

pub latest_few : (numbers : List ℕ) → length (latest numbers) ≤ channel_words
latest_few numbers = omega (arith, length_latest numbers)

-- what was left out before stays out: the latest of all is the latest of what was kept and of what came
pub latest_latest : (numbers new : List ℕ) → latest (latest numbers ++ new) ≡ latest (numbers ++ new)
unfolding latest
latest_latest numbers new =
    let gone = length numbers - channel_words in
    let all = numbers ++ new in
    let kept : drop gone numbers ++ new ≡ drop gone all = sym (drop-append-le gone numbers new (omega arith)) in
    let long : length (drop gone all) ≡ length numbers + length new - gone = length-drop gone all ∙ ap (λ (n : ℕ). n - gone) (length-append numbers new) in
    rw (kept, long, drop-drop, length-append numbers new, whole (length numbers) (length new))
  where
    whole : (m n : ℕ) → m - channel_words + (m + n - (m - channel_words) - channel_words) ≡ m + n - channel_words
    whole m n = omega arith
