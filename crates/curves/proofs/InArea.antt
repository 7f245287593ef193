-- A channel's part, put back into the area.
use mathlib.Core.Path.{◌≡◌, sym, ap, ◌∙◌}
use mathlib.Core.List.{List, ◌++◌, append_assoc}
use Prim.Native.Nat.{ℕ, ◌+◌, ◌-◌, ◌*◌, ◌≤◌, ◌<◌}
use native.Mathlib.Omega.{arith}
use borrow.Rule.Slice.PartMut.{put_mid}
use lib.ListN.{length, get_or, set, take, drop, length-drop, take-append-drop}
use lib.Seq.{drop-append-le, drop-drop, length-take-le}
use Rattle.wire.specs.Room.{over, laid_at, Laid, lays}
use Rattle.curves.specs.declared.Counts.{Counts}
use Rattle.curves.specs.Area.{channel_count, channel_words, curve_words, counting, count_of, part_of, held_by, latest, draws, on_channel}
use Rattle.curves.specs.Inner.{kept_in}
use Rattle.curves.proofs.Latest.{latest_few}

-- a run laid over the front of a part is laid in the whole
pub laid_part : (s old : List ℕ) (at n : ℕ) → length s ≤ n → at + n ≤ length old
    → take at old ++ (over s (take n (drop at old)) ++ drop n (drop at old)) ≡ laid_at at s old
unfolding over laid_at
laid_part s old at n few fits =
    let rest = drop at old in
    let long : length (take n rest) ≡ n = length-take-le n rest (simp length-drop (omega arith)) in
    let behind : drop (length s) (take n rest) ++ drop n rest ≡ drop (at + length s) old =
    sym (drop-append-le (length s) (take n rest) (drop n rest) (rw long few)) ∙ rw (take-append-drop n rest) (drop-drop (length s) at old) in
    rw (append_assoc s (drop (length s) (take n rest)) (drop n rest), behind)

-- `add_channel`: the channel's part in the area, and its count
pub part_back : (counts : Counts) (area new left : List ℕ) (n r : ℕ) → length area ≡ curve_words → n < channel_count
    → lays r left
    ≡ kept_in (take (n * 1024 + 1024 - n * 1024) (drop (n * 1024) area)) (take (get_or counts.each n 0) (take (n * 1024 + 1024 - n * 1024) (drop (n * 1024) area)) ++ new)
    → draws (counting (set counts.each n r)) (put_mid (n * 1024) (n * 1024 + 1024 - n * 1024) area left) ≡ on_channel n new (draws counts area)
unfolding kept_in on_channel held_by count_of part_of
part_back counts area new left n r whole inside e =
    let many : n * 1024 + 1024 - n * 1024 ≡ 1024 = omega arith in
    let from : channel_words * n ≡ n * 1024 = omega arith in
    let held = take (get_or counts.each n 0) (take 1024 (drop (n * 1024) area)) in
    let numbers = latest (held ++ new) in
    let e' : lays r left ≡ lays (length numbers) (over numbers (take 1024 (drop (n * 1024) area))) = rw many at e in
    rw (many, from)
    (ap (λ (l : Laid). draws (counting (set counts.each n l.count)) (take (n * 1024) area ++ (l.room ++ drop 1024 (drop (n * 1024) area)))) e'
    ∙ ap (draws (counting (set counts.each n (length numbers)))) (laid_part numbers area (n * 1024) 1024 (latest_few (held ++ new)) (omega arith)))
