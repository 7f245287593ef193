-- Laws of a block of bytes that decides nothing: given one after the other, they only come to stand behind those that are held.
use mathlib.Core.Path.{◌≡◌, refl, sym, ap, ◌∙◌}
use mathlib.Core.Bool.{Bool, true, false, ◌&&◌}
use mathlib.Core.List.{List, [], ◌∷◌, ◌++◌, append_assoc, append-nil}
use Prim.Native.Nat.{ℕ, suc, ◌+◌, ◌-◌, ◌≤◌, ◌<◌}
use native.Mathlib.Nat.{zero-add}
use native.Mathlib.Omega.{arith}
use native.Mathlib.Numerals.{one-add}
use borrow.Author.Tests.{lt-ltb}
use borrow.Rule.Slice.PartMut.{put_mid}
use lib.Dec.{ltb}
use lib.ListN.{length, get_or, take, drop, set, length-append, length-drop, take-append-drop}
use lib.Seq.{drop-cons, length-take-le, drop-drop}
use Rattle.wire.proofs.Parts.{part_whole}
use Rattle.frame.specs.Frame.{longest_frame}
use Rattle.reading.specs.Place.{Rules, wait, look}
use Rattle.reading.specs.Moves.{is_pass, passes, still_closed, settled}
use Rattle.place.specs.declared.Look.{Look}
use Rattle.place.specs.declared.Look.TheVariants.{Wait}
use Rattle.line.specs.declared.Line.{Line}
use Rattle.line.specs.declared.Reader.{Reader}
use Rattle.line.specs.declared.Gave.{Gave}
use Rattle.line.specs.Inner.{opened}
use Rattle.line.specs.State.{rules_for, padded}
use Rattle.line.specs.Methods.{takes, busy, given_byte, plus, given_bytes}
use Rattle.line.proofs.Padding.{take_padded, laid_behind, set_behind}
use Rattle.line.proofs.Blindness.{Blind, blind_more, blind_here}
use Rattle.line.proofs.Feeding.{more_left, taking, plus_plus, given_is, head_free}

settled_wait : (rules : Rules) (xs : List ℕ) → look rules false xs ≡ wait → settled rules false xs ≡ record { closed = false; bytes = xs }
unfolding settled still_closed passes is_pass
settled_wait rules [] waits = refl
settled_wait rules (x ∷ xs) waits = rw waits

block_fold : (line : Line) (xs block rest : List ℕ) (w : ℕ) → Blind (rules_for line) xs w → length (xs ++ block) < w → w ≤ longest_frame
    → given_bytes (opened line (padded longest_frame xs) (length xs) Wait) (block ++ rest)
    ≡ plus (length block) (given_bytes (opened line (padded longest_frame (xs ++ block)) (length (xs ++ block)) Wait) rest)
unfolding given_bytes
block_fold line xs [] rest w blind below few =
    rw (append-nil xs) (ap (λ (k : ℕ). record { used = k; reader = (given_bytes (opened line (padded longest_frame xs) (length xs) Wait) rest).reader })
    (sym (zero-add (given_bytes (opened line (padded longest_frame xs) (length xs) Wait) rest).used)))
block_fold line xs (b ∷ block) rest w blind below few =
    let long : length (xs ++ (b ∷ block)) ≡ length xs + suc (length block) = length-append xs (b ∷ block) in
    let room : length xs < longest_frame = omega arith in
    let shorter : length (xs ++ (b ∷ [])) < w = simp length-append (omega arith) in
    let free : busy (opened line (padded longest_frame xs) (length xs) Wait) ≡ false = rw (lt-ltb (length xs) longest_frame room) in
    let joined : (xs ++ (b ∷ [])) ++ block ≡ xs ++ (b ∷ block) = append_assoc xs (b ∷ []) block in
    let waits : look (rules_for line) false (xs ++ (b ∷ [])) ≡ wait = blind_here (rules_for line) xs (b ∷ []) w blind shorter in
    let given : (given_byte (opened line (padded longest_frame xs) (length xs) Wait) b).reader
    ≡ opened line (padded longest_frame (xs ++ (b ∷ []))) (length (xs ++ (b ∷ []))) Wait =
    given_is (opened line (padded longest_frame xs) (length xs) Wait) b free
    ∙ rw (take_padded longest_frame (length xs) xs refl, settled_wait (rules_for line) (xs ++ (b ∷ [])) waits, waits) in
    let ih = block_fold line (xs ++ (b ∷ [])) block rest w (blind_more (rules_for line) xs (b ∷ []) w blind) (rw joined below) few in
    rw (free, given, ih, joined)
    (plus_plus 1 (length block) (given_bytes (opened line (padded longest_frame (xs ++ (b ∷ block))) (length (xs ++ (b ∷ block))) Wait) rest)
    ∙ ap (λ (k : ℕ). plus k (given_bytes (opened line (padded longest_frame (xs ++ (b ∷ block))) (length (xs ++ (b ∷ block))) Wait) rest)) (one-add (length block)))

-- a block laid behind the bytes held
module _ (n k need : ℕ) (held bytes r : List ℕ) (below : k ≤ need - 1 - n) (known : n + 1 < need) (least : need ≤ longest_frame) (fits : k ≤ length bytes)
    (long : length held ≡ longest_frame) (front : held ≡ padded longest_frame (take n held))
    (is-r : r ≡ take k bytes) where
  pub block_laid : put_mid n (n + k - n) held r ≡ padded longest_frame (take n held ++ take k bytes)
  block_laid =
      let held_long : length (take n held) ≡ n = length-take-le n held (omega arith) in
      let as_long : n + k - n ≡ length (take k bytes) = omega (arith, length-take-le k bytes fits) in
      rw (is-r, as_long)
      (ap (λ (l : List ℕ). take n l ++ (take k bytes ++ drop (length (take k bytes)) (drop n l))) front
      ∙ laid_behind longest_frame n (take n held) (take k bytes) held_long)

module _ (line : Line) (bytes : List ℕ) (i n k need : ℕ) (held held' : List ℕ) (few : n ≤ longest_frame) (long : length held ≡ longest_frame)
    (front : held ≡ padded longest_frame (take n held)) (below : n + k < need) (least : need ≤ longest_frame)
    (fits : k ≤ length (take (length bytes - i) (drop i bytes)))
    (is : held' ≡ padded longest_frame (take n held ++ take k (take (length bytes - i) (drop i bytes)))) where
  abbrev block : List ℕ
  block = take k (take (length bytes - i) (drop i bytes))

  held_long : length (take n held) ≡ n
  held_long = length-take-le n held (omega arith)

  both_long : length (take n held ++ block) ≡ n + k
  both_long = length-append (take n held) block ∙ omega (arith, held_long, length-take-le k (take (length bytes - i) (drop i bytes)) fits)

  block_part : take (n + k) held' ≡ take n held ++ block
  block_part = rw is (take_padded longest_frame (n + k) (take n held ++ block) both_long)

  pub block_front : held' ≡ padded longest_frame (take (n + k) held')
  block_front = is ∙ ap (padded longest_frame) (sym block_part)

  pub block_blind : Blind (rules_for line) (take n held) need → Blind (rules_for line) (take (n + k) held') need
  block_blind blind = rw block_part (blind_more (rules_for line) (take n held) block need blind)

  pub block_inside : i ≤ length bytes → i + k ≤ length bytes
  block_inside inside = omega (arith, rest_long)
    where
      rest_long : length (take (length bytes - i) (drop i bytes)) ≡ length bytes - i
      rest_long = rw (part_whole bytes i) (length-drop i bytes)

  pub block_less : i ≤ length bytes → 0 < k → length bytes - (i + k) < length bytes - i
  block_less inside some = let h = block_inside inside in omega arith

  pub fed_block : (head : Look) (t : Bool) (start : Gave) → (ltb i (length bytes) && t) ≡ true → t ≡ takes n head
      → Blind (rules_for line) (take n held) need → start ≡ plus i (given_bytes (opened line held n head) (drop i bytes))
      → start ≡ plus (i + k) (given_bytes (opened line held' (n + k) Wait) (drop (i + k) bytes))
  fed_block head t start goes is-t blind so_far =
      let free : takes n head ≡ true = sym is-t ∙ taking i (length bytes) t goes in
      let more : i < length bytes = more_left i (length bytes) t goes in
      let any_head : given_bytes (opened line held n head) (drop i bytes) ≡ given_bytes (opened line held n Wait) (drop i bytes) =
      rw (drop-cons bytes i 0 more) (head_free line held n head (get_or bytes i 0) (drop (suc i) bytes) free) in
      let parts : drop i bytes ≡ block ++ drop (i + k) bytes =
      sym (take-append-drop k (drop i bytes)) ∙ rw (part_whole bytes i, drop-drop k i bytes) in
      let block-long : length block ≡ k = length-take-le k (take (length bytes - i) (drop i bytes)) fits in
      let same : opened line held n Wait ≡ opened line (padded longest_frame (take n held)) (length (take n held)) Wait = rw (← front, held_long) in
      let short : length (take n held ++ block) < need = omega (arith, both_long) in
      let ends : opened line (padded longest_frame (take n held ++ block)) (length (take n held ++ block)) Wait ≡ opened line held' (n + k) Wait =
      rw (← is, both_long) in
      so_far
      ∙ ap (plus i) (any_head ∙ ap (given_bytes (opened line held n Wait)) parts
      ∙ ap (λ (x : Reader). given_bytes x (block ++ drop (i + k) bytes)) same
      ∙ block_fold line (take n held) block (drop (i + k) bytes) need blind short least)
      ∙ plus_plus i (length block) (given_bytes (opened line (padded longest_frame (take n held ++ block)) (length (take n held ++ block)) Wait) (drop (i + k) bytes))
      ∙ rw (block-long, ends)

-- a byte of a block, behind those that are held
pub byte_behind : (n need : ℕ) (held bytes : List ℕ) → n + 1 < need → need ≤ longest_frame → 0 < length bytes → length held ≡ longest_frame → held ≡ padded longest_frame (take n held)
    → set held n (get_or bytes 0 0) ≡ padded longest_frame (take n held ++ take 1 bytes)
byte_behind n need held [] known least some long front = absurd (omega arith)
byte_behind n need held (b ∷ bytes) known least some long front =
    ap (λ (l : List ℕ). set l n b) front ∙ set_behind longest_frame n b (take n held) (length-take-le n held (omega arith)) (omega arith)
