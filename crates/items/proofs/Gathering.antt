-- Laws of runs of line bytes: how they are gathered over a room.
use mathlib.Core.Path.{◌≡◌, refl, sym, ap, ◌∙◌}
use mathlib.Core.List.{List, [], ◌∷◌, ◌++◌, append-nil, append_assoc}
use Prim.Native.Nat.{ℕ, zero, suc, ◌+◌, ◌*◌, ◌-◌, ◌/◌, ◌≤◌, ◌<◌, min}
use native.Mathlib.Nat.{sub-zero}
use native.Mathlib.Omega.{arith}
use borrow.Author.Tests.{ne_eqb}
use lib.ListN.{length, take, drop, get_or, set, length-drop}
use lib.Seq.{drop-cons, take-suc-set, length-take-le}
use Rattle.wire.specs.Room.{over, Laid, lays}
use Rattle.wire.proofs.Over.{over_nil, over_more, take_over, length_over}
use Rattle.items.specs.Runs.{line_run, gathered}

-- two bytes at the front: a kind and a line byte
pair_front : (input : List ℕ) (n : ℕ) → 2 * n + 1 < length input
    → drop (2 * n) input ≡ get_or input (2 * n) 0 ∷ get_or input (2 * n + 1) 0 ∷ drop (2 * (n + 1)) input
pair_front input n inside =
    let one : drop (2 * n) input ≡ get_or input (2 * n) 0 ∷ drop (suc (2 * n)) input = drop-cons input (2 * n) 0 (omega arith) in
    let two : drop (suc (2 * n)) input ≡ get_or input (suc (2 * n)) 0 ∷ drop (suc (suc (2 * n))) input = drop-cons input (suc (2 * n)) 0 (omega arith) in
    let a : suc (2 * n) ≡ 2 * n + 1 = omega arith in
    let b : suc (suc (2 * n)) ≡ 2 * (n + 1) = omega arith in
    one ∙ ap (λ (l : List ℕ). get_or input (2 * n) 0 ∷ l) two
    ∙ ap (λ (k : ℕ). get_or input (2 * n) 0 ∷ get_or input k 0 ∷ drop (suc (suc (2 * n))) input) a
    ∙ ap (λ (k : ℕ). get_or input (2 * n) 0 ∷ get_or input (2 * n + 1) 0 ∷ drop k input) b

run_front : (m kind b : ℕ) (rest : List ℕ) → kind ≡ 1 → line_run (suc m) (kind ∷ b ∷ rest) ≡ b ∷ line_run m rest
unfolding line_run
run_front m kind b rest is = rw is

run_none : (m kind b : ℕ) (rest : List ℕ) → (kind ≡ 1 → ⊥) → line_run (suc m) (kind ∷ b ∷ rest) ≡ []
unfolding line_run
run_none m kind b rest other = rw (ne_eqb kind 1 other)

run_over : (m : ℕ) (input : List ℕ) → min m (length input / 2) ≡ 0 → line_run m input ≡ []
unfolding line_run
run_over zero input none = refl
run_over (suc m) [] none = refl
run_over (suc m) (kind ∷ []) none = refl
run_over (suc m) (kind ∷ b ∷ rest) none = absurd (omega arith)

-- a run so far: what is gathered lies over the room, and with what is still to come it is the whole
pub record Gathering (input room run : List ℕ) (n : ℕ) : Type 0 where
  pub so_far : line_run (length room) input ≡ take n run ++ line_run (length room - n) (drop (2 * n) input)
  pub over_room : run ≡ over (take n run) room

pub run_begins : (input room : List ℕ) → Gathering input room room 0
run_begins input room =
    record {
      so_far = ap (λ (m : ℕ). line_run m input) (sym (sub-zero (length room)));
      over_room = sym (over_nil room);
    }

module _ (input room run : List ℕ) (n most : ℕ) (g : Gathering input room run n) (long : length run ≡ length room)
    (is-most : most ≡ min (length room) (length input / 2)) (within : n ≤ most) where
  front_long : length (take n run) ≡ n
  front_long = length-take-le n run (omega arith)

  whole_run : take n run ≡ line_run (length room) input → lays n run ≡ gathered input room
  unfolding gathered
  whole_run is =
      ap (λ (k : ℕ). lays k run) (sym front_long) ∙ ap (λ (l : List ℕ). lays (length (take n run)) l) g.over_room
      ∙ ap (λ (l : List ℕ). lays (length l) (over l room)) is

  module _ (more : n < most) where
    run_room : n < length run
    run_room = omega arith

    run_inside : 2 * n + 1 < length input
    run_inside = omega arith

    left_is : line_run (length room - n) (drop (2 * n) input)
        ≡ line_run (suc (length room - (n + 1))) (get_or input (2 * n) 0 ∷ get_or input (2 * n + 1) 0 ∷ drop (2 * (n + 1)) input)
    left_is =
        let a : length room - n ≡ suc (length room - (n + 1)) = omega arith in
        ap (λ (m : ℕ). line_run m (drop (2 * n) input)) a
        ∙ ap (λ (l : List ℕ). line_run (suc (length room - (n + 1))) l) (pair_front input n run_inside)

    pub run_stops : (get_or input (2 * n) 0 ≡ 1 → ⊥) → lays n run ≡ gathered input room
    run_stops other =
        whole_run
        (sym (g.so_far ∙ ap (λ (l : List ℕ). take n run ++ l)
        (left_is ∙ run_none (length room - (n + 1)) (get_or input (2 * n) 0) (get_or input (2 * n + 1) 0) (drop (2 * (n + 1)) input) other)
        ∙ append-nil (take n run)))

    module _ (is : get_or input (2 * n) 0 ≡ 1) (b : ℕ) (is_b : b ≡ get_or input (2 * n + 1) 0) where
      put : take (n + 1) (set run n b) ≡ take n run ++ (b ∷ [])
      put =
          let a : suc n ≡ n + 1 = omega arith in
          ap (λ (k : ℕ). take k (set run n b)) (sym a) ∙ take-suc-set run n b run_room

      further : line_run (length room) input ≡ take (n + 1) (set run n b) ++ line_run (length room - (n + 1)) (drop (2 * (n + 1)) input)
      further =
          let rest = line_run (length room - (n + 1)) (drop (2 * (n + 1)) input) in
          g.so_far
          ∙ ap (λ (l : List ℕ). take n run ++ l) (left_is ∙ run_front (length room - (n + 1)) (get_or input (2 * n) 0) (get_or input (2 * n + 1) 0) (drop (2 * (n + 1)) input) is)
          ∙ ap (λ (k : ℕ). take n run ++ (k ∷ rest)) (sym is_b)
          ∙ sym (append_assoc (take n run) (b ∷ []) rest)
          ∙ ap (λ (l : List ℕ). l ++ rest) (sym put)

      laid : set run n b ≡ over (take (n + 1) (set run n b)) room
      laid =
          ap (λ (l : List ℕ). set l n b) g.over_room
          ∙ over_more (take n run) room b n front_long (omega arith)
          ∙ ap (λ (l : List ℕ). over l room) (sym put)

      pub run_more : Gathering input room (set run n b) (n + 1)
      run_more =
          record {
            so_far = further;
            over_room = laid;
          }

  pub run_ends : most ≤ n → lays most run ≡ gathered input room
  run_ends all =
      let done : n ≡ most = omega arith in
      let none : min (length room - n) (length (drop (2 * n) input) / 2) ≡ 0 = rw length-drop (omega arith) in
      ap (λ (k : ℕ). lays k run) (sym done)
      ∙ whole_run (sym (g.so_far ∙ ap (λ (l : List ℕ). take n run ++ l) (run_over (length room - n) (drop (2 * n) input) none) ∙ append-nil (take n run)))

-- ---- For a room that is as long as the run that is wanted

pub gathered_run : (input room run : List ℕ) (n most : ℕ) → lays n run ≡ gathered input room → length room ≡ most → take n run ≡ line_run most input
unfolding gathered
gathered_run input room run n most is long =
    let counted : n ≡ length (line_run most input) = ap (λ (l : Laid). l.count) is ∙ ap (λ (k : ℕ). length (line_run k input)) long in
    ap (λ (l : Laid). take n l.room) is ∙ ap (λ (k : ℕ). take n (over (line_run k input) room)) long ∙ take_over (line_run most input) room n (sym counted)

pub gathered_long : (input room run : List ℕ) (n : ℕ) → lays n run ≡ gathered input room → n ≤ length room → length run ≡ length room
unfolding gathered
gathered_long input room run n is few =
    let counted : n ≡ length (line_run (length room) input) = ap (λ (l : Laid). l.count) is in
    ap (λ (l : Laid). length l.room) is ∙ length_over (line_run (length room) input) room (omega (arith, counted, few))
