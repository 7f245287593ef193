-- Laws of the loop that fills the room: what holds at each turn, that a step keeps it, and what it comes to.
use mathlib.Core.Path.{◌≡◌, refl, sym, ap, subst, ◌∙◌}
use mathlib.Core.Logic.{◌⊎◌, inl, inr}
use mathlib.Core.Bool.{Bool, true, false, ◌&&◌, ◌||◌}
use mathlib.Core.List.{List, [], ◌++◌, append_assoc, append-nil}
use Prim.Native.Nat.{ℕ, ◌+◌, ◌-◌, ◌≤◌, ◌<◌}
use native.Mathlib.Omega.{arith}
use borrow.Author.Tests.{leb-true, leb-false, ltb-true, ltb-false}
use lib.Dec.{leb, ltb}
use lib.ListN.{length, take, drop, length-append, length-drop}
use lib.Seq.{take-append-add, drop-drop, length-take-le}
use Rattle.wire.specs.Bytes.{Bytes}
use Rattle.wire.specs.Room.{over}
use Rattle.wire.proofs.Parts.{part_whole, part_end}
use Rattle.reading.proofs.ByteLists.{bytes_drop}
use Rattle.wire.proofs.Truths.{never, and_left, and_right, or_left, or_right}
use Rattle.telling.specs.Memory.{Memory}
use Rattle.telling.specs.Told.{least_text}
use Rattle.trace.specs.declared.Stepped.{Stepped}
use Rattle.trace.specs.declared.Trace.{Trace}
use Rattle.trace.specs.State.{Held, holds, waits, is_lent}
use Rattle.trace.specs.Steps.{Stepping, steps, stepping}
use Rattle.printing.specs.Reached.{HeldSound, output_from}
use Rattle.printing.proofs.ByTest.{by_test}
use Rattle.printing.proofs.Feeding.{CallOnward, call_onward, call_done}
use Rattle.panel_trace.specs.Inner.{calls_left, Filling}

-- so much of the input is taken, and its text fills so much of the room
pub record Going (before : Held) (input : List ℕ) (after : Held) (at filled : ℕ) (room : List ℕ) : Type 0 where
  pub bytes : Bytes input
  pub sound : HeldSound after
  pub within : at ≤ length input
  pub fits : filled ≤ length room
  pub prints : (rest : List ℕ) → output_from before (input ++ rest) ≡ take filled room ++ output_from after (drop at input ++ rest)
  -- nothing was done yet, or less is left
  pub moved : ((at ≡ 0) × (filled ≡ 0) × (after ≡ before)) ⊎ (calls_left after (drop at input) < calls_left before input)

pub begins : (before : Held) (input room : List ℕ) → Bytes input → HeldSound before → Going before input before 0 0 room
begins before input room are sound = record { bytes = are; sound = sound; within = omega arith; fits = omega arith; prints = λ rest. refl; moved = inl (refl, refl, refl) }

-- ---- One step

-- a step never counts more bytes than the room it leaves has
count_fits : (held : Held) (chunk part : List ℕ) → (stepping held chunk part).stepped.count ≤ length (stepping held chunk part).room
unfolding stepping over
count_fits held chunk part =
    by_test (λ (s : Stepping). s.stepped.count ≤ length s.room) (is_lent held part) _ _
    (λ lent. simp length-append (omega arith)) (λ refused. omega arith)

pub or_some : (a b w : Bool) → b ≡ w → (a || b) ≡ true → (w ≡ true) ⊎ (a ≡ true)
or_some true b w is so = inr refl
or_some false b w is so = inl (sym is ∙ so)

module _ (before : Held) (input : List ℕ) (trace : Trace) (table : List ℕ) (memory : Memory) (room : List ℕ) (at filled : ℕ)
    (going : Going before input (holds trace table memory) at filled room) where
  abbrev held : Held
  held = holds trace table memory

  module _ (r : Stepped) (table' : List ℕ) (memory' : Memory) (part' : List ℕ)
      (e : steps r table' memory' part' ≡ stepping held (take (length input - at) (drop at input)) (take (length room - filled) (drop filled room)))
      (waiting : Bool) (is_waiting : waiting ≡ waits trace)
      (so : (leb least_text (length room - filled) && (ltb at (length input) || waiting)) ≡ true) where
    abbrev chunk : List ℕ
    chunk = drop at input

    abbrev part : List ℕ
    part = drop filled room

    abbrev next : Stepping
    next = steps r table' memory' part'

    is_next : next ≡ stepping held chunk part
    is_next =
        e ∙ ap (λ (l : List ℕ). stepping held l (take (length room - filled) (drop filled room))) (part_whole input at)
        ∙ ap (λ (l : List ℕ). stepping held (drop at input) l) (part_whole room filled)

    lent : least_text ≤ length part
    lent = simp length-drop (leb-true least_text (length room - filled) (and_left (leb least_text (length room - filled)) (ltb at (length input) || waiting) so))

    on : (rest : List ℕ) → CallOnward held chunk rest next
    on rest =
        subst (λ (s : Stepping). CallOnward held chunk rest s) (sym is_next)
        (call_onward held chunk rest part going.sound (bytes_drop at input going.bytes) (call_done held chunk part going.sound lent))

    counted : r.count ≤ length part'
    counted = subst (λ (s : Stepping). s.stepped.count ≤ length s.room) (sym is_next) (count_fits held chunk part)

    some : (waits trace ≡ true) ⊎ (0 < length chunk)
    some = go (or_some (ltb at (length input)) waiting (waits trace) is_waiting (and_right (leb least_text (length room - filled)) (ltb at (length input) || waiting) so))
      where
        go : (waits trace ≡ true) ⊎ (ltb at (length input) ≡ true) → (waits trace ≡ true) ⊎ (0 < length (drop at input))
        go (inl is) = inl is
        go (inr is) = inr (simp length-drop (omega (arith, ltb-true at (length input) is)))

    -- the room as it comes back to the lender
    abbrev room' : List ℕ
    room' = take filled room ++ (part' ++ drop (length room - filled) (drop filled room))

    front : length (take filled room) ≡ filled
    front = length-take-le filled room going.fits

    room_is : room' ≡ take filled room ++ part'
    room_is = rw (part_end room filled, append-nil)

    text_is : take (filled + r.count) room' ≡ take filled room ++ take r.count part'
    text_is = ap (take (filled + r.count)) room_is ∙ ap (λ (n : ℕ). take (n + r.count) (take filled room ++ part')) (sym front) ∙ take-append-add (take filled room) part' r.count

    left_is : drop r.used chunk ≡ drop (at + r.used) input
    left_is = drop-drop r.used at input

    abbrev after : Held
    after = holds r.trace table' memory'

    prints_on : (rest : List ℕ) → output_from before (input ++ rest) ≡ take (filled + r.count) room' ++ output_from after (drop (at + r.used) input ++ rest)
    prints_on rest =
        going.prints rest
        ∙ ap (λ (l : List ℕ). take filled room ++ l) (on rest).prints
        ∙ sym (append_assoc (take filled room) (take r.count part') (output_from after (drop r.used chunk ++ rest)))
        ∙ ap (λ (l : List ℕ). l ++ output_from after (drop r.used chunk ++ rest)) (sym text_is)
        ∙ ap (λ (l : List ℕ). take (filled + r.count) room' ++ output_from after (l ++ rest)) left_is

    less : calls_left after (drop (at + r.used) input) < calls_left held (drop at input)
    less = rw (sym left_is) ((on []).nearer some)

    less_all : calls_left held (drop at input) ≤ calls_left before input
    less_all = go going.moved
      where
        go : ((at ≡ 0) × (filled ≡ 0) × (held ≡ before)) ⊎ (calls_left held (drop at input) < calls_left before input) → calls_left held (drop at input) ≤ calls_left before input
        go (inl first) =
            let same : calls_left held (drop at input) ≡ calls_left before input =
            ap (λ (n : ℕ). calls_left held (drop n input)) first.0 ∙ ap (λ (h : Held). calls_left h input) first.2 in
            omega (arith, same)
        go (inr l) = omega (arith, l)

    pub used_within : at + r.used ≤ length input
    used_within = omega (arith, (on []).within, length-drop at input, going.within)

    pub filled_within : filled + r.count ≤ length room'
    filled_within = rw room_is (omega (arith, length-append (take filled room) part', front, counted))

    -- the room comes back as long as it was
    pub count_within : length (take filled room ++ (part' ++ drop (length room - filled) (drop filled room))) ≡ length room → filled + r.count ≤ length room
    count_within same = omega (arith, filled_within, same)

    pub goes_on : Going before input (holds r.trace table' memory') (at + r.used) (filled + r.count)
        (take filled room ++ (part' ++ drop (length room - filled) (drop filled room)))
    goes_on = record { bytes = going.bytes; sound = (on []).sound; within = used_within; fits = filled_within; prints = prints_on; moved = inr (omega (arith, less, less_all)) }

    pub comes_nearer : calls_left (holds r.trace table' memory') (drop (at + r.used) input) < calls_left (holds trace table memory) (drop at input)
    comes_nearer = less

-- ---- The end of the loop

and_none : (a b : Bool) → (a && b) ≡ false → (a ≡ false) ⊎ (b ≡ false)
and_none true b is = inr is
and_none false b is = inl refl

pub fills : (before : Held) (input : List ℕ) (trace : Trace) (table : List ℕ) (memory : Memory) (room : List ℕ) (at filled : ℕ) → Going before input (holds trace table memory) at filled room
    → least_text ≤ length room → (waiting : Bool) → waiting ≡ waits trace → (leb least_text (length room - filled) && (ltb at (length input) || waiting)) ≡ false
    → Filling before input (holds trace table memory) at (take filled room)
fills before input trace table memory room at filled going enough waiting is_waiting none =
    record { sound = going.sound; within = going.within; prints = going.prints; nearer = λ busy. go busy going.moved }
  where
    go : (waits before.trace ≡ true) ⊎ (0 < length input)
        → ((at ≡ 0) × (filled ≡ 0) × (holds trace table memory ≡ before)) ⊎ (calls_left (holds trace table memory) (drop at input) < calls_left before input)
        → calls_left (holds trace table memory) (drop at input) < calls_left before input
    go any (inr l) = l
    go any (inl first) = absurd (idle any (and_none (leb least_text (length room - filled)) (ltb at (length input) || waiting) none))
      where
        idle : (waits before.trace ≡ true) ⊎ (0 < length input) → (leb least_text (length room - filled) ≡ false) ⊎ ((ltb at (length input) || waiting) ≡ false) → ⊥
        idle task (inl full) = omega (arith, leb-false least_text (length room - filled) full, first.1, enough)
        idle (inl is) (inr nothing) =
            let z : ◌≡◌ {A = Bool} true false =
            sym is ∙ ap (λ (h : Held). waits h.trace) (sym first.2) ∙ sym is_waiting ∙ or_right (ltb at (length input)) waiting nothing in
            never (cc)
        idle (inr long) (inr nothing) = omega (arith, ltb-false at (length input) (or_left (ltb at (length input)) waiting nothing), first.0, long)
