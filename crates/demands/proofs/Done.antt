-- "0: done": given exactly where no condition of the printed list holds, because no number of a list is 0.
use mathlib.Core.Path.{◌≡◌, refl, sym, ◌∙◌}
use mathlib.Core.Bool.{Bool, true, false, cond, not, ◌&&◌}
use mathlib.Core.List.{List, [], ◌∷◌}
use Prim.Native.Nat.{ℕ, ◌<◌}
use native.Mathlib.Omega.{arith}
use borrow.Author.Tests.{ltb-true, not-true}
use lib.Dec.{ltb}
use Rattle.wire.specs.Numbers.{first_said}
use Rattle.wire.proofs.Truths.{and_left, and_right}
use Rattle.touch.specs.declared.Setup.{Setup}
use Rattle.demands.specs.Calls.{Moment, Call, lend, byte, bytes, mark, second, ask, contact, lift}
use Rattle.demands.specs.Demand1.{Condition, first_number, none_holds, printed, printed_start, printed_writer}
use Rattle.demands.specs.Done.{DoneExactly}

-- every number of a list is above 0
unfoldable pub all_above : List Condition → Bool
all_above [] = true
all_above (c ∷ cs) = ltb 0 c.said && all_above cs

-- "The first number in order whose condition holds is given"; where it is 0, there is none
done_only : (cs : List Condition) → all_above cs ≡ true → first_number cs ≡ 0 → none_holds cs ≡ true
unfolding all_above first_said none_holds
done_only [] above done = refl
done_only (c ∷ cs) above done = go c.holds (done_only cs (and_right (ltb 0 c.said) (all_above cs) above)) done
  where
    first_above : 0 < c.said
    first_above = ltb-true 0 c.said (and_left (ltb 0 c.said) (all_above cs) above)

    go : (holds : Bool) → (first_number cs ≡ 0 → none_holds cs ≡ true) → cond holds c.said (first_number cs) ≡ 0 → (not holds && none_holds cs) ≡ true
    go true later done = absurd (omega (arith, first_above))
    go false later done = later done

done_wherever : (cs : List Condition) → none_holds cs ≡ true → first_number cs ≡ 0
unfolding first_said none_holds
done_wherever [] none = refl
done_wherever (c ∷ cs) none =
    let off : c.holds ≡ false = not-true c.holds (and_left (not c.holds) (none_holds cs) none) in
    rw off (done_wherever cs (and_right (not c.holds) (none_holds cs) none))

-- a number that is the first of its list
pub done_exactly : (number : ℕ) (cs : List Condition) → all_above cs ≡ true → number ≡ first_number cs → DoneExactly number cs
done_exactly number cs above is =
    record { only_when = λ done. done_only cs above (sym is ∙ done); wherever = λ none. is ∙ done_wherever cs none }

-- no number of the printed lists is 0
pub printed_above : (now : Moment) (call : Call) → all_above (printed now call) ≡ true
unfolding all_above printed
printed_above now (lend lent) = refl
printed_above now (byte b) = refl
printed_above now (bytes bs) = refl
printed_above now mark = refl
printed_above now second = refl
printed_above now ask = refl
printed_above now (contact c) = refl
printed_above now lift = refl

pub start_above : (setup : Setup) (table : List ℕ) → all_above (printed_start setup table) ≡ true
unfolding all_above printed_start
start_above setup table = refl

pub writer_above : (checking : Bool) (payload room : List ℕ) → all_above (printed_writer checking payload room) ≡ true
unfolding all_above printed_writer
writer_above checking payload room = refl
