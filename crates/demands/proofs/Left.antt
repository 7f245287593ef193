-- A report waits exactly while one of the reading's reports is left, and 1 is given exactly under its condition where it is printed first.
use mathlib.Core.Path.{◌≡◌, refl, sym, ap, ◌∙◌}
use mathlib.Core.Bool.{Bool, true, false, cond, not, ◌&&◌}
use mathlib.Core.List.{List, [], ◌∷◌, ◌++◌, append-nil}
use Prim.Native.Nat.{suc, ◌+◌}
use native.Mathlib.Omega.{arith}
use borrow.Author.Tests.{eqb-false, not-true}
use lib.Dec.{eqb}
use lib.ListN.{length, length-append}
use Rattle.wire.specs.Numbers.{◌when◌, first_said}
use Rattle.reading.specs.Place.{Report}
use Rattle.reading.proofs.Stable.{true_is_not_false}
use Rattle.wire.proofs.Truths.{and_left, and_right}
use Rattle.touch.specs.declared.Setup.{Setup}
use Rattle.demands.specs.Calls.{Moment, Call, after_all, handed_over_all}
use Rattle.demands.specs.Reports.{report_waits}
use Rattle.demands.specs.AsRead.{still_to_hand, AsRead}
use Rattle.demands.specs.Demand1.{Condition, first_number}
use Rattle.demands.specs.Done.{Exactly}
use Rattle.demands.specs.Left.{OneIsLeft}

-- no number of a list is 1
unfoldable pub none_is_one : List Condition → Bool
none_is_one [] = true
none_is_one (c ∷ cs) = not (eqb c.said 1) && none_is_one cs

never_one : (cs : List Condition) → none_is_one cs ≡ true → first_number cs ≡ 1 → ⊥
unfolding none_is_one first_said
never_one [] none one = omega arith
never_one (c ∷ cs) none one = go c.holds (never_one cs (and_right (not (eqb c.said 1)) (none_is_one cs) none)) one
  where
    other : c.said ≡ 1 → ⊥
    other = eqb-false c.said 1 (not-true (eqb c.said 1) (and_left (not (eqb c.said 1)) (none_is_one cs) none))

    go : (holds : Bool) → (first_number cs ≡ 1 → ⊥) → cond holds c.said (first_number cs) ≡ 1 → ⊥
    go true later one = other one
    go false later one = later one

-- where 1 is printed first, it is given exactly where its condition holds
pub one_first : (holds : Bool) (cs : List Condition) → none_is_one cs ≡ true → Exactly (first_number ((1 when holds) ∷ cs) ≡ 1) (holds ≡ true)
unfolding first_said
one_first true cs none = record { only_when = λ one. refl; wherever = λ is. refl }
one_first false cs none = record { only_when = λ one. absurd (never_one cs none one); wherever = λ is. true_is_not_false (sym is) }

pub chained : {A B C : Type 0} → Exactly A B → Exactly B C → Exactly A C
chained one other = record { only_when = λ a. other.only_when (one.only_when a); wherever = λ c. one.wherever (other.wherever c) }

-- a report waits exactly while one is left
module _ (setup : Setup) (now : Moment) (calls : List Call) (read : AsRead setup now calls) where
  abbrev last : Moment
  last = after_all now calls

  abbrev handed_then : List Report → List Report
  handed_then l = handed_over_all now calls ++ l

  pub waits_left : Exactly (report_waits last.panel ≡ true) (OneIsLeft setup now calls)
  waits_left =
      record {
        only_when = λ waits. found waits (still_to_hand setup last.panel) refl;
        wherever = λ one. go one (report_waits last.panel) refl;
      }
    where
      found : report_waits last.panel ≡ true → (still : List Report) → still_to_hand setup last.panel ≡ still → OneIsLeft setup now calls
      found waits [] is =
          true_is_not_false
          (sym waits ∙ read.no_longer (sym (read.in_order ∙ ap handed_then is ∙ append-nil (handed_over_all now calls))))
      found waits (report ∷ later) is = record { report = report; later = later; left = read.in_order ∙ ap handed_then is }

      go : OneIsLeft setup now calls → (b : Bool) → report_waits last.panel ≡ b → b ≡ true
      go one true is = refl
      go one false is =
          let long : length (handed_over_all now calls) ≡ length (handed_over_all now calls) + suc (length one.later) =
          ap length (read.while_left is ∙ one.left) ∙ simp length-append in
          absurd (omega arith)
