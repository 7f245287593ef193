-- 01: "For each public function the contract determines answer, new panel and every lent element on all inputs". Whatever two results, and two sets of lent
-- things as they are left, meet a contract on the same arguments, they are equal. `Post` is the contract as it is generated from the source, so nothing is
-- said here of a copy.
use Rattle.std.specs.Prelude.{◌≡◌, List, ℕ}
use borrow.Fn.Kinds.{ParamKind, ResultKind, Dens, Out, res_t, ended_of}
use contract.Lifetimes.{Lfts}
use denote.Triple.Clauses.{AtExit}

-- "no second answer would fit", for a function that changes nothing it was lent
abbrev pub OneAnswer : (n : ℕ) (ps : List (ParamKind n)) (r : ResultKind n) → Out n ps r → Type 0
OneAnswer n ps r Post =
    (κs : Lfts n) (a : Dens κs ps) (x y : (res_t r κs).Denot) (s t : AtExit (ended_of n ps r) κs) →
    Post κs a x s → Post κs a y t → x ≡ y

-- the same of "answer .. and every lent element", for one that changes what it was lent: `left` picks that out
abbrev pub OneAnswerLeft :
    (n : ℕ) (ps : List (ParamKind n)) (r : ResultKind n) → Out n ps r → {B : Type 0} (left : (κs : Lfts n) → AtExit (ended_of n ps r) κs → B) → Type 0
OneAnswerLeft n ps r Post left =
    (κs : Lfts n) (a : Dens κs ps) (x y : (res_t r κs).Denot) (s t : AtExit (ended_of n ps r) κs) →
    Post κs a x s → Post κs a y t → (x ≡ y) × (left κs s ≡ left κs t)
