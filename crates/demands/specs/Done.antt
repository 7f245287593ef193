-- 01, "Numbers given back": "0: done". It is given exactly where none of the printed conditions holds.
use Rattle.std.specs.Prelude.{ℕ, ◌≡◌, true, List}
use Rattle.demands.specs.Demand1.{Condition, none_holds}

-- "Given exactly when": each of two facts follows from the other
pub record Exactly (given condition : Type 0) : Type 0 where
  pub only_when : given → condition
  pub wherever : condition → given

-- "0: done": the number given is 0 exactly where no condition of the list holds
abbrev pub DoneExactly : (number : ℕ) → List Condition → Type 0
DoneExactly number cs = Exactly (number ≡ 0) (none_holds cs ≡ true)
