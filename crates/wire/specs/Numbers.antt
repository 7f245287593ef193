-- 01, "Numbers given back": what an answer says, and the list by which it is given.
use Rattle.std.specs.Prelude.{ℕ, Bool, cond, List, [], ◌∷◌}

-- "a definition gives this paper's number and values for each of its cases"
pub record Said : Type 0 where
  pub number : ℕ
  -- what is named beside the number
  pub values : List ℕ

-- builds one
abbrev pub says : (number : ℕ) → (values : List ℕ) → Said
says number values = record { number = number; values = values }

-- an entry of one of 01's lists: what is said there, a number with its values or, where 01 has no number, values alone; and whether its condition holds
pub record Entry (A : Type 0) : Type 0 where
  pub said : A
  pub holds : Bool

-- builds one: this is said where that holds
infix 20 ◌when◌
abbrev pub ◌when◌ : {A : Type 0} → A → Bool → Entry A
said when holds = record { said = said; holds = holds }

-- an entry of the table
abbrev pub Listed : Type 0
Listed = Entry Said

-- "The first number in order whose condition holds is given"; where none holds, what is said then
unfoldable pub first_said : {A : Type 0} → List (Entry A) → (otherwise : A) → A
first_said [] otherwise = otherwise
first_said (l ∷ ls) otherwise = cond l.holds l.said (first_said ls otherwise)
