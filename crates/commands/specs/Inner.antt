-- No public promise cites this file: what the judges and the layer of replies promise inside this crate.
use Rattle.std.specs.Prelude.{◌≡◌, ℕ, ◌≤◌, List, length, Result, Ok, Err}
use denote.Ref.{MutBor}
use Rattle.wire.specs.Room.{over}
use Rattle.commands.specs.declared.Refusal.{Refusal}
use Rattle.commands.specs.Outcome.{Outcome}

-- the outcome of a judge that hands on what it has read
abbrev pub outcome_of : {A : Type 0} → Result A Refusal → Outcome
outcome_of (Ok x) = Ok tt
outcome_of (Err refusal) = Err refusal

-- a call that is lent n bytes or more lays this run over their front
abbrev pub LaysRun : (MutBor (List ℕ) → ℕ → MutBor (List ℕ) → Type 0) → (n : ℕ) → (run : List ℕ) → Type 0
LaysRun gives n run = (part left : MutBor (List ℕ)) (laid : ℕ) → n ≤ length part.now → gives part laid left → left.now ≡ over run part.now
