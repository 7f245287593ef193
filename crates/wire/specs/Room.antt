-- 01, "Commands": "bytes past the reported count stay."
use Rattle.std.specs.Prelude.{ℕ, ◌+◌, Bool, cond, List, ◌++◌, length, take, drop}

-- "bytes past the reported count stay": the room with these bytes over its front, and what lies past them as it stood
unfoldable pub over : List ℕ → List ℕ → List ℕ
over bytes room = bytes ++ drop (length bytes) room

-- a list with a run laid over it from a place on, and the rest as it stood
unfoldable pub laid_at : ℕ → List ℕ → List ℕ → List ℕ
laid_at at run old = take at old ++ (run ++ drop (at + length run) old)

-- what an inner writer answers, the count of bytes laid, and the room as it leaves it
pub record Laid : Type 0 where
  pub count : ℕ
  pub room : List ℕ

-- builds one
abbrev pub lays : ℕ → List ℕ → Laid
lays count room = record { count = count; room = room }

-- a run that may stand there is laid whole; otherwise the room stays and the count is 0
unfoldable pub laid : Bool → List ℕ → List ℕ → Laid
laid may bytes room = cond may (lays (length bytes) (over bytes room)) (lays 0 room)
