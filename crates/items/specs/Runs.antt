-- Line bytes that follow each other.
use Rattle.std.specs.Prelude.{ℕ, zero, suc, cond, List, [], ◌∷◌, eqb, length}
use Rattle.wire.specs.Room.{over, Laid, lays}

-- "01 a line byte": the bytes of the whole items of this kind at the front, at most so many
unfoldable pub line_run : ℕ → List ℕ → List ℕ
line_run zero input = []
line_run (suc n) [] = []
line_run (suc n) (kind ∷ []) = []
line_run (suc n) (kind ∷ b ∷ input) = cond (eqb kind 1) (b ∷ line_run n input) []

-- so many of them as a room holds, laid over its front
unfoldable pub gathered : List ℕ → List ℕ → Laid
gathered input room =
    let bytes = line_run (length room) input in
    lays (length bytes) (over bytes room)
