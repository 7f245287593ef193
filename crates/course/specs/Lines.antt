-- 01, "Reading the line": "The line is a list of bytes and quiet marks. A quiet mark .. closes a stretch. The last stretch may be open.": the courses of a line.
use Rattle.std.specs.Prelude.{ℕ, suc, true, false, List, [], ◌∷◌, ◌++◌}
use Rattle.reading.specs.Place.{Rules, Seen}
use Rattle.reading.specs.Line.{Input, byte, mark}
use Rattle.reading.specs.Moves.{Kept}
use Rattle.reading.specs.Run.{closing}
use Rattle.course.specs.Course.{seen_along}

-- "A quiet mark .. closes a stretch. The last stretch may be open.": the courses of the stretches in turn; `stretch` is what has come of the one that is open
unfoldable pub line_seen : Rules → (stretch : List ℕ) → List Input → List Seen
line_seen rules stretch [] = seen_along rules false stretch
line_seen rules stretch (byte b ∷ line) = line_seen rules (stretch ++ (b ∷ [])) line
line_seen rules stretch (mark ∷ line) = seen_along rules true stretch ++ line_seen rules [] line

-- the courses of a line whose first stretch begins with what is kept
unfoldable pub seen_on : Rules → Kept → List Input → List Seen
seen_on rules kept line = line_seen rules kept.bytes (closing kept.closed line)

-- how many bytes are among these inputs
unfoldable pub bytes_in : List Input → ℕ
bytes_in [] = 0
bytes_in (byte b ∷ line) = suc (bytes_in line)
bytes_in (mark ∷ line) = bytes_in line
