-- 01, "Reading the line": "The line is a list of bytes and quiet marks. A quiet mark .. closes a stretch. The last stretch may be open."
use Rattle.std.specs.Prelude.{ℕ, true, false, List, [], ◌∷◌, ◌++◌}
use Rattle.reading.specs.Place.{Rules, Report}
use Rattle.reading.specs.Stretch.{reports}

-- "The line is a list of bytes and quiet marks."
pub data Input : Type 0 where
  byte : ℕ → Input
  mark : Input

-- "A quiet mark .. closes a stretch. The last stretch may be open.": the reports of the stretches in turn; `stretch` is what has come of the one that is open
unfoldable pub line_from : Rules → List ℕ → List Input → List Report
line_from rules stretch [] = reports rules false stretch
line_from rules stretch (byte b ∷ line) = line_from rules (stretch ++ (b ∷ [])) line
line_from rules stretch (mark ∷ line) = reports rules true stretch ++ line_from rules [] line

-- "the reading of all that was given": of a line from its first byte on
unfoldable pub line_reports : Rules → List Input → List Report
line_reports rules line = line_from rules [] line
