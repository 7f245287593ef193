-- Laws of the courses of a line: of its open stretch only what is left matters, and what they report is the reading of the line.
use mathlib.Core.Path.{◌≡◌, ap, ◌∙◌}
use mathlib.Core.Bool.{Bool, true, false}
use mathlib.Core.List.{List, [], ◌∷◌, ◌++◌, append_assoc, append-nil}
use Prim.Native.Nat.{ℕ}
use Rattle.reading.specs.Place.{Rules, Seen, Report}
use Rattle.reading.specs.Line.{Input, byte, mark, line_from}
use Rattle.reading.specs.Run.{closing, read_on}
use Rattle.reading.specs.Moves.{Kept}
use Rattle.course.specs.Course.{seen_along, reports_in, reports_along}
use Rattle.course.specs.Lines.{line_seen, seen_on}
use Rattle.course.proofs.Course.{Walks, reports_of}
use Rattle.course.proofs.ReadOff.{course_reports}
use Rattle.course.proofs.Appending.{walks_append}

module _ (rules : Rules) where
  open_line_walks : (these : List Seen) (xs ys : List ℕ) (line : List Input) → Walks rules false xs these ys
      → line_seen rules xs line ≡ these ++ line_seen rules ys line
  unfolding line_seen
  open_line_walks these xs ys [] walk = walk.along
  open_line_walks these xs ys (byte b ∷ line) walk =
      open_line_walks these (xs ++ (b ∷ [])) (ys ++ (b ∷ [])) line (walks_append rules false xs these ys (b ∷ []) walk)
  open_line_walks these xs ys (mark ∷ line) walk =
      let closed : Walks rules true xs these ys = rw (append-nil xs, append-nil ys) at (walks_append rules true xs these ys [] walk) in
      rw closed.along (append_assoc these (seen_along rules true ys) (line_seen rules [] line))

  -- a stretch that makes some steps and goes on as another does so with any line behind them, a mark first where it is closed
  pub line_walks : (closed : Bool) (these : List Seen) (xs ys : List ℕ) (line : List Input) → Walks rules closed xs these ys
      → line_seen rules xs (closing closed line) ≡ these ++ line_seen rules ys (closing closed line)
  unfolding line_seen closing
  line_walks true these xs ys line walk = rw walk.along (append_assoc these (seen_along rules true ys) (line_seen rules [] line))
  line_walks false these xs ys line walk = open_line_walks these xs ys line walk

-- what the courses report is the reading of the line
pub line_reads_off : (rules : Rules) (stretch : List ℕ) (line : List Input) → reports_in rules (line_seen rules stretch line) ≡ line_from rules stretch line
unfolding line_seen line_from reports_along
line_reads_off rules stretch [] = course_reports rules false stretch
line_reads_off rules stretch (byte b ∷ line) = line_reads_off rules (stretch ++ (b ∷ [])) line
line_reads_off rules stretch (mark ∷ line) =
    reports_of rules true (seen_along rules true stretch) (line_seen rules [] line)
    ∙ rw (line_reads_off rules [] line) (ap (λ (l : List Report). l ++ line_from rules [] line) (course_reports rules true stretch))

pub seen_reads_off : (rules : Rules) (kept : Kept) (line : List Input) → reports_in rules (seen_on rules kept line) ≡ read_on rules kept line
unfolding seen_on read_on
seen_reads_off rules kept line = line_reads_off rules kept.bytes (closing kept.closed line)
