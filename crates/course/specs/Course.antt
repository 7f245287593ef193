-- 01, "Reading the line": "Reading a stretch starts at its first byte", and goes from place to place. The course is the list of these places with what stands
-- at each; reports, held bytes and bytes passed over are read off it.
use Rattle.std.specs.Prelude.{ℕ, suc, ◌+◌, Bool, cond, List, [], ◌∷◌, ◌++◌, map, ltb, length, drop}
use Rattle.reading.specs.Place.{Rules, Seen, pass, wait, bad, accepted, Report, look, report_of, is_wait}
use Rattle.reading.specs.Stretch.{Placed, placed_at}
use Rattle.reading.specs.Moves.{is_report}

-- how far reading goes on from p: "go to p+1", "go to p+1", "go to p+3+L", the 3 being the two header bytes and the byte L; nowhere where it waits
unfoldable pub stride : Rules → Seen → ℕ
stride rules pass = 1
stride rules wait = 0
stride rules (bad body) = 1
stride rules (accepted body) = length rules.header + 1 + length body

-- "At a place p", counted from the stretch's first byte: the place, and which of the bullets holds there
pub record Step : Type 0 where
  pub place : ℕ
  pub seen : Seen

-- builds one
abbrev pub step_at : (p : ℕ) → Seen → Step
step_at p seen = record { place = p; seen = seen }

-- "At a place p": the steps from there on. `p` is the place of the first of these bytes, `next` the one that reading goes to: "go to p+1", "go to p+3+L". Where
-- a place waits, and where there are no more bytes, the course ends
unfoldable pub course_from : Rules → (closed : Bool) → (p next : ℕ) → List ℕ → List Step
course_from rules closed p next [] = []
course_from rules closed p next (x ∷ xs) =
    let seen = look rules closed (x ∷ xs) in
    let later = course_from rules closed (suc p) (p + stride rules seen) xs in
    cond (ltb p next) (course_from rules closed (suc p) next xs) (cond (is_wait seen) [] (step_at p seen ∷ later))

-- "Reading a stretch starts at its first byte."
unfoldable pub course : Rules → (closed : Bool) → List ℕ → List Step
course rules closed xs = course_from rules closed 0 0 xs

-- steps without their places: what was seen in each, which says how far it went
unfoldable pub seen_in : List Step → List Seen
seen_in [] = []
seen_in (step ∷ later) =
    let behind_it = seen_in later in
    step.seen ∷ behind_it

-- what was seen along the course of a stretch
unfoldable pub seen_along : Rules → (closed : Bool) → List ℕ → List Seen
seen_along rules closed xs = seen_in (course rules closed xs)

-- "report a bad check", "report an accepted frame": the reports of these steps, in order
unfoldable pub reports_in : Rules → List Seen → List Report
reports_in rules [] = []
reports_in rules (seen ∷ later) = report_of rules seen ++ reports_in rules later

-- "go to p+1": the bytes passed over, one in each step that does
unfoldable pub passed_in : List Seen → ℕ
passed_in [] = 0
passed_in (pass ∷ later) = 1 + passed_in later
passed_in (wait ∷ later) = passed_in later
passed_in (bad body ∷ later) = 1 + passed_in later
passed_in (accepted body ∷ later) = passed_in later

-- "go to p+3+L": the bytes inside accepted frames
unfoldable pub inside_in : Rules → List Seen → ℕ
inside_in rules [] = 0
inside_in rules (pass ∷ later) = inside_in rules later
inside_in rules (wait ∷ later) = inside_in rules later
inside_in rules (bad body ∷ later) = inside_in rules later
inside_in rules (accepted body ∷ later) = stride rules (accepted body) + inside_in rules later

-- "go to p+1", "go to p+3+L": how many bytes these steps go past together
unfoldable pub gone_past : Rules → List Seen → ℕ
gone_past rules [] = 0
gone_past rules (seen ∷ later) = stride rules seen + gone_past rules later

-- "Reading a stretch starts at its first byte.": its reports, as its course has them
unfoldable pub reports_along : Rules → (closed : Bool) → List ℕ → List Report
reports_along rules closed xs = reports_in rules (seen_along rules closed xs)

-- "in an open stretch wait; in a closed one go to p+1": what the course of a stretch leaves of it, the bytes from the waiting place on, or nothing
unfoldable pub held_after : Rules → (closed : Bool) → List ℕ → List ℕ
held_after rules closed xs = drop (gone_past rules (seen_along rules closed xs)) xs

-- "report a bad check", "report an accepted frame": the reports of these steps, each with its place
unfoldable pub placed_in : Rules → List Step → List Placed
placed_in rules [] = []
placed_in rules (step ∷ later) = map (placed_at step.place) (report_of rules step.seen) ++ placed_in rules later

-- "Reading a stretch starts at its first byte.": each report with its place, as its course has them
unfoldable pub placed_along : Rules → (closed : Bool) → List ℕ → List Placed
placed_along rules closed xs = placed_in rules (course rules closed xs)

-- "report a bad check", "report an accepted frame": the first of these steps that does, none where none does
unfoldable pub first_report : List Step → List Step
first_report [] = []
first_report (step ∷ later) = cond (is_report step.seen) (step ∷ []) (first_report later)

-- "At a place p": the next report of a stretch from there on, as reading finds it where it goes to p; none past the end
unfoldable pub next_report : Rules → (closed : Bool) → (p : ℕ) → List ℕ → List Step
next_report rules closed p xs = first_report (course_from rules closed p p (drop p xs))
