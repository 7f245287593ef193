-- 01, "Reading the line": what stands at one place p of a stretch.
use Rattle.std.specs.Prelude.{ℕ, ◌+◌, Bool, true, false, cond, List, [], ◌∷◌, eqb, ltb, length, get_or, take, drop}
use Rattle.frame.specs.Frame.{least_length, content_of, right_check}

-- "Two header bytes H1 H2, fixed at setup", a list here so that there may be one byte or two, and whether checking is on
pub record Rules : Type 0 where
  pub header : List ℕ
  pub checking : Bool

-- "At a place p": the four that can stand there. `body` is the L bytes behind the length byte.
pub data Seen : Type 0 where
  pass : Seen
  wait : Seen
  bad : List ℕ → Seen
  accepted : List ℕ → Seen

-- "the stretch ends before the frame that p would begin is whole: in an open stretch wait; in a closed one go to p+1, nothing reported"
unfoldable pub cut_short : Bool → Seen
cut_short false = wait
cut_short true = pass

-- "the frame is whole, checking is on and the check bytes are wrong: report a bad check .. otherwise report an accepted frame"
unfoldable pub decided_by_check : Bool → List ℕ → Seen
decided_by_check checking body = cond (right_check checking body) (accepted body) (bad body)

-- behind the header: ".. or L is below its least value: go to p+1"; then whether the frame is whole; then its check bytes
unfoldable pub after_header : Bool → Bool → List ℕ → Seen
after_header checking closed [] = cut_short closed
after_header checking closed (l ∷ xs) =
    cond (ltb l (least_length checking)) pass (cond (ltb (length xs) l) (cut_short closed) (decided_by_check checking (take l xs)))

-- "byte p isn't H1, or byte p+1 isn't H2 ..: go to p+1, nothing reported", over what is left of the header
unfoldable pub behind : Bool → Bool → List ℕ → List ℕ → Seen
behind checking closed [] xs = after_header checking closed xs
behind checking closed (h ∷ header) [] = cut_short closed
behind checking closed (h ∷ header) (x ∷ xs) = cond (eqb x h) (behind checking closed header xs) pass

-- "At a place p": what stands at the first of these bytes, the rest of a stretch that is closed or open
unfoldable pub look : Rules → Bool → List ℕ → Seen
look rules closed xs = behind rules.checking closed rules.header xs

-- "report a bad check with the command byte"; "report an accepted frame with its command and data"
pub data Report : Type 0 where
  bad_check : (command : ℕ) → Report
  accepted_frame : (command : ℕ) (content : List ℕ) → Report

-- "nothing reported"; "report a bad check with the command byte"; "report an accepted frame with its command and data"
unfoldable pub report_of : Rules → Seen → List Report
report_of rules pass = []
report_of rules wait = []
report_of rules (bad body) = bad_check (get_or body 0 0) ∷ []
report_of rules (accepted body) = accepted_frame (get_or body 0 0) (drop 1 (content_of rules.checking body)) ∷ []

-- how many bytes behind p are gone past as well: none where reading goes "to p+1", header and L bytes where it goes "to p+3+L"
unfoldable pub gone_by : Rules → Seen → ℕ
gone_by rules pass = 0
gone_by rules wait = 0
gone_by rules (bad body) = 0
gone_by rules (accepted body) = length rules.header + length body

-- "in an open stretch wait": whether a place does
unfoldable pub is_wait : Seen → Bool
is_wait pass = false
is_wait wait = true
is_wait (bad body) = false
is_wait (accepted body) = false
