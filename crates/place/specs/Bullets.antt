-- 01, "Reading the line", "At a place p": its four bullets as a list in their order, and what an answer says by it. 01 gives these answers no number, so
-- what is said is where reading goes and the values that the answer has.
use Rattle.std.specs.Prelude.{ℕ, suc, ◌+◌, Bool, false, cond, not, ◌&&◌, ◌||◌, List, [], ◌∷◌, eqb, ltb, length, get_or, take, drop}
use Rattle.wire.specs.Numbers.{Entry, ◌when◌, first_said}
use Rattle.frame.specs.Frame.{least_length, right_check}
use Rattle.reading.specs.Place.{Rules}
use Rattle.place.specs.declared.Look.{Look}
use Rattle.place.specs.declared.Look.TheVariants.{Pass, Wait, Bad, Good}
use Rattle.place.specs.declared.Stop.{Stop}

-- how many bytes reading goes on by from p, none where it waits; and what is named
pub record PlaceSaid : Type 0 where
  pub onward : ℕ
  pub values : List ℕ

-- builds one
abbrev pub go_by : (onward : ℕ) → (values : List ℕ) → PlaceSaid
go_by onward values = record { onward = onward; values = values }

-- each answer: of a bad check the command byte is named, of an accepted frame its L; "go to p+3+L" with the two header bytes
unfoldable pub look_said : (header : List ℕ) → Look → PlaceSaid
look_said header Pass = go_by 1 []
look_said header Wait = go_by 0 []
look_said header (Bad command) = go_by 1 (command ∷ [])
look_said header (Good l) = go_by (length header + 1 + l) (l ∷ [])

-- "byte p isn't H1, or byte p+1 isn't H2"
unfoldable pub other_header : (header xs : List ℕ) → Bool
other_header [] xs = false
other_header (h ∷ header) [] = false
other_header (h ∷ header) (x ∷ xs) = not (eqb x h) || other_header header xs

-- the bullets over what is behind the header, L first: "or L is below its least value: go to p+1, nothing reported"; "the stretch ends before the frame
-- that p would begin is whole: in an open stretch wait; in a closed one go to p+1, nothing reported"; "the frame is whole, checking is on and the check
-- bytes are wrong: report a bad check with the command byte, go to p+1"
unfoldable pub bullets : (other : Bool) → (checking closed : Bool) → List ℕ → List (Entry PlaceSaid)
bullets other checking closed xs =
    let l = get_or xs 0 0 in
    let body = take l (drop 1 xs) in
    (go_by 1 [] when (other || (ltb 0 (length xs) && ltb l (least_length checking))))
    ∷ (cond closed (go_by 1 []) (go_by 0 []) when ltb (length xs) (1 + l))
    ∷ (go_by 1 (get_or body 0 0 ∷ []) when not (right_check checking body))
    ∷ []

-- what is said at the first of these bytes, the rest of a stretch; "otherwise report an accepted frame .., go to p+3+L"
unfoldable pub place_said : Rules → (closed : Bool) → List ℕ → PlaceSaid
place_said rules closed xs =
    let behind = drop (length rules.header) xs in
    let l = get_or behind 0 0 in
    first_said (bullets (other_header rules.header xs) rules.checking closed behind) (go_by (length rules.header + 1 + l) (l ∷ []))

-- the place where going on stops, and what is said there
pub record StopSaid : Type 0 where
  pub place : ℕ
  pub said : PlaceSaid

-- builds one
abbrev pub stops_at : (place : ℕ) → PlaceSaid → StopSaid
stops_at place said = record { place = place; said = said }

-- each answer: the place, and what is said of it
unfoldable pub stop_said : (header : List ℕ) → Stop → StopSaid
stop_said header stop = stops_at stop.at (look_said header stop.look)

-- "go to p+1, nothing reported"
unfoldable pub is_passed : PlaceSaid → Bool
is_passed said = eqb said.onward 1 && eqb (length said.values) 0

-- the places from p on in their order: going on stops at the first that is not passed over
unfoldable pub places_listed : Rules → (closed : Bool) → (p : ℕ) → List ℕ → List (Entry StopSaid)
places_listed rules closed p [] = []
places_listed rules closed p (x ∷ xs) =
    let said = place_said rules closed (x ∷ xs) in
    (stops_at p said when not (is_passed said)) ∷ places_listed rules closed (suc p) xs

-- where all are passed over, the place behind the last byte waits for more
abbrev pub stop_listed : Rules → (closed : Bool) → List ℕ → StopSaid
stop_listed rules closed xs = first_said (places_listed rules closed 0 xs) (stops_at (length xs) (go_by 0 []))
