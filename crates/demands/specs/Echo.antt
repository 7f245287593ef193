-- Demand 3 where the damage is the panel's own acknowledgements: on a line of two wires it hears what it sends. 02, §1: "With its 02 an acknowledgement is no
-- good frame in demand 3." The theorems are in proofs/Echo.
use Rattle.std.specs.Prelude.{ℕ, ◌≤◌, ◌≡◌, List, [], ◌∷◌, ◌++◌, map, length}
use Rattle.reading.specs.Line as Line
use Rattle.reading.specs.Demand3.{one_less_than_longest, GoodFrames, joined, Cut, accepted_of}
use Rattle.reading.specs.Echo.{Sent, echo, BeginsNoneInside}
use Rattle.demands.specs.Calls.{Moment, Call, handed_over_all, AllTyped}
use Rattle.demands.specs.Reports.{rules_of}
use Rattle.demands.specs.Given.{given_all}
use Rattle.demands.specs.Demand3.{Ready, AllAskedFor, as_accepted}

-- What demand 3 supposes of a moment, of the calls made from then on and of the good frames that these give whole, the damage being the acknowledgements sent
-- and nothing being said of its places: once 257 bytes have followed them on a line still open
pub record EchoOnAnOpenLine (now : Moment) (calls : List Call) (sent : List Sent) (frames : List (List ℕ)) (tail : List ℕ) : Type 0 where
  pub ready : Ready now
  pub typed : AllTyped calls
  pub good : GoodFrames (rules_of now.panel) frames
  pub cut : Cut (rules_of now.panel) tail
  pub came : given_all now calls ≡ map Line.byte (echo (rules_of now.panel).header sent ++ (joined frames ++ tail))
  pub followed : one_less_than_longest (rules_of now.panel).header ≤ length (joined frames ++ tail)
  pub all_asked : AllAskedFor now calls

-- the same where ".. a quiet mark has come right behind a whole good frame, .."
pub record EchoBehindAMark (now : Moment) (calls : List Call) (sent : List Sent) (frames : List (List ℕ)) : Type 0 where
  pub ready : Ready now
  pub typed : AllTyped calls
  pub good : GoodFrames (rules_of now.panel) frames
  pub came : given_all now calls ≡ map Line.byte (echo (rules_of now.panel).header sent ++ joined frames) ++ (Line.mark ∷ [])
  pub all_asked : AllAskedFor now calls

-- ".. the frames accepted are exactly those good frames that had come whole, in order."
abbrev pub CostsNone : Moment → List Call → List (List ℕ) → Type 0
CostsNone now calls frames = accepted_of (handed_over_all now calls) ≡ as_accepted now frames

-- with any header: "If no place in the damage begins a run of bytes .. that is itself a good frame" has to be checked at the places inside the acknowledgements, and
-- at these only
pub record EchoCostsNone : Type 0 where
  pub open_line : (now : Moment) (calls : List Call) (sent : List Sent) (frames : List (List ℕ)) (tail : List ℕ) → EchoOnAnOpenLine now calls sent frames tail
      → BeginsNoneInside (rules_of now.panel) sent (joined frames ++ tail) → CostsNone now calls frames
  pub behind_a_mark : (now : Moment) (calls : List Call) (sent : List Sent) (frames : List (List ℕ)) → EchoBehindAMark now calls sent frames
      → BeginsNoneInside (rules_of now.panel) sent (joined frames) → CostsNone now calls frames

-- with header 5A A5 nothing has to be checked
pub record PrintedEchoCostsNone : Type 0 where
  pub open_line : (now : Moment) (calls : List Call) (sent : List Sent) (frames : List (List ℕ)) (tail : List ℕ) → EchoOnAnOpenLine now calls sent frames tail
      → (rules_of now.panel).header ≡ 0x5A ∷ 0xA5 ∷ [] → CostsNone now calls frames
  pub behind_a_mark : (now : Moment) (calls : List Call) (sent : List Sent) (frames : List (List ℕ)) → EchoBehindAMark now calls sent frames
      → (rules_of now.panel).header ≡ 0x5A ∷ 0xA5 ∷ [] → CostsNone now calls frames
