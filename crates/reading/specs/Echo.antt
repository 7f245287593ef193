-- 02, §1: "With its 02 an acknowledgement is no good frame in demand 3." On a line of two wires the panel hears what it sends, and its own acknowledgements are
-- then the damage that demand 3 speaks of.
use Rattle.std.specs.Prelude.{ℕ, ◌<◌, ◌≡◌, Bool, false, ◌&&◌, ◌||◌, List, [], ◌∷◌, ◌++◌, eqb, drop}
use Rattle.frame.specs.Acknowledgement.{acknowledgement}
use Rattle.reading.specs.Place.{Rules}
use Rattle.reading.specs.Demand3.{BeginsNone}

-- "each accepted frame is first answered by .. 0xFF ..; each bad check by the same with 0x00": what an acknowledgement answers
pub record Sent : Type 0 where
  pub command : ℕ
  pub accepted : Bool

-- its bytes
abbrev pub sent_bytes : (header : List ℕ) → Sent → List ℕ
sent_bytes header sent = acknowledgement header sent.command sent.accepted

-- such acknowledgements as they come back, one right behind the other
unfoldable pub echo : (header : List ℕ) → List Sent → List ℕ
echo header [] = []
echo header (sent ∷ later) = sent_bytes header sent ++ echo header later

-- their commands are bytes
abbrev pub CommandBytes : List Sent → Type 0
CommandBytes [] = Unit {0}
CommandBytes (sent ∷ later) = (sent.command < 256) × CommandBytes later

-- "no place in the damage begins a run of bytes, in it or reaching past it, that is itself a good frame": no place of an acknowledgement but its first, which
-- never begins one. Where the damage is an echo, this is what has to be checked; `come` is what has come behind it
abbrev pub BeginsNoneInside : Rules → List Sent → (come : List ℕ) → Type 0
BeginsNoneInside rules [] come = Unit {0}
BeginsNoneInside rules (sent ∷ later) come =
    BeginsNone rules (drop 1 (sent_bytes rules.header sent)) (echo rules.header later ++ come) × BeginsNoneInside rules later come

-- whether this byte stands first
unfoldable pub first_is : (byte : ℕ) → List ℕ → Bool
first_is byte [] = false
first_is byte (x ∷ xs) = eqb x byte

-- whether "Two header bytes H1 H2" stand side by side somewhere
unfoldable pub pair_in : (h1 h2 : ℕ) → List ℕ → Bool
pair_in h1 h2 [] = false
pair_in h1 h2 (x ∷ xs) = (eqb x h1 && first_is h2 xs) || pair_in h1 h2 xs

-- whether they do in an acknowledgement behind its first byte, or would with an H2 behind it
unfoldable pub header_inside : (h1 h2 : ℕ) → Sent → Bool
header_inside h1 h2 sent = pair_in h1 h2 (drop 1 (sent_bytes (h1 ∷ h2 ∷ []) sent) ++ (h2 ∷ []))

-- no acknowledgement of these has the header inside
abbrev pub NoHeaderInside : (h1 h2 : ℕ) → List Sent → Type 0
NoHeaderInside h1 h2 [] = Unit {0}
NoHeaderInside h1 h2 (sent ∷ later) = (header_inside h1 h2 sent ≡ false) × NoHeaderInside h1 h2 later
