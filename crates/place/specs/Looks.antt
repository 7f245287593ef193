-- What the code answers of a place, against `look` of crate reading.
use Rattle.std.specs.Prelude.{ℕ, Bool, List, length, get_or, drop}
use Rattle.frame.specs.Frame.{header_bytes}
use Rattle.frame.specs.declared.Header.{Header}
use Rattle.reading.specs.Place.{Rules, Seen, pass, wait, bad, accepted, look}
use Rattle.reading.specs.Moves.{passes, still_closed}
use Rattle.place.specs.declared.Look.{Look}
use Rattle.place.specs.declared.Look.TheVariants.{Pass, Wait, Bad, Good}
use Rattle.place.specs.declared.Stop.{Stop}

-- "Two header bytes H1 H2, fixed at setup", and the checking choice, as the reading takes them
abbrev pub rules_of : Header → Bool → Rules
rules_of header checking = record { header = header_bytes header; checking = checking }

-- what stands at a place, as the code tells it: of a bad frame its command byte, of an accepted one its L
abbrev pub shown : Seen → Look
shown pass = Pass
shown wait = Wait
shown (bad body) = Bad (get_or body 0 0)
shown (accepted body) = Good (length body)

-- the first place that is not passed over, and what stands there; where all are passed over, what comes next begins a new stretch or
-- goes on with an open one, so that the place behind the last byte waits
unfoldable pub stop_of : Rules → Bool → List ℕ → Stop
stop_of rules closed xs =
    let left = drop (passes rules closed xs) xs in
    record { at = passes rules closed xs; look = shown (look rules (still_closed closed left) left) }
