-- Demand 3: the words in which it is stated, over the reading of 01.
use Rattle.std.specs.Prelude.{ℕ, suc, ◌+◌, ◌<◌, ◌≡◌, true, false, List, [], ◌∷◌, ◌++◌, length, get_or, drop}
use Rattle.frame.specs.Frame.{content_of, GoodFrame}
use Rattle.reading.specs.Place.{Rules, Report, bad_check, accepted_frame}
use Rattle.reading.specs.Moves.{Kept, waiting}

-- "A good frame is a whole one with the header set up": under these rules
abbrev pub Good : Rules → List ℕ → Type 0
Good rules frame = GoodFrame rules.checking rules.header frame

-- "good frames"
pub data GoodFrames (rules : Rules) : List (List ℕ) → Type 0 where
  none : GoodFrames rules []
  next : {frame : List ℕ} {frames : List (List ℕ)} → Good rules frame → GoodFrames rules frames → GoodFrames rules (frame ∷ frames)

-- "end to end, unbroken by a mark"
unfoldable pub joined : List (List ℕ) → List ℕ
joined [] = []
joined (frame ∷ frames) = frame ++ joined frames

-- "good frames that had come whole": what has come of the one behind them that has not, perhaps nothing
pub record Cut (rules : Rules) (tail : List ℕ) : Type 0 where
  pub frame : List ℕ
  pub good : Good rules frame
  pub rest : List ℕ
  pub parts : frame ≡ tail ++ rest
  pub missing : 0 < length rest

-- "no place in the damage begins a run of bytes, in it or reaching past it, that is itself a good frame"; `come` is what has come behind the damage
abbrev pub BeginsNone : Rules → List ℕ → List ℕ → Type 0
BeginsNone rules damage come =
    (p : ℕ) → p < length damage → (frame rest : List ℕ) → drop p (damage ++ come) ≡ frame ++ rest → Good rules frame → ⊥

-- "once 257 bytes have followed the damage on a line still open": one less than the longest frame, whatever the header's length
abbrev pub one_less_than_longest : List ℕ → ℕ
one_less_than_longest header = length header + 255

-- "the frames accepted"
unfoldable pub accepted_of : List Report → List Report
accepted_of [] = []
accepted_of (bad_check command ∷ later) = accepted_of later
accepted_of (accepted_frame command content ∷ later) = accepted_frame command content ∷ accepted_of later

-- "an accepted frame with its command and data", as they stand in its bytes
unfoldable pub report_of_frame : Rules → List ℕ → Report
report_of_frame rules frame =
    let body = drop (suc (length rules.header)) frame in
    accepted_frame (get_or body 0 0) (drop 1 (content_of rules.checking body))

-- "nothing is held or waiting"
abbrev pub NothingHeldOrWaiting : Rules → Kept → Type 0
NothingHeldOrWaiting rules kept = (kept.bytes ≡ []) × (waiting rules kept ≡ false)

-- "Checking is on", with two header bytes
abbrev pub checked : ℕ → ℕ → Rules
checked h1 h2 = record { header = h1 ∷ h2 ∷ []; checking = true }
