-- Demand 3: "Checking is on, nothing is held or waiting, and damage of any bytes arrives, then good frames end to end, unbroken by a mark. If no
-- place in the damage begins a run of bytes, in it or reaching past it, that is itself a good frame, then once 257 bytes have followed the damage
-- on a line still open, or a quiet mark has come right behind a whole good frame, and all reports are asked for, the frames accepted are exactly
-- those good frames that had come whole, in order."
use mathlib.Core.Path.{◌≡◌, sym, ap, ◌∙◌}
use mathlib.Core.Bool.{false}
use mathlib.Core.List.{List, [], ◌∷◌, ◌++◌, map}
use Prim.Native.Nat.{ℕ, ◌≤◌}
use lib.ListN.{length}
use Rattle.wire.specs.Bytes.{Bytes}
use Rattle.reading.specs.Place.{Rules}
use Rattle.reading.specs.Line.{Input, byte, mark, line_reports}
use Rattle.reading.specs.Moves.{Kept, fresh, waiting}
use Rattle.reading.specs.Run.{Event, Ran, run}
use Rattle.reading.specs.Demand3.{GoodFrames, joined, Cut, BeginsNone, one_less_than_longest, accepted_of, report_of_frame, NothingHeldOrWaiting, checked}
use Rattle.reading.proofs.Lines.{open_line, closed_line}
use Rattle.reading.proofs.Settling.{empty_is_fresh}
use Rattle.reading.proofs.Run.{reached_settled, handed_all}
use Rattle.reading.proofs.Damage.{open_accepts, closed_accepts}

-- From a state that earlier events led to, in which nothing is held or waiting, events go as from a new reader.
module _ (rules : Rules) (earlier : List Event) (idle : NothingHeldOrWaiting rules (run rules fresh earlier).kept) where
  as_new : (run rules fresh earlier).kept ≡ fresh
  as_new = empty_is_fresh rules (run rules fresh earlier).kept (reached_settled rules earlier) idle.0

  -- the reports handed over since, once none waits
  pub since_idle : (events : List Event) (line : List Input) → (run rules (run rules fresh earlier).kept events).given ≡ line
      → waiting rules (run rules (run rules fresh earlier).kept events).kept ≡ false
      → (run rules (run rules fresh earlier).kept events).handed_over ≡ line_reports rules line
  since_idle events line given quiet =
      ap (λ (k : Kept). (run rules k events).handed_over) as_new
      ∙ handed_all rules events (ap (λ (k : Kept). waiting rules (run rules k events).kept) (sym as_new) ∙ quiet)
      ∙ ap (line_reports rules) (ap (λ (k : Kept). (run rules k events).given) (sym as_new) ∙ given)

-- For any header, with checking on or off. `events` are the inputs offered and the reports asked for since, in any order, until none waits.
module _ (rules : Rules) (earlier events : List Event) (idle : NothingHeldOrWaiting rules (run rules fresh earlier).kept) where
  -- what these events came to, behind the earlier ones
  abbrev since : Ran
  since = run rules (run rules fresh earlier).kept events

  module _ (asked : waiting rules since.kept ≡ false) (damage : List ℕ) (frames : List (List ℕ)) (good : GoodFrames rules frames) where
    pub accepted_open : (tail : List ℕ) → Cut rules tail → Bytes (damage ++ (joined frames ++ tail)) → BeginsNone rules damage (joined frames ++ tail)
        → since.given ≡ map byte (damage ++ (joined frames ++ tail)) → one_less_than_longest rules.header ≤ length (joined frames ++ tail)
        → accepted_of since.handed_over ≡ map (report_of_frame rules) frames
    accepted_open tail cut are begins_none given followed =
        let came = damage ++ (joined frames ++ tail) in
        ap accepted_of (since_idle rules earlier idle events (map byte came) given asked ∙ open_line rules came)
        ∙ open_accepts rules damage frames tail good cut are followed begins_none

    pub accepted_closed : Bytes (damage ++ joined frames) → BeginsNone rules damage (joined frames)
        → since.given ≡ map byte (damage ++ joined frames) ++ (mark ∷ [])
        → accepted_of since.handed_over ≡ map (report_of_frame rules) frames
    accepted_closed are begins_none given =
        let came = damage ++ joined frames in
        ap accepted_of (since_idle rules earlier idle events (map byte came ++ (mark ∷ [])) given asked ∙ closed_line rules came)
        ∙ closed_accepts rules damage frames good are begins_none

-- As demanded: two header bytes, whichever, equal ones included; checking on.
module _ (h1 h2 : ℕ) (earlier events : List Event) (idle : NothingHeldOrWaiting (checked h1 h2) (run (checked h1 h2) fresh earlier).kept) where
  -- what these events came to, behind the earlier ones
  abbrev arrived : Ran
  arrived = run (checked h1 h2) (run (checked h1 h2) fresh earlier).kept events

  module _ (all-Asked : waiting (checked h1 h2) arrived.kept ≡ false) (damage : List ℕ) (frames : List (List ℕ)) (good : GoodFrames (checked h1 h2) frames) where
    -- ".. once 257 bytes have followed the damage on a line still open": `tail` is what has come of a frame that is not whole yet
    pub demand3_open : (tail : List ℕ) → Cut (checked h1 h2) tail → Bytes (damage ++ (joined frames ++ tail))
        → BeginsNone (checked h1 h2) damage (joined frames ++ tail)
        → arrived.given ≡ map byte (damage ++ (joined frames ++ tail)) → 257 ≤ length (joined frames ++ tail)
        → accepted_of arrived.handed_over ≡ map (report_of_frame (checked h1 h2)) frames
    demand3_open = accepted_open (checked h1 h2) earlier events idle all-Asked damage frames good

    -- ".. or a quiet mark has come right behind a whole good frame"
    pub demand3_closed : Bytes (damage ++ joined frames) → BeginsNone (checked h1 h2) damage (joined frames)
        → arrived.given ≡ map byte (damage ++ joined frames) ++ (mark ∷ [])
        → accepted_of arrived.handed_over ≡ map (report_of_frame (checked h1 h2)) frames
    demand3_closed = accepted_closed (checked h1 h2) earlier events idle all-Asked damage frames good
