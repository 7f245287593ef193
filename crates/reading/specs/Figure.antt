-- Demand 3's figure, 257: the sentence with any figure in its place, and what it takes to show that a figure is too small.
use Rattle.std.specs.Prelude.{ℕ, ◌≤◌, ◌<◌, ◌≡◌, false, List, [], ◌++◌, map, length}
use Rattle.wire.specs.Bytes.{Bytes}
use Rattle.reading.specs.Place.{Rules}
use Rattle.reading.specs.Stretch.{reports}
use Rattle.reading.specs.Demand3.{GoodFrames, joined, Cut, BeginsNone, accepted_of, report_of_frame}

-- "If no place in the damage begins a run of bytes .. that is itself a good frame, then once [so many] bytes have followed the damage on a line still open ..
-- the frames accepted are exactly those good frames that had come whole, in order."
abbrev pub AcceptsOnce : Rules → (figure : ℕ) → Type 0
AcceptsOnce rules figure =
    (damage : List ℕ) (frames : List (List ℕ)) (tail : List ℕ) → GoodFrames rules frames → Cut rules tail → Bytes (damage ++ (joined frames ++ tail))
    → BeginsNone rules damage (joined frames ++ tail) → figure ≤ length (joined frames ++ tail)
    → accepted_of (reports rules false (damage ++ (joined frames ++ tail))) ≡ map (report_of_frame rules) frames

-- "no place in the damage begins a run of bytes", so many bytes "have followed the damage on a line still open", some of them good frames "that had come whole",
-- and none of those is accepted
pub record FallsShort (rules : Rules) (figure : ℕ) (damage : List ℕ) (frames : List (List ℕ)) (tail : List ℕ) : Type 0 where
  pub good : GoodFrames rules frames
  pub cut : Cut rules tail
  pub are_bytes : Bytes (damage ++ (joined frames ++ tail))
  pub begins_none : BeginsNone rules damage (joined frames ++ tail)
  pub followed : length (joined frames ++ tail) ≡ figure
  pub come_whole : 0 < length frames
  pub none_accepted : accepted_of (reports rules false (damage ++ (joined frames ++ tail))) ≡ []
