-- Demand 3's figure, 257: the sentence of specs/Demand3 on an open line with any figure in its place.
use Rattle.std.specs.Prelude.{ℕ, ◌≡◌, List}
use Rattle.reading.specs.Demand3.{accepted_of}
use Rattle.demands.specs.Calls.{Moment, Call, handed_over_all}
use Rattle.demands.specs.Demand3.{ComeOnAnOpenLine, as_accepted}

-- ".. then once [so many] bytes have followed the damage on a line still open .., and all reports are asked for, the frames accepted are exactly those good
-- frames that had come whole, in order."
abbrev pub OnceFollowedBy : (figure : ℕ) → Type 0
OnceFollowedBy figure =
    (now : Moment) (calls : List Call) (frames : List (List ℕ)) → ComeOnAnOpenLine figure now calls frames
    → accepted_of (handed_over_all now calls) ≡ as_accepted now frames
