-- 01, "Proved examples" e, and small cases of the reading, by computation.
use mathlib.Core.Path.{◌≡◌, refl}
use mathlib.Core.Bool.{false}
use mathlib.Core.List.{List, [], ◌∷◌, ◌++◌, map}
use Prim.Native.Nat.{ℕ, zero, suc}
use native.Mathlib.Omega.{arith}
use lib.Dec.{lit≤}
use lib.ListN.{replicate}
use Rattle.check_value.specs.CheckValue.{polynomial, bit_step, bit_steps, byte_step, check_from, check_value}
use Rattle.frame.specs.Frame.{check_length, least_length, content_of, right_check}
use Rattle.reading.specs.Place.{Report, bad_check, accepted_frame, cut_short, decided_by_check, after_header, behind, look, report_of, gone_by, is_wait}
use Rattle.reading.specs.Stretch.{placed_at, read_from, reading, reports_from, reports, held_from, held_of}
use Rattle.reading.specs.Line.{byte, mark, line_from, line_reports}
use Rattle.reading.specs.Demand3.{Good, GoodFrames, none, next, joined, Cut, accepted_of, report_of_frame, checked}
use Rattle.reading.proofs.ByteLists.{all_bytes, tested_bytes}
use Rattle.reading.proofs.Damage.{is_accepted, none_accepted, tested_begins_none, open_accepts}

-- 004's frame
abbrev pub frame : List ℕ
frame = 0x5A ∷ 0xA5 ∷ 0x05 ∷ 0x81 ∷ 0x00 ∷ 0x01 ∷ 0xE0 ∷ 0x28 ∷ []

-- its report
abbrev read_version_lem : Report
read_version_lem = accepted_frame 0x81 (0x00 ∷ 0x01 ∷ [])

-- e. "Checking on: 5A A5 40, 5A A5 05 81 00 01 E0 28, quiet: one accepted 81."
pub example_e : line_reports (checked 0x5A 0xA5) (map byte (0x5A ∷ 0xA5 ∷ 0x40 ∷ frame) ++ (mark ∷ [])) ≡ read_version_lem ∷ []
unfolding line_reports line_from reports reports_from look behind after_header decided_by_check cut_short is_wait report_of gone_by least_length check_length content_of right_check check_value check_from byte_step bit_steps bit_step polynomial
example_e = refl

-- before the mark the place that believes in 40 waits, and all of it is held
pub example_e_open : held_of (checked 0x5A 0xA5) (0x5A ∷ 0xA5 ∷ 0x40 ∷ frame) ≡ 0x5A ∷ 0xA5 ∷ 0x40 ∷ frame
unfolding held_of held_from look behind after_header decided_by_check cut_short is_wait gone_by least_length check_length
example_e_open = refl

-- a missing byte is never "isn't H2": a lone H1 at the end of an open stretch waits
pub lone_first : held_of (checked 0x5A 0xA5) (0x00 ∷ 0x5A ∷ []) ≡ 0x5A ∷ []
unfolding held_of held_from look behind cut_short is_wait gone_by
lone_first = refl

-- H1 H1 H2: the frame is found at the second
pub found_at_second : reading (checked 0x5A 0xA5) false (0x5A ∷ frame) ≡ placed_at 1 read_version_lem ∷ []
unfolding reading read_from look behind after_header decided_by_check cut_short is_wait report_of gone_by least_length check_length content_of right_check check_value check_from byte_step bit_steps bit_step polynomial
found_at_second = refl

-- "L is below its least value: go to p+1", open as closed
pub below_least : held_of (checked 0x5A 0xA5) (0x5A ∷ 0xA5 ∷ 0x02 ∷ []) ≡ []
unfolding held_of held_from look behind after_header decided_by_check cut_short is_wait gone_by least_length check_length
below_least = refl

-- ".. at least 3 with checking on": a command alone is a frame
pub at_least : reports (checked 0x5A 0xA5) false (0x5A ∷ 0xA5 ∷ 0x03 ∷ 0x80 ∷ 0xBE ∷ 0xE0 ∷ []) ≡ accepted_frame 0x80 [] ∷ []
unfolding reports reports_from look behind after_header decided_by_check cut_short is_wait report_of gone_by least_length check_length content_of right_check check_value check_from byte_step bit_steps bit_step polynomial
at_least = refl

-- "a false frame falls with several good ones inside": all of them are reported
pub two_inside : reports (checked 0x5A 0xA5) false (0x5A ∷ 0xA5 ∷ 0x10 ∷ (frame ++ frame)) ≡ bad_check 0x5A ∷ read_version_lem ∷ read_version_lem ∷ []
unfolding reports reports_from look behind after_header decided_by_check cut_short is_wait report_of gone_by least_length check_length content_of right_check check_value check_from byte_step bit_steps bit_step polynomial
two_inside = refl

frame_good : Good (checked 0x5A 0xA5) frame
unfolding least_length check_length right_check check_value check_from byte_step bit_steps bit_step polynomial
frame_good = record { body = 0x81 ∷ 0x00 ∷ 0x01 ∷ 0xE0 ∷ 0x28 ∷ []; whole = refl; least = omega arith; most = omega arith; right = refl }

pub copies_good : (n : ℕ) → GoodFrames (checked 0x5A 0xA5) (replicate n frame)
copies_good zero = none
copies_good (suc n) = next frame_good (copies_good n)

pub nothing_cut : Cut (checked 0x5A 0xA5) []
nothing_cut = record { frame = frame; good = frame_good; rest = frame; parts = refl; missing = omega arith }

-- demand 3 at work: its premise holds of 5A A5 40 and 33 of these frames, 264 bytes, so all 33 are accepted on a line still open
pub noise_costs_none : accepted_of (reports (checked 0x5A 0xA5) false ((0x5A ∷ 0xA5 ∷ 0x40 ∷ []) ++ (joined (replicate 33 frame) ++ [])))
    ≡ map (report_of_frame (checked 0x5A 0xA5)) (replicate 33 frame)
unfolding joined none_accepted is_accepted all_bytes look behind after_header decided_by_check cut_short least_length check_length right_check check_value check_from byte_step bit_steps bit_step polynomial
noise_costs_none =
    open_accepts (checked 0x5A 0xA5) (0x5A ∷ 0xA5 ∷ 0x40 ∷ []) (replicate 33 frame) [] (copies_good 33) nothing_cut
    (tested_bytes ((0x5A ∷ 0xA5 ∷ 0x40 ∷ []) ++ (joined (replicate 33 frame) ++ [])) refl) (lit≤ tt)
    (tested_begins_none (checked 0x5A 0xA5) (0x5A ∷ 0xA5 ∷ 0x40 ∷ []) (joined (replicate 33 frame) ++ []) refl)
