-- The course of 01's example e, and of a short talk with a reader, by computation.
use mathlib.Core.Path.{◌≡◌, refl, sym, ap, ◌∙◌}
use mathlib.Core.Bool.{true, false}
use mathlib.Core.List.{List, [], ◌∷◌, ◌++◌, map, Memᴰ}
use Prim.Native.Nat.{ℕ, ◌+◌}
use lib.ListN.{length, drop}
use Rattle.check_value.specs.CheckValue.{polynomial, bit_step, bit_steps, byte_step, check_from, check_value}
use Rattle.frame.specs.Frame.{check_length, least_length, content_of, right_check}
use Rattle.reading.specs.Place.{pass, accepted, Report, accepted_frame, cut_short, decided_by_check, after_header, behind, look, report_of, gone_by, is_wait}
use Rattle.reading.specs.Stretch.{placed_at, reading}
use Rattle.reading.specs.Line.{byte}
use Rattle.reading.specs.Moves.{Kept, fresh, is_pass, passes, still_closed, settled, is_report, waiting, with_byte, handed, after_report}
use Rattle.reading.specs.Run.{Event, offer, ask, with_input, run, line_held}
use Rattle.reading.specs.Demand3.{checked}
use Rattle.reading.proofs.Examples.{frame}
use Rattle.reading.proofs.Figure.{body as version_body}
use Rattle.course.specs.Course.{stride, Step, step_at, course_from, course, seen_in, seen_along, reports_in, passed_in, inside_in, gone_past, placed_in, placed_along, first_report, next_report}
use Rattle.course.specs.Lines.{bytes_in}
use Rattle.course.specs.Steps.{passing, settling, giving_byte, giving_input, handing_over, going_on, ask_steps, steps_made}
use Rattle.course.proofs.ReadOff.{course_placed}
use Rattle.course.proofs.Places.{steps_from, course_from_place, seen_is_there, next_some}
use Rattle.course.proofs.Counted.{given_is_passed_inside_held}

-- its report
abbrev read_version : Report
read_version = accepted_frame 0x81 (0x00 ∷ 0x01 ∷ [])

-- e's course once the mark has come: three places passed over, then the frame, with the place of each
pub course_e : course (checked 0x5A 0xA5) true (0x5A ∷ 0xA5 ∷ 0x40 ∷ frame) ≡ step_at 0 pass ∷ step_at 1 pass ∷ step_at 2 pass ∷ step_at 3 (accepted version_body) ∷ []
unfolding course course_from look behind after_header decided_by_check cut_short is_wait stride least_length check_length right_check check_value check_from byte_step bit_steps bit_step polynomial
course_e = refl

-- the steps that pass over lead to place 3, and the rest is the course from there on
pub course_e_from_3 : course (checked 0x5A 0xA5) true (0x5A ∷ 0xA5 ∷ 0x40 ∷ frame)
    ≡ steps_from (checked 0x5A 0xA5) 0 (pass ∷ pass ∷ pass ∷ []) ++ course_from (checked 0x5A 0xA5) true 3 3 frame
unfolding gone_past stride seen_along seen_in
course_e_from_3 =
    course_from_place (checked 0x5A 0xA5) true (0x5A ∷ 0xA5 ∷ 0x40 ∷ frame) (pass ∷ pass ∷ pass ∷ []) (accepted version_body ∷ []) (ap seen_in course_e)

-- what stands in its last step stands at its place
pub frame_at_3 : look (checked 0x5A 0xA5) true (drop 3 (0x5A ∷ 0xA5 ∷ 0x40 ∷ frame)) ≡ accepted version_body
frame_at_3 =
    seen_is_there (checked 0x5A 0xA5) true (0x5A ∷ 0xA5 ∷ 0x40 ∷ frame) (step_at 3 (accepted version_body))
    (rw course_e (Memᴰ.tail (Memᴰ.tail (Memᴰ.tail (Memᴰ.head refl)))))

-- its bytes: 3 passed over, 8 inside the frame, none held
pub bytes_of_e : (passed_in (seen_along (checked 0x5A 0xA5) true (0x5A ∷ 0xA5 ∷ 0x40 ∷ frame)) ≡ 3)
    × (inside_in (checked 0x5A 0xA5) (seen_along (checked 0x5A 0xA5) true (0x5A ∷ 0xA5 ∷ 0x40 ∷ frame)) ≡ 8)
unfolding seen_along seen_in passed_in inside_in stride
bytes_of_e =
    (ap (λ (steps : List Step). passed_in (seen_in steps)) course_e, ap (λ (steps : List Step). inside_in (checked 0x5A 0xA5) (seen_in steps)) course_e)

-- the next report from its first place on, and from inside the frame, where none begins
pub next_in_e : (next_report (checked 0x5A 0xA5) true 0 (0x5A ∷ 0xA5 ∷ 0x40 ∷ frame) ≡ step_at 3 (accepted version_body) ∷ [])
    × (next_report (checked 0x5A 0xA5) true 4 (0x5A ∷ 0xA5 ∷ 0x40 ∷ frame) ≡ [])
unfolding next_report first_report is_report course_from look behind after_header decided_by_check cut_short is_wait stride least_length check_length right_check check_value check_from byte_step bit_steps bit_step polynomial
next_in_e = (refl, refl)

-- so it is the only one
pub only_report_of_e : reading (checked 0x5A 0xA5) true (0x5A ∷ 0xA5 ∷ 0x40 ∷ frame) ≡ placed_at 3 read_version ∷ []
unfolding placed_along course course_from placed_in report_of content_of check_length stride
only_report_of_e =
    sym (course_placed (checked 0x5A 0xA5) true (0x5A ∷ 0xA5 ∷ 0x40 ∷ frame))
    ∙ next_some (checked 0x5A 0xA5) true 0 (0x5A ∷ 0xA5 ∷ 0x40 ∷ frame) (step_at 3 (accepted version_body)) 11 next_in_e.0 refl

-- behind a frame two bytes are left that are passed over once a mark has come
abbrev two_behind : Kept
two_behind = record { closed = true; bytes = frame ++ (0x00 ∷ 0x5A ∷ []) }

-- handing its report over makes the frame's step alone, and the two behind it are still kept; passing them over comes after
pub handed_and_then_passed : (handing_over (checked 0x5A 0xA5) two_behind
    ≡ record { steps = accepted version_body ∷ []; kept = record { closed = true; bytes = 0x00 ∷ 0x5A ∷ [] } })
    × (going_on (checked 0x5A 0xA5) two_behind ≡ record { steps = pass ∷ pass ∷ []; kept = fresh })
unfolding handing_over going_on waiting settling settled still_closed passes passing gone_past seen_along seen_in course course_from is_pass is_report look behind after_header decided_by_check cut_short is_wait stride least_length check_length right_check check_value check_from byte_step bit_steps bit_step polynomial
handed_and_then_passed = (refl, refl)

-- a byte of noise, the frame, its report asked for, and the first byte of another
abbrev talk : List Event
talk = map (λ (b : ℕ). offer (byte b)) (0x00 ∷ frame) ++ (ask ∷ offer (byte 0x5A) ∷ [])

-- 10 bytes are given: 1 passed over, 8 inside the frame, 1 held; and these are all
pub talk_accounted : (bytes_in (run (checked 0x5A 0xA5) fresh talk).given ≡ 10)
    × (steps_made (checked 0x5A 0xA5) fresh talk ≡ pass ∷ accepted version_body ∷ [])
    × ((run (checked 0x5A 0xA5) fresh talk).kept.bytes ≡ 0x5A ∷ [])
unfolding run steps_made bytes_in giving_input with_input giving_byte with_byte handed handing_over going_on ask_steps after_report waiting settling gone_by settled still_closed passes passing gone_past seen_along seen_in course course_from reports_in report_of content_of is_pass is_report look behind after_header decided_by_check cut_short is_wait stride least_length check_length right_check check_value check_from byte_step bit_steps bit_step polynomial
talk_accounted = (refl, refl, refl)

pub talk_adds_up : bytes_in (run (checked 0x5A 0xA5) fresh talk).given
    ≡ passed_in (steps_made (checked 0x5A 0xA5) fresh talk) + inside_in (checked 0x5A 0xA5) (steps_made (checked 0x5A 0xA5) fresh talk)
    + length (line_held (checked 0x5A 0xA5) (run (checked 0x5A 0xA5) fresh talk).given)
talk_adds_up = given_is_passed_inside_held (checked 0x5A 0xA5) talk quiet
  where
    quiet : waiting (checked 0x5A 0xA5) (run (checked 0x5A 0xA5) fresh talk).kept ≡ false
    quiet = unfold run with_input with_byte handed after_report waiting settled still_closed passes report_of gone_by content_of is_pass is_report look behind after_header decided_by_check cut_short is_wait least_length check_length right_check check_value check_from byte_step bit_steps bit_step polynomial in refl
