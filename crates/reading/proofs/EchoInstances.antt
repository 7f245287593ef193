-- Echoes by computation: one that costs no frame, and one, with another header, of which the premise of demand 3 is false.
use mathlib.Core.Path.{◌≡◌, refl}
use mathlib.Core.Bool.{true, false}
use mathlib.Core.List.{List, [], ◌∷◌, ◌++◌, map}
use Prim.Native.Nat.{ℕ}
use native.Mathlib.Omega.{arith}
use lib.Dec.{lit≤}
use lib.ListN.{replicate}
use Rattle.check_value.specs.CheckValue.{polynomial, bit_step, bit_steps, byte_step, check_from, check_value}
use Rattle.frame.specs.Frame.{check_length, least_length, content_of, right_check}
use Rattle.frame.specs.Acknowledgement.{acknowledgement_length, verdict, acknowledgement}
use Rattle.reading.specs.Place.{accepted_frame, cut_short, decided_by_check, after_header, behind, look, report_of, gone_by, is_wait}
use Rattle.reading.specs.Stretch.{reports_from, reports}
use Rattle.reading.specs.Demand3.{Good, joined, BeginsNone, accepted_of, report_of_frame, checked}
use Rattle.reading.specs.Echo.{Sent, echo, first_is, pair_in, header_inside}
use Rattle.reading.proofs.ByteLists.{all_bytes, tested_bytes}
use Rattle.reading.proofs.Damage.{open_accepts}
use Rattle.reading.proofs.Examples.{frame, copies_good, nothing_cut}
use Rattle.reading.proofs.Echo.{echo_begins_none, printed_echo_begins_none}

-- 81 was accepted; a frame with command 5A had a bad check
abbrev two : List Sent
two = record { command = 0x81; accepted = true } ∷ record { command = 0x5A; accepted = false } ∷ []

-- their echo, and 33 frames behind it, 264 bytes: all 33 are accepted on a line still open
pub echo_costs_none : accepted_of (reports (checked 0x5A 0xA5) false (echo (0x5A ∷ 0xA5 ∷ []) two ++ (joined (replicate 33 frame) ++ [])))
    ≡ map (report_of_frame (checked 0x5A 0xA5)) (replicate 33 frame)
unfolding echo joined all_bytes acknowledgement acknowledgement_length verdict check_value check_from byte_step bit_steps bit_step polynomial
echo_costs_none =
    open_accepts (checked 0x5A 0xA5) (echo (0x5A ∷ 0xA5 ∷ []) two) (replicate 33 frame) [] (copies_good 33) nothing_cut
    (tested_bytes (echo (0x5A ∷ 0xA5 ∷ []) two ++ (joined (replicate 33 frame) ++ [])) refl) (lit≤ tt)
    (printed_echo_begins_none two (omega arith, (omega arith, tt)) (joined (replicate 33 frame) ++ []))

-- with header 12 34 these two have no header inside
pub other_header_free : (come : List ℕ) → BeginsNone (checked 0x12 0x34) (echo (0x12 ∷ 0x34 ∷ []) two) come
unfolding header_inside pair_in first_is acknowledgement acknowledgement_length verdict check_value check_from byte_step bit_steps bit_step polynomial
other_header_free come = echo_begins_none 0x12 0x34 two come (refl, (refl, tt))

-- With header 02 02 the acknowledgement 02 02 02 08 FF 46 30 has a header inside: 02 02 08 begins a good frame that ends within the one that follows.

-- 08 was accepted
abbrev one : List Sent
one = record { command = 0x08; accepted = true } ∷ []

-- the good frame that follows
abbrev following : List ℕ
following = 0x02 ∷ 0x02 ∷ 0x05 ∷ 0xF2 ∷ 0x78 ∷ 0x00 ∷ 0xF2 ∷ 0x33 ∷ []

pub following_good : Good (checked 0x02 0x02) following
unfolding least_length check_length right_check check_value check_from byte_step bit_steps bit_step polynomial
following_good = record { body = 0xF2 ∷ 0x78 ∷ 0x00 ∷ 0xF2 ∷ 0x33 ∷ []; whole = refl; least = omega arith; most = omega arith; right = refl }

-- the L bytes of the frame that was never sent
abbrev false_body : List ℕ
false_body = 0xFF ∷ 0x46 ∷ 0x30 ∷ 0x02 ∷ 0x02 ∷ 0x05 ∷ 0xF2 ∷ 0x78 ∷ []

false_good : Good (checked 0x02 0x02) (0x02 ∷ 0x02 ∷ 0x08 ∷ false_body)
unfolding least_length check_length right_check check_value check_from byte_step bit_steps bit_step polynomial
false_good = record { body = false_body; whole = refl; least = omega arith; most = omega arith; right = refl }

-- the place behind the first begins a good frame: the premise is false
pub premise_may_be_false : BeginsNone (checked 0x02 0x02) (echo (0x02 ∷ 0x02 ∷ []) one) following → ⊥
unfolding echo acknowledgement acknowledgement_length verdict check_value check_from byte_step bit_steps bit_step polynomial
premise_may_be_false begins_none = begins_none 1 (omega arith) (0x02 ∷ 0x02 ∷ 0x08 ∷ false_body) (0x00 ∷ 0xF2 ∷ 0x33 ∷ []) refl false_good

-- and the good frame that follows is lost
pub frame_may_be_lost : reports (checked 0x02 0x02) true (echo (0x02 ∷ 0x02 ∷ []) one ++ following) ≡ accepted_frame 0xFF (0x46 ∷ 0x30 ∷ 0x02 ∷ 0x02 ∷ 0x05 ∷ []) ∷ []
unfolding echo acknowledgement acknowledgement_length verdict reports reports_from look behind after_header decided_by_check cut_short is_wait report_of gone_by least_length check_length content_of right_check check_value check_from byte_step bit_steps bit_step polynomial
frame_may_be_lost = refl

-- With header 30 A5 the same acknowledgement, 30 A5 02 08 FF 46 30, ends with H1: with A5 03 80 BE E0 behind it that byte begins a good frame.
pub last_byte_begins : BeginsNone (checked 0x30 0xA5) (echo (0x30 ∷ 0xA5 ∷ []) one) (0xA5 ∷ 0x03 ∷ 0x80 ∷ 0xBE ∷ 0xE0 ∷ []) → ⊥
unfolding echo acknowledgement acknowledgement_length verdict least_length check_length right_check check_value check_from byte_step bit_steps bit_step polynomial
last_byte_begins begins_none =
    begins_none 6 (omega arith) (0x30 ∷ 0xA5 ∷ 0x03 ∷ 0x80 ∷ 0xBE ∷ 0xE0 ∷ []) [] refl
    (record { body = 0x80 ∷ 0xBE ∷ 0xE0 ∷ []; whole = refl; least = omega arith; most = omega arith; right = refl })
