-- The figure 257 of demand 3 is the least for header FF FF.
use mathlib.Core.Path.{◌≡◌, refl, sym, ap, ◌∙◌}
use mathlib.Core.Bool.{false}
use mathlib.Core.List.{List, [], ◌∷◌, ◌++◌, map}
use Prim.Native.Nat.{ℕ, zero, suc, ◌≤◌, ◌<◌}
use native.Mathlib.Omega.{arith}
use borrow.Author.Tests.{lt-ltb}
use lib.Dec.{lit≤}
use lib.ListN.{length, replicate}
use Rattle.check_value.specs.CheckValue.{polynomial, bit_step, bit_steps, byte_step, check_from, check_value}
use Rattle.frame.specs.Frame.{check_length, least_length, right_check}
use Rattle.reading.specs.Place.{Rules, cut_short, decided_by_check, after_header, behind, look, is_wait}
use Rattle.reading.specs.Stretch.{reports}
use Rattle.reading.specs.Demand3.{Good, GoodFrames, none, next, joined, Cut, one_less_than_longest, accepted_of, report_of_frame, checked}
use Rattle.reading.specs.Figure.{AcceptsOnce, FallsShort}
use Rattle.reading.proofs.ByteLists.{all_bytes, tested_bytes}
use Rattle.reading.proofs.Course.{reports_stays}
use Rattle.reading.proofs.Damage.{is_accepted, none_accepted, tested_begins_none, open_accepts}

-- the header FF FF, checking on
abbrev pub rules : Rules
rules = checked 0xFF 0xFF

-- behind a single FF fewer bytes than 257 have come, FF FF first: they are the head of a frame of 258 bytes, and nothing is reported yet
pub nothing_yet : (come : List ℕ) → length (0xFF ∷ 0xFF ∷ come) < one_less_than_longest (0xFF ∷ 0xFF ∷ []) → reports rules false (0xFF ∷ 0xFF ∷ 0xFF ∷ come) ≡ []
unfolding look behind after_header least_length check_length cut_short is_wait
nothing_yet come few =
    let short : length come < 0xFF = omega arith in
    reports_stays rules false (0xFF ∷ 0xFF ∷ 0xFF ∷ come) (rw (lt-ltb (length come) 0xFF short))

-- 004's frame behind this header: 8 bytes, so that 32 of them are 256
abbrev pub body : List ℕ
body = 0x81 ∷ 0x00 ∷ 0x01 ∷ 0xE0 ∷ 0x28 ∷ []

-- that frame
abbrev pub frame : List ℕ
frame = 0xFF ∷ 0xFF ∷ 0x05 ∷ body

-- 32 of them, 256 bytes
abbrev pub frames : List (List ℕ)
frames = replicate 32 frame

frame_good : Good rules frame
unfolding least_length check_length right_check check_value check_from byte_step bit_steps bit_step polynomial
frame_good = record { body = body; whole = refl; least = omega arith; most = omega arith; right = refl }

copies_good : (n : ℕ) → GoodFrames rules (replicate n frame)
copies_good zero = none
copies_good (suc n) = next frame_good (copies_good n)

nothing_cut : Cut rules []
nothing_cut = record { frame = frame; good = frame_good; rest = frame; parts = refl; missing = omega arith }

-- behind a single FF, which begins no good frame, 32 good frames have come whole, 256 bytes, and none of them is accepted
pub no_fewer : FallsShort rules 256 (0xFF ∷ []) frames []
unfolding joined all_bytes none_accepted is_accepted look behind after_header decided_by_check cut_short least_length check_length accepted_of
no_fewer =
    record {
      good = copies_good 32;
      cut = nothing_cut;
      are_bytes = tested_bytes ((0xFF ∷ []) ++ (joined frames ++ [])) refl;
      begins_none = tested_begins_none rules (0xFF ∷ []) (joined frames ++ []) refl;
      followed = refl;
      come_whole = omega arith;
      none_accepted = ap accepted_of (nothing_yet (0x05 ∷ (body ++ (joined (replicate 31 frame) ++ []))) (lit≤ tt));
    }

-- where none of the frames that had come whole is accepted, the sentence is false with this figure and with every smaller one
pub short_is_false : (rules : Rules) (figure : ℕ) (damage : List ℕ) (frames : List (List ℕ)) (tail : List ℕ) → FallsShort rules figure damage frames tail
    → (less : ℕ) → less ≤ figure → AcceptsOnce rules less → ⊥
short_is_false rules figure damage frames tail short less below accepts =
    let all = accepts damage frames tail short.good short.cut short.are_bytes short.begins_none (omega (arith, short.followed)) in
    some_mapped frames short.come_whole (sym all ∙ short.none_accepted)
  where
    some_mapped : (fs : List (List ℕ)) → 0 < length fs → map (report_of_frame rules) fs ≡ [] → ⊥
    some_mapped [] some is = omega arith
    some_mapped (f ∷ fs) some is = cc

-- 257 is enough, for any two header bytes
pub figure_enough : (h1 h2 : ℕ) → AcceptsOnce (checked h1 h2) 257
figure_enough h1 h2 damage frames tail good cut are begins_none followed = open_accepts (checked h1 h2) damage frames tail good cut are followed begins_none

-- and no smaller figure is for header FF FF
pub figure_least : (figure : ℕ) → figure < one_less_than_longest (0xFF ∷ 0xFF ∷ []) → AcceptsOnce (checked 0xFF 0xFF) figure → ⊥
figure_least figure fewer = short_is_false rules 256 (0xFF ∷ []) frames [] no_fewer figure (omega arith)
