-- Laws of the inner writers and of the frame writer: one for each way they answer.
use mathlib.Core.Path.{◌≡◌, refl, sym, ap, ◌∙◌}
use mathlib.Core.Bool.{Bool, true, false, ◌&&◌}
use mathlib.Core.List.{List, [], ◌∷◌, ◌++◌}
use Prim.Native.Nat.{ℕ, suc, ◌+◌, ◌-◌, ◌≤◌, ◌<◌}
use native.Mathlib.Omega.{arith}
use mir.Val.{Fits}
use mir.Syntax.{w8}
use borrow.Author.Tests.{lt-ltb, le-ltb, lt-leb, le-leb}
use lib.Dec.{leb}
use lib.ListN.{length, take, drop, length-drop}
use lib.Seq.{length-take-le}
use Rattle.std.specs.Prelude.{Ok, Err}
use Rattle.wire.specs.Room.{over, Laid, lays, laid}
use Rattle.wire.proofs.Parts.{part_whole}
use Rattle.wire.proofs.Over.{drop_over, and_true, left_false, right_false, laid_not, laid_whole}
use Rattle.frame.specs.declared.Header.{Header}
use Rattle.frame.specs.declared.WriteError.TheVariants.{DataTooLong, RoomTooSmall}
use Rattle.frame.specs.Frame.{header_bytes, check_length, check_bytes, length_byte, enclosed, framed, frame_of, most_data}
use Rattle.frame.specs.Acknowledgement.{acknowledgement_length, verdict, acknowledgement}
use Rattle.frame.specs.Writer.{least_room, answers, writing, frame_laid, acknowledgement_laid, closed_laid}
use Rattle.frame.proofs.Laying.{length_prefix, length_enclosed, enclosed_laid}
use Rattle.frame.proofs.Acknowledgements.{length_acknowledgement, acknowledgement_enclosed}

pub length_frame_of : (checking : Bool) (header : List ℕ) (command : ℕ) (payload : List ℕ)
    → length (frame_of checking header command payload) ≡ length header + 1 + (1 + length payload + check_length checking)
unfolding frame_of framed
length_frame_of checking header command payload =
    length_enclosed checking header (length_byte checking (command ∷ payload)) (command ∷ payload) ∙ omega arith

-- the length byte that the writer works out is that of the general rule
frame_by_rule : (checking : Bool) (header : List ℕ) (command c : ℕ) (payload : List ℕ) → c ≡ check_length checking
    → enclosed checking header (1 + length payload + c) (command ∷ payload) ≡ frame_of checking header command payload
unfolding frame_of framed length_byte
frame_by_rule checking header command c payload is =
    let l : 1 + length payload + c ≡ suc (length payload) + check_length checking = omega arith in
    ap (λ (k : ℕ). enclosed checking header k (command ∷ payload)) l

pub header_short : (header : Header) → length (header_bytes header) ≤ 2
unfolding header_bytes
header_short header = omega arith

-- L is one byte
pub length_most : (checking : Bool) → 1 + most_data checking + check_length checking ≡ 255
unfolding most_data check_length
length_most true = refl
length_most false = refl

module _ (checking : Bool) (n m c : ℕ) (is-most : m ≡ most_data checking) (is-check : c ≡ check_length checking) where
  pub length_fits : n ≤ m → Fits w8 (1 + n + c)
  length_fits fits = omega (arith, length_most checking)

  pub content_fits : n ≤ 1 + m → Fits w8 (n + c)
  content_fits fits = omega (arith, length_most checking)

-- a frame within the limit that the room holds is laid
pub frame_laid_lem : (checking : Bool) (header : List ℕ) (command : ℕ) (payload room : List ℕ) → length payload ≤ most_data checking
    → length (frame_of checking header command payload) ≤ length room
    → frame_laid checking header command payload room
    ≡ lays (length (frame_of checking header command payload)) (over (frame_of checking header command payload) room)
unfolding frame_laid laid
frame_laid_lem checking header command payload room within fits =
    rw (le-leb (length payload) (most_data checking) within, le-leb (length (frame_of checking header command payload)) (length room) fits)

module _ (checking : Bool) (header : List ℕ) (command : ℕ) (payload room : List ℕ) (m : ℕ) (is-most : m ≡ most_data checking) where
  abbrev frame : List ℕ
  frame = frame_of checking header command payload

  abbrev within_limit : Bool
  within_limit = leb (length payload) (most_data checking)

  abbrev fits_room : Bool
  fits_room = leb (length frame) (length room)

  pub frame_too_long : m < length payload → lays 0 room ≡ frame_laid checking header command payload room
  unfolding frame_laid
  frame_too_long long =
      laid_not (within_limit && fits_room) frame room
      (left_false within_limit fits_room (lt-leb (length payload) (most_data checking) (rw is-most at long)))

  module _ (h c : ℕ) (is-header : h ≡ length header) (is-check : c ≡ check_length checking) where
    whole_length : length frame ≡ h + 1 + (1 + length payload + c)
    whole_length = length_frame_of checking header command payload ∙ rw (is-header, is-check)

    pub frame_no_room : length room < h + 1 + (1 + length payload + c) → lays 0 room ≡ frame_laid checking header command payload room
    unfolding frame_laid
    frame_no_room small =
        laid_not (within_limit && fits_room) frame room
        (right_false within_limit fits_room (lt-leb (length frame) (length room) (omega (arith, whole_length))))

    pub frame_put : (r : ℕ) (room' : List ℕ) → length payload ≤ m → h + 1 + (1 + length payload + c) ≤ length room
        → r ≡ length (enclosed checking header (1 + length payload + c) (command ∷ payload))
        → room' ≡ over (enclosed checking header (1 + length payload + c) (command ∷ payload)) room
        → lays r room' ≡ frame_laid checking header command payload room
    unfolding frame_laid
    frame_put r room' within fits is-r is-room =
        laid_whole (within_limit && fits_room) (enclosed checking header (1 + length payload + c) (command ∷ payload)) frame room room' r
        (and_true within_limit fits_room (le-leb (length payload) (most_data checking) (rw is-most at within))
        (le-leb (length frame) (length room) (omega (arith, whole_length))))
        (frame_by_rule checking header command c payload is-check) is-r is-room

module _ (header : List ℕ) (command : ℕ) (accepted : Bool) (room : List ℕ) (h : ℕ) (is-header : h ≡ length header) where
  abbrev answer : List ℕ
  answer = acknowledgement header command accepted

  answer_long : length answer ≡ h + 5
  answer_long = length_acknowledgement header command accepted ∙ rw is-header

  pub acknowledgement_no_room : length room < h + 5 → lays 0 room ≡ acknowledgement_laid header command accepted room
  unfolding acknowledgement_laid
  acknowledgement_no_room small =
      laid_not (leb (length answer) (length room)) answer room (lt-leb (length answer) (length room) (omega (arith, answer_long)))

  pub acknowledgement_fits : h + 5 ≤ length room → length header + 1 + (1 + 1 + check_length true) ≤ length room
  unfolding check_length
  acknowledgement_fits fits = omega arith

  pub acknowledgement_put : (v r : ℕ) (room' : List ℕ) → h + 5 ≤ length room → v ≡ verdict accepted
      → r ≡ length (enclosed true header 2 (command ∷ v ∷ [])) → room' ≡ over (enclosed true header 2 (command ∷ v ∷ [])) room
      → lays r room' ≡ acknowledgement_laid header command accepted room
  unfolding acknowledgement_laid acknowledgement_length
  acknowledgement_put v r room' fits is-v is-r is-room =
      laid_whole (leb (length answer) (length room)) (enclosed true header 2 (command ∷ v ∷ [])) answer room room' r
      (le-leb (length answer) (length room) (omega (arith, answer_long)))
      (ap (λ (x : ℕ). enclosed true header 2 (command ∷ x ∷ [])) is-v ∙ acknowledgement_enclosed header command accepted) is-r is-room

module _ (checking : Bool) (header : List ℕ) (n m : ℕ) (room : List ℕ) (is-most : m ≡ most_data checking) where
  abbrev standing : List ℕ
  standing = take n (drop (length header + 1) room)

  abbrev within_most : Bool
  within_most = leb n (1 + most_data checking)

  abbrev closes_room : Bool
  closes_room = leb (length header + 1 + (n + check_length checking)) (length room)

  pub close_too_long : 1 + m < n → lays 0 room ≡ closed_laid checking header n room
  unfolding closed_laid
  close_too_long long =
      laid_not (within_most && closes_room) (framed checking header standing) room
      (left_false within_most closes_room (lt-leb n (1 + most_data checking) (rw is-most at long)))

  module _ (h c : ℕ) (is-header : h ≡ length header) (is-check : c ≡ check_length checking) where
    pub close_no_room : length room < h + 1 + (n + c) → lays 0 room ≡ closed_laid checking header n room
    unfolding closed_laid
    close_no_room small =
        laid_not (within_most && closes_room) (framed checking header standing) room
        (right_false within_most closes_room (lt-leb (length header + 1 + (n + check_length checking)) (length room) (omega arith)))

    -- what stands behind header and length byte is not touched by laying them
    still_standing : (l : List ℕ) (b : ℕ) → l ≡ over (header ++ (b ∷ [])) room → take n (take (length l - (h + 1)) (drop (h + 1) l)) ≡ standing
    still_standing l b is =
        let behind : drop (h + 1) l ≡ drop (length header + 1) room =
        rw is (drop_over (header ++ (b ∷ [])) room (h + 1) (length_prefix header b ∙ ap (λ (k : ℕ). k + 1) (sym is-header)) ∙ ap (λ (k : ℕ). drop (k + 1) room) is-header) in
        ap (take n) (part_whole l (h + 1) ∙ behind)

    pub close_put : (count : ℕ) (l r : List ℕ) → n ≤ 1 + m → h + 1 + (n + c) ≤ length room → l ≡ over (header ++ ((n + c) ∷ [])) room
        → count ≡ n + check_length checking
        → r ≡ over (take n (take (length l - (h + 1)) (drop (h + 1) l)) ++ check_bytes checking (take n (take (length l - (h + 1)) (drop (h + 1) l))))
        (take (length l - (h + 1)) (drop (h + 1) l))
        → lays (h + 1 + count) (take (h + 1) l ++ (r ++ drop (length l - (h + 1)) (drop (h + 1) l))) ≡ closed_laid checking header n room
    unfolding closed_laid framed length_byte
    close_put count l r within fits is-l is-count is-r =
        let stood = still_standing l (n + c) is-l in
        let long : length standing ≡ n = length-take-le n (drop (length header + 1) room) (simp length-drop (omega arith)) in
        let rule : n + c ≡ length standing + check_length checking = omega arith in
        let laid-r = rw stood at is-r in
        laid_whole (within_most && closes_room) (enclosed checking header (n + c) standing) (framed checking header standing) room _ (h + 1 + count)
        (and_true within_most closes_room (le-leb n (1 + most_data checking) (rw is-most at within))
        (le-leb (length header + 1 + (n + check_length checking)) (length room) (omega arith)))
        (ap (λ (k : ℕ). enclosed checking header k standing) rule)
        (omega (arith, length_enclosed checking header (n + c) standing))
        (enclosed_laid checking header (n + c) h standing room l r is-header is-l laid-r)

module _ (checking : Bool) (header : List ℕ) (command : ℕ) (payload room : List ℕ) where
  pub writer_no_room : length room < least_room → answers (Err RoomTooSmall) room ≡ writing checking header command payload room
  unfolding writing
  writer_no_room small = rw (lt-ltb (length room) least_room small)

  module _ (m : ℕ) (is-most : m ≡ most_data checking) (roomy : least_room ≤ length room) where
    pub writer_too_long : m < length payload → answers (Err DataTooLong) room ≡ writing checking header command payload room
    unfolding writing
    writer_too_long long = rw (le-ltb (length room) least_room roomy, lt-ltb (most_data checking) (length payload) (rw is-most at long))

    -- 265 bytes hold every frame
    pub writer_done : (r : ℕ) (room' : List ℕ) → length header ≤ 2 → length payload ≤ m
        → lays r room' ≡ frame_laid checking header command payload room
        → answers (Ok r) room' ≡ writing checking header command payload room
    unfolding writing
    writer_done r room' short within is-laid =
        let within' : length payload ≤ most_data checking = rw is-most at within in
        let size : length (frame_of checking header command payload) ≤ length room =
        omega (arith, length_frame_of checking header command payload, length_most checking) in
        let is : lays r room' ≡ lays (length (frame_of checking header command payload)) (over (frame_of checking header command payload) room) =
        is-laid ∙ frame_laid_lem checking header command payload room within' size in
        rw (le-ltb (length room) least_room roomy, le-ltb (most_data checking) (length payload) within') (ap (λ (l : Laid). answers (Ok l.count) l.room) is)
