-- Laws of good frames: the frame for any command and data within the limit is good, and every good frame is one of these.
use mathlib.Core.Path.{◌≡◌, refl, sym, ap, ap₂, ◌∙◌}
use mathlib.Core.Bool.{Bool, true, false}
use mathlib.Core.List.{List, [], ◌∷◌, ◌++◌, append_assoc, append-nil}
use Prim.Native.Nat.{ℕ, suc, ◌+◌, ◌-◌, ◌≤◌, ◌<◌}
use native.Mathlib.Omega.{arith}
use borrow.Author.Tests.{eqb-true, eq-eqb}
use lib.Dec.{eqb}
use lib.ListN.{length, get_or, take, drop, length-append, length-drop, take-append-drop, drop_of_length-le}
use lib.Seq.{take_at, take_all, take-append_seam, get_or-append_seam, get_or-append-add, drop-cons}
use Rattle.wire.specs.ByteOrder.{low_byte, high_byte}
use Rattle.wire.proofs.Truths.{and_left, and_right}
use Rattle.check_value.specs.CheckValue.{check_value}
use Rattle.frame.specs.Frame.{check_length, check_bytes, length_byte, enclosed, framed, frame_of, least_length, most_data, content_of, right_check, GoodFrame}
use Rattle.frame.proofs.Laying.{length_check_bytes}
use Rattle.frame.proofs.Writers.{length_most}

-- command, data and check bytes: the L bytes of a frame
pub length_body : (checking : Bool) (content : List ℕ) → length (content ++ check_bytes checking content) ≡ length content + check_length checking
length_body checking content = length-append content (check_bytes checking content) ∙ ap (λ (n : ℕ). length content + n) (length_check_bytes checking content)

pub content_of_body : (checking : Bool) (content : List ℕ) → content_of checking (content ++ check_bytes checking content) ≡ content
unfolding content_of
content_of_body checking content =
    let n : length content ≡ length (content ++ check_bytes checking content) - check_length checking = omega (arith, length_body checking content) in
    take_at content (check_bytes checking content) (length (content ++ check_bytes checking content) - check_length checking) n

-- the check bytes that are sent are right
pub check_is_right : (checking : Bool) (content : List ℕ) → right_check checking (content ++ check_bytes checking content) ≡ true
unfolding right_check check_bytes
check_is_right false content = refl
check_is_right true content =
    let value = check_value content in
    let sent = low_byte value ∷ high_byte value ∷ [] in
    let n : length (content ++ sent) - 2 ≡ length content = simp length-append (omega arith) in
    rw (
      n,
      take-append_seam content sent,
      get_or-append_seam content (low_byte value) (high_byte value ∷ []) 0,
      get_or-append-add content sent 1 0,
      eq-eqb (low_byte value) (low_byte value) refl,
      eq-eqb (high_byte value) (high_byte value) refl,
    )

-- the last two of a list
two_left : (n : ℕ) (xs : List ℕ) → length xs ≡ n + 2 → drop n xs ≡ get_or xs n 0 ∷ get_or xs (n + 1) 0 ∷ []
two_left n xs is =
    let one : n + 1 ≡ suc n = omega arith in
    let all : length xs ≤ suc (suc n) = omega arith in
    drop-cons xs n 0 (omega arith)
    ∙ ap (λ (rest : List ℕ). get_or xs n 0 ∷ rest)
    (drop-cons xs (suc n) 0 (omega arith) ∙ ap₂ (λ (b : ℕ) (rest : List ℕ). b ∷ rest) (ap (λ (k : ℕ). get_or xs k 0) (sym one)) (drop_of_length-le xs all))

-- right check bytes are those that are sent
pub right_is_check : (checking : Bool) (body : List ℕ) → least_length checking ≤ length body → right_check checking body ≡ true
    → body ≡ content_of checking body ++ check_bytes checking (content_of checking body)
unfolding content_of right_check check_bytes least_length check_length
right_is_check false body least right = sym (append-nil (take (length body - 0) body) ∙ take_all (length body - 0) body (omega arith))
right_is_check true body least right =
    let n = length body - 2 in
    let value = check_value (take n body) in
    let low = eqb (get_or body n 0) (low_byte value) in
    let high = eqb (get_or body (n + 1) 0) (high_byte value) in
    let long : length body ≡ n + 2 = omega arith in
    sym (take-append-drop n body)
    ∙ ap (λ (rest : List ℕ). take n body ++ rest)
    (two_left n body long ∙ ap₂ (λ (a b : ℕ). a ∷ b ∷ []) (eqb-true (get_or body n 0) (low_byte value) (and_left low high right)) (eqb-true (get_or body (n + 1) 0) (high_byte value) (and_right low high right)))

-- "whatever its command and data": the frame for any command and data within the limit is good
pub frame_of_good : (checking : Bool) (header : List ℕ) (command : ℕ) (payload : List ℕ) → length payload ≤ most_data checking
    → GoodFrame checking header (frame_of checking header command payload)
unfolding frame_of framed enclosed length_byte least_length
frame_of_good checking header command payload within =
    let content = command ∷ payload in
    let long = length_body checking content in
    record {
      body = content ++ check_bytes checking content;
      whole = append_assoc header (length_byte checking content ∷ []) (content ++ check_bytes checking content)
          ∙ ap (λ (l : ℕ). header ++ (l ∷ (content ++ check_bytes checking content))) (sym long);
      least = omega arith;
      most = omega (arith, length_most checking);
      right = check_is_right checking content;
    }

some_content : (checking : Bool) (body content : List ℕ) → length body ≡ length content + check_length checking → least_length checking ≤ length body
    → 0 < length content
unfolding least_length
some_content checking body content long least = omega arith

-- and every good frame is the frame for some command and data within the limit
pub good_is_frame_of : (checking : Bool) (header frame : List ℕ) → GoodFrame checking header frame
    → (command : ℕ) × (payload : List ℕ) × (length payload ≤ most_data checking) × (frame ≡ frame_of checking header command payload)
unfolding frame_of framed enclosed length_byte
good_is_frame_of checking header frame good =
    let body = good.body in
    let content = content_of checking body in
    let sealed : body ≡ content ++ check_bytes checking content = right_is_check checking body good.least good.right in
    let long : length body ≡ length content + check_length checking = ap length sealed ∙ length_body checking content in
    let some : 0 < length content = some_content checking body content long good.least in
    let parted : content ≡ get_or content 0 0 ∷ drop 1 content = drop-cons content 0 0 some in (
      get_or content 0 0,
      drop 1 content,
      simp length-drop (omega (arith, length_most checking, good.most)),
      good.whole
          ∙ ap₂ (λ (l : ℕ) (b : List ℕ). header ++ (l ∷ b)) long sealed
          ∙ sym (append_assoc header ((length content + check_length checking) ∷ []) (content ++ check_bytes checking content))
          ∙ ap (λ (c : List ℕ). (header ++ ((length c + check_length checking) ∷ [])) ++ (c ++ check_bytes checking c)) parted,
    )
