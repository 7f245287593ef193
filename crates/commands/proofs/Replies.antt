-- Laws of the replies: command and data laid behind the place of header and length byte, then closed into a frame.
use mathlib.Core.Path.{◌≡◌, refl, sym, ap, ◌∙◌}
use mathlib.Core.Bool.{Bool, ◌&&◌}
use mathlib.Core.List.{List, ◌∷◌, ◌++◌}
use Prim.Native.Nat.{ℕ, suc, ◌+◌, ◌-◌, ◌≤◌, ◌<◌}
use native.Mathlib.Omega.{arith}
use borrow.Author.Tests.{le-leb}
use lib.Dec.{leb}
use lib.ListN.{length, take, drop, length-append}
use Rattle.wire.specs.Room.{over, lays, laid}
use Rattle.wire.proofs.Over.{over_part, and_true, laid_left}
use Rattle.frame.specs.Frame.{check_length, most_data}
use Rattle.frame.specs.Writer.{frame_laid, closed_laid}
use Rattle.frame.proofs.Writers.{frame_no_room}
use Rattle.frame.proofs.Closing.{closed_over}
use Rattle.registers.proofs.Copying.{length_run}
use Rattle.words.proofs.Carried.{length_bytes_of}
use Rattle.words.proofs.Loops.{length_word_run}
use Rattle.registers.specs.declared.Registers.{Registers}
use Rattle.wire.specs.Addresses.{register_count}
use Rattle.registers.specs.Table.{register_run}
use Rattle.words.specs.Words.{bytes_of, word_run, words_laid}
use Rattle.commands.specs.Reply.{registers_reply, words_reply}

pub length_registers_reply : (registers : Registers) (address n : ℕ) → length (registers_reply registers address n) ≡ 2 + n
unfolding registers_reply
length_registers_reply registers address n = ap (λ (k : ℕ). suc (suc k)) (length_run registers address n) ∙ omega arith

pub length_words_reply : (words : List ℕ) (address n : ℕ) → address + n ≤ length words → length (words_reply words address n) ≡ 3 + (n + n)
unfolding words_reply
length_words_reply words address n within =
    ap (λ (k : ℕ). suc (suc (suc k))) (length_bytes_of (word_run words address n) ∙ ap (λ (k : ℕ). k + k) (length_word_run words address n within)) ∙ omega arith

-- a reply whose data is `size - 1` long, laid into the room or not
module _ (checking : Bool) (header : List ℕ) (command : ℕ) (payload room : List ℕ) (h c size : ℕ)
    (is-h : h ≡ length header) (is_c : c ≡ check_length checking) (is-size : size ≡ 1 + length payload) where
  reply_no_room : length room < h + 1 + (size + c) → lays 0 room ≡ frame_laid checking header command payload room
  reply_no_room small = frame_no_room checking header command payload room (most_data checking) refl h c is-h is_c (omega arith)

  reply_closed : (r left : List ℕ) (count : ℕ) → length payload ≤ most_data checking → h + 1 + (size + c) ≤ length room
      → r ≡ over (command ∷ payload) (take (length room - (h + 1)) (drop (h + 1) room))
      → lays count left ≡ closed_laid checking header size (take (h + 1) room ++ (r ++ drop (length room - (h + 1)) (drop (h + 1) room)))
      → lays count left ≡ frame_laid checking header command payload room
  reply_closed r left count within fits is-r is-left =
      is-left ∙ closed_over checking header command payload room r size h c is-h is_c is-size within fits is-r

-- the same for a reply whose head is copied, and behind it a run laid
module _ (checking : Bool) (header head run : List ℕ) (command : ℕ) (payload room : List ℕ) (h c k n : ℕ) (is-h : h ≡ length header)
    (is_c : c ≡ check_length checking) (is-k : length head ≡ k) (is-n : length run ≡ n) (is-payload : command ∷ payload ≡ head ++ run) where
  abbrev body : List ℕ
  body = take (length room - (h + 1)) (drop (h + 1) room)

  -- the body with the head
  abbrev with_head : (copied : List ℕ) → List ℕ
  with_head copied = copied ++ drop k body

  size : k + n ≡ 1 + length payload
  size = let long : length (command ∷ payload) ≡ length head + length run = ap length is-payload ∙ length-append head run in omega arith

  pub head_no_room : length room < h + 1 + (k + n + c) → lays 0 room ≡ frame_laid checking header command payload room
  head_no_room small = reply_no_room checking header command payload room h c (k + n) is-h is_c size small

  pub head_and_run : (copied left left' : List ℕ) (count : ℕ) → k + n ≤ 1 + most_data checking → h + 1 + (k + n + c) ≤ length room → copied ≡ head
      → left ≡ over run (take (length (with_head copied) - k) (drop k (with_head copied)))
      → lays count left' ≡ closed_laid checking header (k + n)
      (take (h + 1) room ++ ((take k (with_head copied) ++ (left ++ drop (length (with_head copied) - k) (drop k (with_head copied)))) ++ drop (length room - (h + 1)) (drop (h + 1) room)))
      → lays count left' ≡ frame_laid checking header command payload room
  unfolding over
  head_and_run copied left left' count within fits is-copied is-left is =
      let laid-head : with_head copied ≡ over head body = rw (is-copied, is-k) in
      let laid = over_part head run body (with_head copied) left k is-k laid-head is-left in
      reply_closed checking header command payload room h c (k + n) is-h is_c size _ left' count (omega (arith, size)) fits (laid ∙ ap (λ (s : List ℕ). over s body) (sym is-payload)) is

-- a run read that is within the end and has room
pub registers_run : (registers : Registers) (a n count : ℕ) (part left : List ℕ) → a + n ≤ register_count → n ≤ length part
    → lays count left ≡ laid (leb (a + n) register_count && leb n (length part)) (register_run registers a n) part
    → left ≡ over (register_run registers a n) part
registers_run registers a n count part left within fits is =
    (laid_left _ (register_run registers a n) part left count (and_true _ _ (le-leb (a + n) register_count within) (le-leb n (length part) fits)) is).1

pub words_run : (words : List ℕ) (a n count : ℕ) (part left : List ℕ) → a + n ≤ length words → n + n ≤ length part → lays count left ≡ words_laid words a n part
    → left ≡ over (bytes_of (word_run words a n)) part
unfolding words_laid
words_run words a n count part left within fits is =
    (laid_left _ (bytes_of (word_run words a n)) part left count (and_true _ _ (le-leb (a + n) (length words) within) (le-leb (n + n) (length part) fits)) is).1
