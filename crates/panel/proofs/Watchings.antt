-- Laws of what is noted behind a report and told behind a contact: one for each way the functions answer.
use Rattle.std.specs.Prelude.{Option, None, Some}
use mathlib.Core.Path.{◌≡◌, ap, ◌∙◌}
use mathlib.Core.Bool.{Bool, true, false}
use mathlib.Core.List.{List, [], ◌∷◌, ◌++◌}
use Prim.Native.Nat.{ℕ, ◌-◌, ◌/◌, ◌≤◌}
use native.Mathlib.Omega.{arith}
use borrow.Author.Tests.{le-leb}
use lib.ListN.{length, drop, length-drop}
use Rattle.wire.specs.ByteOrder.{high_byte, low_byte, high_first, word_at}
use Rattle.wire.specs.Room.{over, Laid, lays, laid}
use Rattle.wire.proofs.Over.{over_nil}
use Rattle.frame.specs.declared.Header.{Header}
use Rattle.frame.specs.Frame.{header_bytes, check_length, frame_of, most_data}
use Rattle.frame.specs.Writer.{least_room, frame_laid}
use Rattle.frame.proofs.Writers.{length_frame_of}
use Rattle.words.specs.declared.WordAddress.{WordAddress}
use Rattle.words.specs.Words.{word_at_address}
use Rattle.words.proofs.Carried.{length_words_of}
use Rattle.touch.specs.declared.Setup.{Setup}
use Rattle.touch.specs.Setup.{checking_of}
use Rattle.watch.specs.declared.WatchList.{WatchList}
use Rattle.watch.specs.Watched.{list_of, with_sent}
use Rattle.watch.specs.Noting.{noted}
use Rattle.watch.specs.Sending.{sending}
use Rattle.commands.specs.Lent.{lending}
use Rattle.panel.specs.State.{header_for, header_of}
use Rattle.panel.specs.Reporting.{noting}
use Rattle.panel.specs.Watching.{unasked, tells, telling}

-- a list whose values alone were written
pub only_sent : (list after : WatchList) (values : List ℕ) → after ≡ with_sent list values → after ≡ with_sent list after.values.now
only_sent list after values is = rw is

-- what a report notes
module _ (notes : Bool) (content words : List ℕ) (list : WatchList) where
  pub words_noted : (first n : ℕ) (after : WatchList) → notes ≡ true → first ≡ word_at content 0 → n ≡ length content - 2
      → after ≡ with_sent list (noted words (list_of list) first (n / 2)) → list_of after ≡ noting notes content words (list_of list)
  words_noted first n after is is-first is-n e = rw (is, e, is-first, is-n, length_words_of (drop 2 content), length-drop 2 content)

  pub nothing_noted : notes ≡ false → list_of list ≡ noting notes content words (list_of list)
  nothing_noted is = rw is

-- the reply's data, byte by byte
pub reply_put : (setup : Setup) (address word high low high' low' : ℕ) (header : Header) (c : Bool) (count : ℕ) (room left : List ℕ) → high ≡ high_byte address
    → low ≡ low_byte address → high' ≡ high_byte word → low' ≡ low_byte word → header ≡ header_for setup → c ≡ checking_of setup
    → lays count left ≡ frame_laid c (header_bytes header) 0x83 (high ∷ low ∷ 1 ∷ high' ∷ low' ∷ []) room
    → lays count left ≡ frame_laid (checking_of setup) (header_of setup) 0x83 (high_first address ++ (1 ∷ high_first word)) room
reply_put setup address word high low high' low' header c count room left a b d e is-h is_c laid_so = rw (← a, ← b, ← d, ← e, ← is-h, ← is_c) laid_so

-- a room that is large enough holds the reply
reply_laid : (checking : Bool) (header : Header) (a b c d : ℕ) (room : List ℕ) → least_room ≤ length room
    → frame_laid checking (header_bytes header) 0x83 (a ∷ b ∷ 1 ∷ c ∷ d ∷ []) room
    ≡ lays (length (frame_of checking (header_bytes header) 0x83 (a ∷ b ∷ 1 ∷ c ∷ d ∷ []))) (over (frame_of checking (header_bytes header) 0x83 (a ∷ b ∷ 1 ∷ c ∷ d ∷ [])) room)
unfolding frame_laid laid header_bytes check_length most_data
reply_laid true header a b c d room large =
    rw (le-leb (length (frame_of true (header_bytes header) 0x83 (a ∷ b ∷ 1 ∷ c ∷ d ∷ []))) (length room)
    (omega (arith, length_frame_of true (header_bytes header) 0x83 (a ∷ b ∷ 1 ∷ c ∷ d ∷ []))))
reply_laid false header a b c d room large =
    rw (le-leb (length (frame_of false (header_bytes header) 0x83 (a ∷ b ∷ 1 ∷ c ∷ d ∷ []))) (length room)
    (omega (arith, length_frame_of false (header_bytes header) 0x83 (a ∷ b ∷ 1 ∷ c ∷ d ∷ []))))

-- an unasked reply has at most eleven bytes
pub unasked_short : (setup : Setup) (words : List ℕ) (due : Option WordAddress) → length (unasked setup words due) ≤ 11
unfolding unasked header_bytes check_length
unasked_short setup words None = omega arith
unasked_short setup words (Some address) = go (checking_of setup)
  where
    payload : List ℕ
    payload = high_first address.0 ++ (1 ∷ high_first (word_at_address words address.0))

    go : (k : Bool) → length (frame_of k (header_of setup) 0x83 payload) ≤ 11
    go true = omega (arith, length_frame_of true (header_of setup) 0x83 payload)
    go false = omega (arith, length_frame_of false (header_of setup) 0x83 payload)

-- what a contact tells
module _ (setup : Setup) (words room : List ℕ) (list after : WatchList) (due : Option WordAddress)
    (is-due : due ≡ (sending words (list_of list)).due) (is-after : after ≡ with_sent list (sending words (list_of list)).values) where
  -- the sending that was found is the one that is told
  told_as_found : (curves : List ℕ)
      → tells (length (unasked setup words due)) (lending words curves (over (unasked setup words due) room) (list_of after))
      ≡ telling setup (lending words curves room (list_of list))
  unfolding telling
  told_as_found curves = rw (is-due, is-after)

  pub none_told : due ≡ None → (curves : List ℕ) → tells 0 (lending words curves room (list_of after)) ≡ telling setup (lending words curves room (list_of list))
  unfolding unasked
  none_told is curves = rw (is, over_nil room) at (told_as_found curves)

  pub one_told : (a : WordAddress) (w count : ℕ) (left : List ℕ) → due ≡ Some a → least_room ≤ length room → w ≡ word_at_address words a.0
      → lays count left ≡ frame_laid (checking_of setup) (header_of setup) 0x83 (high_first a.0 ++ (1 ∷ high_first w)) room → (curves : List ℕ)
      → tells count (lending words curves left (list_of after)) ≡ telling setup (lending words curves room (list_of list))
  unfolding unasked
  one_told a w count left is large is-w laid_so curves =
      let whole = laid_so ∙ reply_laid (checking_of setup) (header_for setup) (high_byte a.0) (low_byte a.0) (high_byte w) (low_byte w) room large in
      ap (λ (l : Laid). tells l.count (lending words curves l.room (list_of after))) whole ∙ rw (is, ← is-w) at (told_as_found curves)
