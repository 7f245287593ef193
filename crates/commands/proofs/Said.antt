-- What is said of a command is what 01's list gives: 2 to 7 in turn, or 0 and how long the reply is.
use mathlib.Core.Path.{◌≡◌, refl, ap, ◌∙◌}
use mathlib.Core.Bool.{Bool, true, false, cond, not, ◌||◌}
use mathlib.Core.List.{List, [], ◌∷◌}
use Prim.Native.Nat.{ℕ, ◌+◌, ◌%◌, ◌≤◌, ◌<◌}
use native.Mathlib.Omega.{arith}
use borrow.Author.Tests.{le-leb, lt-ltb, ltb-false, eqb-true, eqb-false}
use lib.Dec.{eqb, ltb, leb}
use lib.ListN.{length, drop}
use Rattle.wire.specs.Addresses.{register_count}
use Rattle.wire.specs.ByteOrder.{byte_at, word_at}
use Rattle.wire.specs.Numbers.{Said, says, first_said}
use Rattle.wire.specs.Room.{over, lays, laid}
use Rattle.frame.specs.Frame.{header_bytes, frame_of, most_data}
use Rattle.frame.specs.Writer.{frame_laid}
use Rattle.frame.proofs.Writers.{length_frame_of}
use Rattle.registers.specs.declared.Registers.{Registers}
use Rattle.registers.specs.Run.{unwritable_run, wrong_value}
use Rattle.words.specs.Words.{words_of}
use Rattle.curves.specs.Rounds.{wrong_rounds}
use Rattle.commands.specs.declared.Fixed.{Fixed}
use Rattle.commands.specs.declared.Performed.{Performed}
use Rattle.std.specs.Prelude.{Ok, Err}
use Rattle.commands.specs.declared.Refusal.TheVariants.{WrongData, PastEnd, Unwritable, WrongValue, ReplyTooLong}
use Rattle.watch.specs.Watched.{none_watched}
use Rattle.commands.specs.Lent.{Lent, lending, with_words_room}
use Rattle.commands.specs.Outcome.{number_of_outcome, reply_too_long, write_registers_outcome, read_registers_outcome, write_words_outcome, read_words_outcome, add_curves_outcome}
use Rattle.commands.specs.Reply.{registers_reply, words_reply}
use Rattle.commands.specs.Effect.{registers_writing, curves_adding, words_writing, replying, registers_replying, words_replying}
use Rattle.commands.specs.Perform.{Performance, performs, performance}
use Rattle.commands.specs.Listed.{performed_said, not_command, by_command, wrong_data, passes_end, touches_unwritable, value_wrong, reply_passes, perform_listed, frame_length, reply_length, laid_length, perform_said}
use Rattle.commands.proofs.Reading.{short_reply}
use Rattle.commands.proofs.Replies.{length_registers_reply, length_words_reply}

-- no reply is 0 long, in every room
none_laid : (room : ℕ) → laid_length room 0 ≡ 0
unfolding laid_length
none_laid room = go (leb 0 room)
  where
    go : (b : Bool) → ◌≡◌ {A = ℕ} (cond b 0 0) 0
    go true = refl
    go false = refl

-- a reply within the limit is laid where the room holds it
reply_laid : (fixed : Fixed) (command : ℕ) (payload room : List ℕ) (k : ℕ) → length payload ≡ k → k ≤ most_data fixed.checking
    → (frame_laid fixed.checking (header_bytes fixed.header) command payload room).count ≡ laid_length (length room) (frame_length fixed k)
unfolding frame_laid laid laid_length frame_length
reply_laid fixed command payload room k is fits =
    let frame = frame_of fixed.checking (header_bytes fixed.header) command payload in
    let long : length frame ≡ frame_length fixed k =
    length_frame_of fixed.checking (header_bytes fixed.header) command payload ∙ ap (frame_length fixed) is in
    rw (le-leb (length payload) (most_data fixed.checking) (rw is fits), ← long) (go frame (leb (length frame) (length room)))
  where
    go : (frame : List ℕ) (b : Bool) → (cond b (lays (length frame) (over frame room)) (lays 0 room)).count ≡ cond b (length frame) 0
    go frame true = refl
    go frame false = refl

-- a read: 3, 4, 7 in turn, or its reply
read_said : (fixed : Fixed) (command : ℕ) (payload room : List ℕ) (k : ℕ) (a b c : Bool)
    → (b ≡ false → c ≡ false → (length payload ≡ k) × (k ≤ most_data fixed.checking))
    → performed_said (replying fixed (cond a (Err WrongData) (cond b (Err PastEnd) (cond c (Err ReplyTooLong) (Ok tt)))) command payload room).performed
    ≡ cond a (says 3 (0 ∷ [])) (cond b (says 4 (0 ∷ [])) (cond c (says 7 (0 ∷ [])) (says 0 (laid_length (length room) (frame_length fixed k) ∷ []))))
unfolding performed_said number_of_outcome replying
read_said fixed command payload room k true b c fits = refl
read_said fixed command payload room k false true c fits = refl
read_said fixed command payload room k false false true fits = refl
read_said fixed command payload room k false false false fits =
    let both = fits refl refl in
    ap (λ (n : ℕ). says 0 (n ∷ [])) (reply_laid fixed command payload room k both.0 both.1)

module _ (fixed : Fixed) (registers : Registers) (content : List ℕ) (lent : Lent) where
  -- what is said of a command, and by 01's list
  abbrev said_of : ℕ → Said
  said_of command = performed_said (performance fixed registers command content lent).performed

  abbrev listed_for : ℕ → Said
  listed_for command = perform_said fixed (length lent.words) (length lent.room) command content

  said_80 : said_of 0x80 ≡ listed_for 0x80
  unfolding performance registers_writing write_registers_outcome performed_said number_of_outcome perform_said perform_listed reply_length first_said not_command by_command wrong_data passes_end touches_unwritable value_wrong reply_passes
  said_80 =
      rw (none_laid (length lent.room))
      (go (ltb (length content) 2) (ltb register_count (byte_at content 0 + length (drop 1 content))) (unwritable_run (byte_at content 0) (length (drop 1 content)))
      (wrong_value (byte_at content 0) (drop 1 content) fixed.pages))
    where
      go : (a b c d : Bool)
          → says (number_of_outcome (cond a (Err WrongData) (cond b (Err PastEnd) (cond c (Err Unwritable) (cond d (Err WrongValue) (Ok tt)))))) (0 ∷ [])
          ≡ cond a (says 3 (0 ∷ [])) (cond b (says 4 (0 ∷ [])) (cond c (says 5 (0 ∷ [])) (cond d (says 6 (0 ∷ [])) (says 0 (0 ∷ [])))))
      go true b c d = refl
      go false true c d = refl
      go false false true d = refl
      go false false false true = refl
      go false false false false = refl

  said_81 : said_of 0x81 ≡ listed_for 0x81
  unfolding performance registers_replying read_registers_outcome perform_said perform_listed reply_length first_said not_command by_command wrong_data passes_end touches_unwritable value_wrong reply_passes
  said_81 =
      let address = byte_at content 0 in
      let count = byte_at content 1 in
      read_said fixed 0x81 (registers_reply registers address count) lent.room (2 + count) (not (eqb (length content) 2)) (ltb register_count (address + count))
      (reply_too_long fixed.checking (2 + count)) (λ within short. (length_registers_reply registers address count, short_reply fixed.checking (2 + count) short))

  said_82 : said_of 0x82 ≡ listed_for 0x82
  unfolding performance words_writing write_words_outcome performed_said number_of_outcome perform_said perform_listed reply_length first_said not_command by_command wrong_data passes_end touches_unwritable value_wrong reply_passes
  said_82 =
      rw (none_laid (length lent.room))
      (go (ltb (length content) 4 || eqb (length content % 2) 1) (ltb (length lent.words) (word_at content 0 + length (words_of (drop 2 content)))))
    where
      go : (a b : Bool) → says (number_of_outcome (cond a (Err WrongData) (cond b (Err PastEnd) (Ok tt)))) (0 ∷ []) ≡ cond a (says 3 (0 ∷ [])) (cond b (says 4 (0 ∷ [])) (says 0 (0 ∷ [])))
      go true b = refl
      go false true = refl
      go false false = refl

  said_83 : said_of 0x83 ≡ listed_for 0x83
  unfolding performance words_replying read_words_outcome perform_said perform_listed reply_length first_said not_command by_command wrong_data passes_end touches_unwritable value_wrong reply_passes
  said_83 =
      let address = word_at content 0 in
      let count = byte_at content 2 in
      let end = length lent.words in
      read_said fixed 0x83 (words_reply lent.words address count) lent.room (3 + (count + count)) (not (eqb (length content) 3)) (ltb end (address + count))
      (reply_too_long fixed.checking (3 + (count + count)))
      (λ within short.
      (length_words_reply lent.words address count (ltb-false end (address + count) within), short_reply fixed.checking (3 + (count + count)) short))

  said_84 : said_of 0x84 ≡ listed_for 0x84
  unfolding performance curves_adding add_curves_outcome performed_said number_of_outcome perform_said perform_listed reply_length first_said not_command by_command wrong_data passes_end touches_unwritable value_wrong reply_passes
  said_84 = rw (none_laid (length lent.room)) (go (wrong_rounds content))
    where
      go : (a : Bool) → says (number_of_outcome (cond a (Err WrongData) (Ok tt))) (0 ∷ []) ≡ cond a (says 3 (0 ∷ [])) (says 0 (0 ∷ []))
      go true = refl
      go false = refl

  unknown : (command : ℕ) → (command ≡ 0x80 → ⊥) → (command ≡ 0x81 → ⊥) → (command ≡ 0x82 → ⊥) → (command ≡ 0x83 → ⊥) → (command ≡ 0x84 → ⊥)
      → not_command command content ≡ true
  unfolding not_command
  unknown command a b c d e = go (ltb command 0x80) refl
    where
      go : (low : Bool) → ltb command 0x80 ≡ low → (low || ltb 0x84 command) ≡ true
      go true is = refl
      go false is =
          let from : 0x80 ≤ command = ltb-false command 0x80 is in
          let above : 0x84 < command = omega arith in
          lt-ltb 0x84 command above

  -- "2 to 7 in turn"
  pub perform_as_listed : (command : ℕ) → said_of command ≡ listed_for command
  unfolding performance performed_said number_of_outcome perform_said perform_listed first_said
  perform_as_listed command =
      go (eqb command 0x80) refl (eqb command 0x81) refl (eqb command 0x82) refl (eqb command 0x83) refl (eqb command 0x84) refl
    where
      go : (a : Bool) → eqb command 0x80 ≡ a → (b : Bool) → eqb command 0x81 ≡ b → (c : Bool) → eqb command 0x82 ≡ c → (d : Bool) → eqb command 0x83 ≡ d
          → (e : Bool) → eqb command 0x84 ≡ e → said_of command ≡ listed_for command
      go true is b p c q d r e t = rw (eqb-true command 0x80 is) said_80
      go false is true p c q d r e t = rw (eqb-true command 0x81 p) said_81
      go false is false p true q d r e t = rw (eqb-true command 0x82 q) said_82
      go false is false p false q true r e t = rw (eqb-true command 0x83 r) said_83
      go false is false p false q false r true t = rw (eqb-true command 0x84 t) said_84
      go false is false p false q false r false t =
          let none =
          unknown command (eqb-false command 0x80 is) (eqb-false command 0x81 p) (eqb-false command 0x82 q) (eqb-false command 0x83 r)
          (eqb-false command 0x84 t) in
          rw (is, p, q, r, t, none)

-- where a thing holds whatever is lent, it may be taken to be this
abbrev pub nothing_lent : Lent
nothing_lent = lending [] [] [] none_watched

-- what is said of a command does not go by what else is lent, which it leaves
pub perform_said_lem : (fixed : Fixed) (registers : Registers) (command : ℕ) (content words room : List ℕ) (p : Performed) (words' left : List ℕ)
    → ((rest : Lent) → performs p (with_words_room rest words' left) ≡ performance fixed registers command content (with_words_room rest words room))
    → ((rest : Lent) → performs p (with_words_room rest words' left) ≡ performance fixed registers command content (with_words_room rest words room))
    × (performed_said p ≡ perform_said fixed (length words) (length room) command content)
perform_said_lem fixed registers command content words room p words' left is =
    (is, ap (λ (d : Performance). performed_said d.performed) (is nothing_lent) ∙ perform_as_listed fixed registers content (with_words_room nothing_lent words room) command)
