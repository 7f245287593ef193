-- Demand 2: "No word or register changes but those the .. touch rule names."
use mathlib.Core.Path.{◌≡◌, refl, ◌∙◌}
use mathlib.Core.Logic.{◌⊎◌, ◌≢◌, inl, inr, ⊎_elim}
use mathlib.Core.Bool.{Bool, true, false, cond}
use mathlib.Core.List.{List}
use Prim.Native.Nat.{ℕ, ◌≤◌, ◌<◌}
use native.Mathlib.Omega.{arith}
use borrow.Author.Tests.{eqb-true, eqb-false}
use lib.Dec.{eqb}
use lib.ListN.{length}
use Rattle.std.specs.Prelude.{Some, None}
use Rattle.registers.specs.declared.Registers.{Registers}
use Rattle.registers.specs.Table.{register_at}
use Rattle.registers.specs.Touched.{page_of, with_page, is_down, with_status, with_place}
use Rattle.registers.proofs.Touched.{length_with_status, status_now, status_only, page_only, length_with_place, place_only}
use Rattle.words.specs.Words.{word_at_address, word_set}
use Rattle.words.proofs.OneWord.{other_word_stays}
use Rattle.touch.specs.declared.Setup.{Setup}
use Rattle.touch.specs.declared.Record.{Record}
use Rattle.touch.specs.Record.{no_next}
use Rattle.touch.specs.Table.{Found}
use Rattle.touch.specs.Find.{found}
use Rattle.touch.specs.Act.{acted_of, dragged_of}
use Rattle.contact.specs.declared.Pad.{Pad}
use Rattle.contact.specs.Contact.{Catch, pad_with, showing, catching, acting, pressed, dragging, held_down, touched, lifted}

-- the word that a touch names: that of the record which acts, or of the caught one
pub data NamesWord (pad : Pad) (table : List ℕ) (x y k : ℕ) : Type 0 where
  acts : (i : ℕ) (r : Record) → is_down pad.registers ≡ false → found table (page_of pad.registers) x y ≡ Some (i, r) → k ≡ r.word → NamesWord pad table x y k
  drags : (r : Record) → is_down pad.registers ≡ true → pad.catch ≡ Some r → k ≡ r.word → NamesWord pad table x y k

-- one word set: another stays
one_set : {B : Type 0} (words : List ℕ) (address word k : ℕ) → (k ≡ address → B)
    → (word_at_address (word_set words address word) k ≡ word_at_address words k) ⊎ B
one_set {B} words address word k named = go (eqb k address) refl
  where
    go : (b : Bool) → eqb k address ≡ b → (word_at_address (word_set words address word) k ≡ word_at_address words k) ⊎ B
    go true is = inr (named (eqb-true k address is))
    go false is = inl (other_word_stays words address word k (eqb-false k address is))

module _ (setup : Setup) (pad : Pad) (table words : List ℕ) (x y : ℕ) where
  pressed_word : is_down pad.registers ≡ false → (k : ℕ)
      → (word_at_address (pressed setup pad table words x y).words k ≡ word_at_address words k) ⊎ NamesWord pad table x y k
  unfolding pressed acting
  pressed_word up k = go (found table (page_of pad.registers) x y) refl
    where
      now : Registers
      now = with_place (with_status pad.registers 0x01) x y

      go : (f : Found) → found table (page_of pad.registers) x y ≡ f
          → (word_at_address (acting setup f now pad.catch words x y).words k ≡ word_at_address words k) ⊎ NamesWord pad table x y k
      go None is = inl refl
      go (Some (i, r)) is = one_set words r.word (acted_of setup r (word_at_address words r.word) x y) k (acts i r up is)

  held_down_word : is_down pad.registers ≡ true → (k : ℕ)
      → (word_at_address (held_down setup pad words x y).words k ≡ word_at_address words k) ⊎ NamesWord pad table x y k
  unfolding held_down dragging
  held_down_word down k = go pad.catch refl
    where
      go : (c : Catch) → pad.catch ≡ c → (word_at_address (dragging setup c words x y) k ≡ word_at_address words k) ⊎ NamesWord pad table x y k
      go None is = inl refl
      go (Some r) is = one_set words r.word (dragged_of setup r (word_at_address words r.word) x y) k (drags r down is)

  -- a word stays, or it is the word of the record that acts or is caught
  pub word_named : (k : ℕ) → (word_at_address (touched setup pad table words x y).words k ≡ word_at_address words k) ⊎ NamesWord pad table x y k
  unfolding touched
  word_named k = go (is_down pad.registers) refl
    where
      go : (b : Bool) → is_down pad.registers ≡ b
          → (word_at_address (cond b (held_down setup pad words x y) (pressed setup pad table words x y)).words k ≡ word_at_address words k)
          ⊎ NamesWord pad table x y k
      go true is = held_down_word is k
      go false is = pressed_word is k

-- status, flag and place set
module _ (registers : Registers) (whole : length registers.bytes ≡ 256) (status x y : ℕ) where
  abbrev marked : Registers
  marked = with_place (with_status registers status) x y

  pub length_marked : length marked.bytes ≡ 256
  length_marked = length_with_place (with_status registers status) (length_with_status registers whole status) x y

  pub marked_status : register_at marked 0x06 ≡ status
  marked_status =
      place_only (with_status registers status) (length_with_status registers whole status) x y 0x06 (λ e. omega arith) (inl (omega arith))
      ∙ status_now registers whole status

  pub marked_only : (address : ℕ) → (address < 0x05) ⊎ (0x0B ≤ address) → register_at marked address ≡ register_at registers address
  marked_only address outside =
      place_only (with_status registers status) (length_with_status registers whole status) x y address (flag outside) (place outside)
      ∙ status_only registers whole status address (mark outside)
    where
      flag : (address < 0x05) ⊎ (0x0B ≤ address) → address ≢ 0x05
      flag (inl l) = λ e. omega arith
      flag (inr l) = λ e. omega arith

      mark : (address < 0x05) ⊎ (0x0B ≤ address) → address ≢ 0x06
      mark (inl l) = λ e. omega arith
      mark (inr l) = λ e. omega arith

      place : (address < 0x05) ⊎ (0x0B ≤ address) → (address < 0x07) ⊎ (0x0B ≤ address)
      place (inl l) = inl (omega arith)
      place (inr l) = inr l

-- the registers that a contact names: 03-04 for a next page, 05 the flag, 06 the status, 07-0A the place
module _ (setup : Setup) (pad : Pad) (whole : length pad.registers.bytes ≡ 256) (table words : List ℕ) (x y address : ℕ)
    (outside : (address < 0x03) ⊎ (0x0B ≤ address)) where
  far : (address < 0x05) ⊎ (0x0B ≤ address)
  far = ⊎_elim (λ l. inl (omega arith)) inr outside

  behind_page : (address < 0x03) ⊎ (0x05 ≤ address)
  behind_page = ⊎_elim inl (λ l. inr (omega arith)) outside

  showing_register : (r : Record) (registers : Registers) (catch : Catch) → length registers.bytes ≡ 256
      → register_at (showing r registers catch).registers address ≡ register_at registers address
  unfolding showing
  showing_register r registers catch long = go (no_next r)
    where
      go : (b : Bool)
          → register_at (cond b (pad_with registers catch) (pad_with (with_page registers r.next) None)).registers address
          ≡ register_at registers address
      go true = refl
      go false = page_only registers long r.next address behind_page

  acting_register : (f : Found) (registers : Registers) (catch : Catch) → length registers.bytes ≡ 256
      → register_at (acting setup f registers catch words x y).pad.registers address ≡ register_at registers address
  unfolding acting
  acting_register None registers catch long = refl
  acting_register (Some (i, r)) registers catch long = showing_register r registers (catching r catch) long

  pub other_register_stays : register_at (touched setup pad table words x y).pad.registers address ≡ register_at pad.registers address
  unfolding touched held_down pressed
  other_register_stays = go (is_down pad.registers)
    where
      go : (b : Bool)
          → register_at (cond b (held_down setup pad words x y) (pressed setup pad table words x y)).pad.registers address
          ≡ register_at pad.registers address
      go true = marked_only pad.registers whole 0x03 x y address far
      go false =
          acting_register (found table (page_of pad.registers) x y) (with_place (with_status pad.registers 0x01) x y) pad.catch
          (length_marked pad.registers whole 0x01 x y)
          ∙ marked_only pad.registers whole 0x01 x y address far

-- "Contact while down: .. nothing else acts": no page is shown
pub page_stays_down : (setup : Setup) (pad : Pad) → length pad.registers.bytes ≡ 256 → (table words : List ℕ) (x y address : ℕ)
    → is_down pad.registers ≡ true → address < 0x05
    → register_at (touched setup pad table words x y).pad.registers address ≡ register_at pad.registers address
unfolding touched held_down
page_stays_down setup pad whole table words x y address down low = rw down (marked_only pad.registers whole 0x03 x y address (inl low))

-- "Lift: status 02": no other register
pub lift_only_status : (pad : Pad) → length pad.registers.bytes ≡ 256 → (address : ℕ) → address ≢ 0x06
    → register_at (lifted pad).registers address ≡ register_at pad.registers address
unfolding lifted
lift_only_status pad whole address other = status_only pad.registers whole 0x02 address other
