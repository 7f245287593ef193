-- Demand 2: "No word or register changes but those the command .. rule names."
use mathlib.Core.Path.{◌≡◌, refl, ap, ◌∙◌}
use mathlib.Core.Logic.{◌⊎◌, inl, inr}
use mathlib.Core.Bool.{Bool, true, false, cond, ◌&&◌}
use mathlib.Core.List.{List}
use Prim.Native.Nat.{ℕ, ◌+◌, ◌≤◌, ◌<◌}
use borrow.Author.Tests.{ltb-true, ltb-false, eqb-true}
use lib.Dec.{eqb, ltb}
use lib.ListN.{length, get_or, drop}
use Rattle.wire.specs.Addresses.{register_count}
use Rattle.wire.specs.ByteOrder.{byte_at, word_at}
use Rattle.registers.specs.declared.Registers.{Registers}
use Rattle.registers.specs.Table.{register_at}
use Rattle.registers.proofs.Written.{others_stay}
use Rattle.words.specs.Words.{word_at_address, words_of, words_written}
use Rattle.words.proofs.Written.{other_words_stay}
use Rattle.commands.specs.declared.Fixed.{Fixed}
use Rattle.commands.specs.Lent.{Lent}
use Rattle.commands.specs.Outcome.{is_done, write_registers_outcome, write_words_outcome, add_curves_outcome}
use Rattle.commands.specs.Effect.{registers_left, catch_dropped, registers_writing, curves_adding, words_writing, replying, registers_replying, words_replying}
use Rattle.commands.specs.Perform.{registers_by, Performance, performance}
use Rattle.commands.proofs.DoneWrites.{registers_passed, words_passed}

-- a place lies before a run, in it or behind it
data Placed (k first n : ℕ) : Type 0 where
  outside : (k < first) ⊎ (first + n ≤ k) → Placed k first n
  inside : first ≤ k → k < first + n → Placed k first n

placed : (k first n : ℕ) → Placed k first n
placed k first n = go (ltb k first) refl (ltb k (first + n)) refl
  where
    go : (a : Bool) → ltb k first ≡ a → (b : Bool) → ltb k (first + n) ≡ b → Placed k first n
    go true p b q = outside (inl (ltb-true k first p))
    go false p true q = inside (ltb-false k first p) (ltb-true k (first + n) q)
    go false p false q = outside (inr (ltb-false k (first + n) q))

-- what 0x82 names: the words of its run, where it is done
pub record NamesWord (command : ℕ) (content : List ℕ) (end k : ℕ) : Type 0 where
  pub writes : command ≡ 0x82
  pub done : is_done (write_words_outcome end content) ≡ true
  pub from : word_at content 0 ≤ k
  pub below : k < word_at content 0 + length (words_of (drop 2 content))

-- what 0x80 names: the registers of its run, where it is done
pub record NamesRegister (command : ℕ) (content : List ℕ) (pages address : ℕ) : Type 0 where
  pub writes : command ≡ 0x80
  pub done : is_done (write_registers_outcome pages content) ≡ true
  pub from : byte_at content 0 ≤ address
  pub below : address < byte_at content 0 + length (drop 1 content)

-- of five ways that leave the same
of_five : {B : Type 0} (f : Performance → B) (r : B) (a b c d : Bool) (v w x y z : Performance) → f v ≡ r → f w ≡ r → f x ≡ r → f y ≡ r → f z ≡ r
    → f (cond a v (cond b w (cond c x (cond d y z)))) ≡ r
of_five f r true b c d v w x y z p q s t u = p
of_five f r false true c d v w x y z p q s t u = q
of_five f r false false true d v w x y z p q s t u = s
of_five f r false false false true v w x y z p q s t u = t
of_five f r false false false false v w x y z p q s t u = u

abbrev writes_registers : Fixed → List ℕ → Bool
writes_registers fixed content = is_done (write_registers_outcome fixed.pages content)

abbrev writes_words : List ℕ → List ℕ → Bool
writes_words words content = is_done (write_words_outcome (length words) content)

module _ (fixed : Fixed) (registers : Registers) (content : List ℕ) (lent : Lent) where
  writes_by_80 : (performance fixed registers 0x80 content lent).performed.writes ≡ writes_registers fixed content
  unfolding performance registers_writing
  writes_by_80 = refl

  drops_by_80 : (performance fixed registers 0x80 content lent).performed.drops ≡ (writes_registers fixed content && catch_dropped content)
  unfolding performance registers_writing
  drops_by_80 = refl

  adds_by_84 : (performance fixed registers 0x84 content lent).performed.adds ≡ is_done (add_curves_outcome content)
  unfolding performance curves_adding
  adds_by_84 = refl

  notes_by_82 : (performance fixed registers 0x82 content lent).performed.notes ≡ writes_words lent.words content
  unfolding performance words_writing
  notes_by_82 = refl

  written_by_82 : (performance fixed registers 0x82 content lent).lent.words
      ≡ cond (writes_words lent.words content) (words_written lent.words (word_at content 0) (drop 2 content)) lent.words
  unfolding performance words_writing
  written_by_82 = refl

  module _ (command : ℕ) where
    -- only 0x80 writes registers and drops the catch
    pub writes_none : eqb command 0x80 ≡ false → (performance fixed registers command content lent).performed.writes ≡ false
    unfolding performance registers_replying words_writing words_replying replying curves_adding
    writes_none not =
        rw not
        (of_five (λ (d : Performance). d.performed.writes) false (eqb command 0x81) (eqb command 0x82) (eqb command 0x83) (eqb command 0x84) _ _ _ _ _ refl refl refl refl
        refl)

    -- only 0x84 adds to curves, where it is done
    pub adds_none : eqb command 0x84 ≡ false → (performance fixed registers command content lent).performed.adds ≡ false
    unfolding performance registers_writing registers_replying words_writing words_replying replying
    adds_none not =
        rw not
        (of_five (λ (d : Performance). d.performed.adds) false (eqb command 0x80) (eqb command 0x81) (eqb command 0x82) (eqb command 0x83) _ _ _ _ _ refl refl
        refl refl refl)

    pub adds_as_done : command ≡ 0x84 → (performance fixed registers command content lent).performed.adds ≡ is_done (add_curves_outcome content)
    adds_as_done is = rw (is, adds_by_84)

    -- only 0x82 has words noted, where it is done
    pub notes_none : eqb command 0x82 ≡ false → (performance fixed registers command content lent).performed.notes ≡ false
    unfolding performance registers_writing registers_replying words_replying replying curves_adding
    notes_none not =
        rw not
        (of_five (λ (d : Performance). d.performed.notes) false (eqb command 0x80) (eqb command 0x81) (eqb command 0x83) (eqb command 0x84) _ _ _ _ _ refl refl
        refl refl refl)

    pub notes_as_done : command ≡ 0x82 → (performance fixed registers command content lent).performed.notes ≡ writes_words lent.words content
    notes_as_done is = rw (is, notes_by_82)

    pub catch_stays : eqb command 0x80 ≡ false → (performance fixed registers command content lent).performed.drops ≡ false
    unfolding performance registers_replying words_writing words_replying replying curves_adding
    catch_stays not =
        rw not
        (of_five (λ (d : Performance). d.performed.drops) false (eqb command 0x81) (eqb command 0x82) (eqb command 0x83) (eqb command 0x84) _ _ _ _ _ refl refl refl refl
        refl)

    pub registers_stay : eqb command 0x80 ≡ false → registers_by (performance fixed registers command content lent).performed registers content ≡ registers
    registers_stay not = rw (writes_none not)

    -- only 0x82 writes words
    pub words_stay : eqb command 0x82 ≡ false → (performance fixed registers command content lent).lent.words ≡ lent.words
    unfolding performance
    words_stay not =
        rw not
        (of_five (λ (d : Performance). d.lent.words) lent.words (eqb command 0x80) (eqb command 0x81) (eqb command 0x83) (eqb command 0x84) _ _ _ _ _ refl refl
        refl refl refl)

    -- an 0x80 and an 0x82 that are done write their run; one that is refused writes nothing
    pub registers_as_done : (b : Bool) → command ≡ 0x80 → writes_registers fixed content ≡ b
        → registers_by (performance fixed registers command content lent).performed registers content ≡ cond b (registers_left registers content) registers
    registers_as_done b is done = rw (is, writes_by_80, done)

    pub catch_as_done : command ≡ 0x80
        → (performance fixed registers command content lent).performed.drops ≡ (writes_registers fixed content && catch_dropped content)
    catch_as_done is = rw (is, drops_by_80)

    pub words_as_done : (b : Bool) → command ≡ 0x82 → writes_words lent.words content ≡ b
        → (performance fixed registers command content lent).lent.words
        ≡ cond b (words_written lent.words (word_at content 0) (drop 2 content)) lent.words
    words_as_done b is done = rw (is, written_by_82, done)

    -- a register stays, or an 0x80 that is done has it in its run
    pub register_named : length registers.bytes ≡ register_count → (address : ℕ)
        → (register_at (registers_by (performance fixed registers command content lent).performed registers content) address ≡ register_at registers address)
        ⊎ NamesRegister command content fixed.pages address
    unfolding registers_left
    register_named whole address = go (eqb command 0x80) refl (writes_registers fixed content) refl
      where
        after : Registers
        after = registers_by (performance fixed registers command content lent).performed registers content

        wrote : command ≡ 0x80 → writes_registers fixed content ≡ true → Placed address (byte_at content 0) (length (drop 1 content))
            → (register_at after address ≡ register_at registers address) ⊎ NamesRegister command content fixed.pages address
        wrote is done (inside from below) = inr (record { writes = is; done = done; from = from; below = below })
        wrote is done (outside out) =
            inl (ap (λ (r : Registers). register_at r address) (registers_as_done true is done)
            ∙ others_stay registers whole (byte_at content 0) (drop 1 content) (registers_passed fixed.pages content done).fits address out)

        go : (a : Bool) → eqb command 0x80 ≡ a → (b : Bool) → writes_registers fixed content ≡ b
            → (register_at after address ≡ register_at registers address) ⊎ NamesRegister command content fixed.pages address
        go false is b done = inl (ap (λ (r : Registers). register_at r address) (registers_stay is))
        go true is false done =
            inl (ap (λ (r : Registers). register_at r address) (registers_as_done false (eqb-true command 0x80 is) done))
        go true is true done = wrote (eqb-true command 0x80 is) done (placed address (byte_at content 0) (length (drop 1 content)))

    -- a word stays, or an 0x82 that is done has it in its run
    pub word_named : (k : ℕ) → (word_at_address (performance fixed registers command content lent).lent.words k ≡ word_at_address lent.words k)
        ⊎ NamesWord command content (length lent.words) k
    unfolding word_at_address
    word_named k = go (eqb command 0x82) refl (writes_words lent.words content) refl
      where
        words : List ℕ
        words = lent.words

        after : List ℕ
        after = (performance fixed registers command content lent).lent.words

        wrote : command ≡ 0x82 → writes_words words content ≡ true → Placed k (word_at content 0) (length (words_of (drop 2 content)))
            → (get_or after k 0 ≡ get_or words k 0) ⊎ NamesWord command content (length words) k
        wrote is done (inside from below) = inr (record { writes = is; done = done; from = from; below = below })
        wrote is done (outside out) =
            inl (ap (λ (l : List ℕ). get_or l k 0) (words_as_done true is done)
            ∙ other_words_stay words (drop 2 content) (word_at content 0) (words_passed (length words) content done).fits k out)

        go : (a : Bool) → eqb command 0x82 ≡ a → (b : Bool) → writes_words words content ≡ b
            → (get_or after k 0 ≡ get_or words k 0) ⊎ NamesWord command content (length words) k
        go false is b done = inl (ap (λ (l : List ℕ). get_or l k 0) (words_stay is))
        go true is false done = inl (ap (λ (l : List ℕ). get_or l k 0) (words_as_done false (eqb-true command 0x82 is) done))
        go true is true done = wrote (eqb-true command 0x82 is) done (placed k (word_at content 0) (length (words_of (drop 2 content))))
