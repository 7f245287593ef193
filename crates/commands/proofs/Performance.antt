-- Laws of `performance`: one for each command byte.
use mathlib.Core.Path.{◌≡◌, refl, ap}
use mathlib.Core.Bool.{Bool, true, false, cond}
use mathlib.Core.List.{List}
use Prim.Native.Nat.{ℕ}
use borrow.Author.Tests.{ne_eqb}
use lib.Dec.{eqb}
use lib.ListN.{length}
use Rattle.registers.specs.declared.Registers.{Registers}
use Rattle.commands.specs.declared.Fixed.{Fixed}
use Rattle.std.specs.Prelude.{Err}
use Rattle.commands.specs.declared.Refusal.TheVariants.{UnknownCommand}
use Rattle.commands.specs.declared.Performed.{Performed}
use Rattle.commands.specs.Lent.{Lent, with_words_room}
use Rattle.commands.specs.Outcome.{outcome}
use Rattle.commands.specs.Effect.{answered, registers_writing, curves_adding, leaves_words, words_writing, replies, replying, registers_replying, words_replying}
use Rattle.commands.specs.Perform.{Performance, performs, on_words, on_room, performance}

module _ (fixed : Fixed) (registers : Registers) (command : ℕ) (content words room : List ℕ) (rest : Lent) where
  -- what is lent, as a call finds it
  abbrev lent : Lent
  lent = with_words_room rest words room

  pub performs_80 : (p : Performed) → command ≡ 0x80 → p ≡ registers_writing fixed.pages content → performs p lent ≡ performance fixed registers command content lent
  unfolding performance
  performs_80 p is e = rw (is, e)

  pub performs_81 : (p : Performed) (left : List ℕ) → command ≡ 0x81 → replies p left ≡ registers_replying fixed registers content room
      → performs p (with_words_room rest words left) ≡ performance fixed registers command content lent
  unfolding performance
  performs_81 p left is e = rw is (ap (on_room lent) e)

  pub performs_82 : (p : Performed) (left : List ℕ) → command ≡ 0x82 → leaves_words p left ≡ words_writing words content
      → performs p (with_words_room rest left room) ≡ performance fixed registers command content lent
  unfolding performance
  performs_82 p left is e = rw is (ap (on_words lent) e)

  pub performs_83 : (p : Performed) (left : List ℕ) → command ≡ 0x83 → replies p left ≡ words_replying fixed words content room
      → performs p (with_words_room rest words left) ≡ performance fixed registers command content lent
  unfolding performance
  performs_83 p left is e = rw is (ap (on_room lent) e)

  pub performs_84 : (p : Performed) → command ≡ 0x84 → p ≡ curves_adding content → performs p lent ≡ performance fixed registers command content lent
  unfolding performance
  performs_84 p is e = rw (is, e)

  pub performs_none : (p : Performed) → (command ≡ 0x80 → ⊥) → (command ≡ 0x81 → ⊥) → (command ≡ 0x82 → ⊥) → (command ≡ 0x83 → ⊥) → (command ≡ 0x84 → ⊥)
      → p ≡ answered (Err UnknownCommand) 0 → performs p lent ≡ performance fixed registers command content lent
  unfolding performance
  performs_none p a b c d e is =
      rw (ne_eqb command 0x80 a, ne_eqb command 0x81 b, ne_eqb command 0x82 c, ne_eqb command 0x83 d, ne_eqb command 0x84 e, is)

-- a field of what the command that it is does
pub of_command : {B : Type 0} (f : Performance → B) (a b c d e : Bool) (v w x y z u : Performance)
    → f (cond a v (cond b w (cond c x (cond d y (cond e z u))))) ≡ cond a (f v) (cond b (f w) (cond c (f x) (cond d (f y) (cond e (f z) (f u)))))
of_command f true b c d e v w x y z u = refl
of_command f false true c d e v w x y z u = refl
of_command f false false true d e v w x y z u = refl
of_command f false false false true e v w x y z u = refl
of_command f false false false false true v w x y z u = refl
of_command f false false false false false v w x y z u = refl

-- what the first-match lists of specs/Outcome say is what is answered
pub performs_outcome : (fixed : Fixed) (registers : Registers) (command : ℕ) (content : List ℕ) (lent : Lent)
    → (performance fixed registers command content lent).performed.outcome ≡ outcome fixed (length lent.words) command content
unfolding performance outcome registers_writing registers_replying words_writing words_replying replying curves_adding
performs_outcome fixed registers command content lent =
    of_command (λ (d : Performance). d.performed.outcome) (eqb command 0x80) (eqb command 0x81) (eqb command 0x82) (eqb command 0x83) (eqb command 0x84)
    (performs (registers_writing fixed.pages content) lent) (on_room lent (registers_replying fixed registers content lent.room))
    (on_words lent (words_writing lent.words content)) (on_room lent (words_replying fixed lent.words content lent.room))
    (performs (curves_adding content) lent) (performs (answered (Err UnknownCommand) 0) lent)
