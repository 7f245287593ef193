-- 01, "Proved examples": "f. Checking off, 5A A5 05 82 00 10 01 F4: word 0010 becomes 500."
use mathlib.Core.Path.{◌≡◌, refl}
use mathlib.Core.Bool.{true}
use mathlib.Core.List.{List, [], ◌∷◌}
use Prim.Native.Nat.{ℕ, ◌<◌}
use native.Mathlib.Omega.{arith}
use borrow.Author.Tests.{le-ltb}
use lib.ListN.{length}
use Rattle.wire.proofs.LaidAt.{laid_inside}
use borrow.Author.Tests.{le-leb}
use Rattle.registers.specs.declared.Registers.{Registers}
use Rattle.words.specs.Words.{word_at_address, words_of, words_written}
use Rattle.commands.specs.declared.Fixed.{Fixed}
use Rattle.commands.specs.Lent.{Lent}
use Rattle.commands.specs.Outcome.{is_done, write_words_outcome}
use Rattle.commands.specs.Perform.{performance}
use Rattle.commands.proofs.Named.{words_as_done}

-- the data of example f
abbrev pub example_data : List ℕ
example_data = 0x00 ∷ 0x10 ∷ 0x01 ∷ 0xF4 ∷ []

pub example_done : (words : List ℕ) → 0x10 < length words → is_done (write_words_outcome (length words) example_data) ≡ true
unfolding write_words_outcome words_of
example_done words long = rw (le-ltb (length words) 17 (omega arith))

pub example_f : (fixed : Fixed) (registers : Registers) (lent : Lent) → 0x10 < length lent.words
    → word_at_address (performance fixed registers 0x82 example_data lent).lent.words 0x10 ≡ 500
unfolding word_at_address words_written words_of
example_f fixed registers lent long =
    rw (words_as_done fixed registers example_data lent 0x82 true refl (example_done lent.words long), le-leb 17 (length lent.words) (omega arith))
    (laid_inside lent.words (500 ∷ []) 0x10 (omega arith) 0 (omega arith))
