-- What a write that is done has passed: the tests of 01's numbers 3 to 6, each as the fact it leaves.
use mathlib.Core.Path.{◌≡◌, refl}
use mathlib.Core.Bool.{Bool, true, false, cond, ◌||◌}
use mathlib.Core.List.{List}
use Prim.Native.Nat.{ℕ, ◌+◌, ◌%◌, ◌≤◌}
use native.Mathlib.Omega.{arith}
use borrow.Author.Tests.{ltb-false, eqb-true, eqb-false}
use lib.Dec.{eqb, ltb}
use lib.ListN.{length, drop}
use Rattle.wire.specs.ByteOrder.{byte_at, word_at}
use Rattle.registers.specs.Run.{unwritable_run, wrong_value}
use Rattle.registers.proofs.Allowed.{neither}
use Rattle.words.specs.Words.{words_of}
use Rattle.std.specs.Prelude.{Ok, Err}
use Rattle.commands.specs.declared.Refusal.TheVariants.{WrongData, PastEnd, Unwritable, WrongValue}
use Rattle.commands.specs.Outcome.{is_done, write_registers_outcome, write_words_outcome}
use Rattle.commands.proofs.Reading.{peel}

-- "0x80, address (1), one or more bytes"
pub record RegistersPassed (pages : ℕ) (content : List ℕ) : Type 0 where
  pub long : 2 ≤ length content
  pub fits : byte_at content 0 + length (drop 1 content) ≤ 256
  pub may : unwritable_run (byte_at content 0) (length (drop 1 content)) ≡ false
  pub right : wrong_value (byte_at content 0) (drop 1 content) pages ≡ false

pub registers_passed : (pages : ℕ) (content : List ℕ) → is_done (write_registers_outcome pages content) ≡ true → RegistersPassed pages content
unfolding write_registers_outcome
registers_passed pages content done =
    let short : Bool = ltb (length content) 2 in
    let past : Bool = ltb 256 (byte_at content 0 + length (drop 1 content)) in
    let unwritable : Bool = unwritable_run (byte_at content 0) (length (drop 1 content)) in
    let wrong : Bool = wrong_value (byte_at content 0) (drop 1 content) pages in
    let one = peel short (Err WrongData) (cond past (Err PastEnd) (cond unwritable (Err Unwritable) (cond wrong (Err WrongValue) (Ok tt)))) refl done in
    let two = peel past (Err PastEnd) (cond unwritable (Err Unwritable) (cond wrong (Err WrongValue) (Ok tt))) refl one.1 in
    let three = peel unwritable (Err Unwritable) (cond wrong (Err WrongValue) (Ok tt)) refl two.1 in
    record {
      long = ltb-false (length content) 2 one.0;
      fits = ltb-false 256 (byte_at content 0 + length (drop 1 content)) two.0;
      may = three.0;
      right = (peel wrong (Err WrongValue) (Ok tt) refl three.1).0;
    }

-- "0x82, address (2), one or more words"
pub record WordsPassed (end : ℕ) (content : List ℕ) : Type 0 where
  pub long : 4 ≤ length content
  pub even : length content % 2 ≡ 0
  pub fits : word_at content 0 + length (words_of (drop 2 content)) ≤ end

not_odd : (n : ℕ) → (n % 2 ≡ 1 → ⊥) → n % 2 ≡ 0
not_odd n not = go (eqb (n % 2) 0) refl
  where
    go : (b : Bool) → eqb (n % 2) 0 ≡ b → n % 2 ≡ 0
    go true is = eqb-true (n % 2) 0 is
    go false is =
        let other : n % 2 ≡ 0 → ⊥ = eqb-false (n % 2) 0 is in
        omega arith

pub words_passed : (end : ℕ) (content : List ℕ) → is_done (write_words_outcome end content) ≡ true → WordsPassed end content
unfolding write_words_outcome
words_passed end content done =
    let short : Bool = ltb (length content) 4 in
    let odd : Bool = eqb (length content % 2) 1 in
    let past : Bool = ltb end (word_at content 0 + length (words_of (drop 2 content))) in
    let one = peel (short || odd) (Err WrongData) (cond past (Err PastEnd) (Ok tt)) refl done in
    let shape = neither short odd one.0 in
    record {
      long = ltb-false (length content) 4 shape.0;
      even = not_odd (length content) (eqb-false (length content % 2) 1 shape.1);
      fits = ltb-false end (word_at content 0 + length (words_of (drop 2 content))) (peel past (Err PastEnd) (Ok tt) refl one.1).0;
    }
