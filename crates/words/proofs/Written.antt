-- What a write leaves: its run reads back what was written, and no other word changes.
use mathlib.Core.Path.{◌≡◌}
use mathlib.Core.Logic.{◌⊎◌, ⊎_elim}
use mathlib.Core.List.{List}
use Prim.Native.Nat.{ℕ, ◌+◌, ◌≤◌, ◌<◌}
use borrow.Author.Tests.{le-leb}
use lib.ListN.{length, get_or}
use Rattle.wire.specs.Room.{laid_at}
use Rattle.wire.proofs.LaidAt.{laid_run, laid_before, laid_behind, length_laid_at}
use Rattle.words.specs.Words.{words_of, word_run, words_written}

module _ (words bytes : List ℕ) (address : ℕ) (fits : address + length (words_of bytes) ≤ length words) where
  done : words_written words address bytes ≡ laid_at address (words_of bytes) words
  unfolding words_written
  done = rw (le-leb (address + length (words_of bytes)) (length words) fits)

  -- what was written is read back
  pub words_read_back : word_run (words_written words address bytes) address (length (words_of bytes)) ≡ words_of bytes
  unfolding word_run
  words_read_back = rw done (laid_run words (words_of bytes) address fits)

  -- "No word .. changes but those the command .. names"
  pub other_words_stay : (k : ℕ) → (k < address) ⊎ (address + length (words_of bytes) ≤ k) → get_or (words_written words address bytes) k 0 ≡ get_or words k 0
  other_words_stay k outside =
      rw done (⊎_elim (laid_before words (words_of bytes) address fits k) (laid_behind words (words_of bytes) address fits k) outside)

  pub still_as_many : length (words_written words address bytes) ≡ length words
  still_as_many = rw done (length_laid_at words (words_of bytes) address fits)
