-- Laws of one word at its address.
use mathlib.Core.Path.{◌≡◌}
use mathlib.Core.Logic.{◌≢◌}
use mathlib.Core.List.{List}
use Prim.Native.Nat.{ℕ, ◌<◌}
use lib.ListN.{length, length-set}
use lib.Seq.{get_or-set_same, get_or-set_other}
use Rattle.words.specs.Words.{word_at_address, word_set}

module _ (words : List ℕ) (address : ℕ) where
  -- what was stored is read back, and no other word changes
  pub word_read_back : (word : ℕ) → address < length words → word_at_address (word_set words address word) address ≡ word
  unfolding word_at_address word_set
  word_read_back word inside = get_or-set_same words address word 0 inside

  pub other_word_stays : (word k : ℕ) → k ≢ address → word_at_address (word_set words address word) k ≡ word_at_address words k
  unfolding word_at_address word_set
  other_word_stays word k other = get_or-set_other words address k word 0 other

  pub length_word_set : (word : ℕ) → length (word_set words address word) ≡ length words
  unfolding word_set
  length_word_set word = length-set words address word
