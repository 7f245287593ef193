-- What a touch stores in a word, by its mode: the number that the mode finds there, and the byte that the mode leaves.
use Rattle.std.specs.Prelude.{◌≡◌, List, [], ◌∷◌, ℕ, ℤ}
use Rattle.wire.specs.ByteOrder.{high_byte, low_byte}
use Rattle.stores.specs.Store.{in_mode, value_in}

-- "mode 0 whole word, 1 high byte, 2 low byte": the byte of a word that the mode does not name; a whole word has none
abbrev pub other_byte : (mode w : ℕ) → List ℕ
other_byte mode w = in_mode mode [] (low_byte w ∷ []) (high_byte w ∷ [])

-- the word that stood there, the word that stands there now, and the number that was stored: "in all byte modes the other byte stays"
pub record Stores (mode before now : ℕ) (value : ℤ) : Type 0 where
  pub stored : value_in mode now ≡ value
  pub other_stays : other_byte mode now ≡ other_byte mode before
