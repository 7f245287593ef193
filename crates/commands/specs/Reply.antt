-- 01, "Commands": the replies' data.
use Rattle.std.specs.Prelude.{ℕ, List, ◌∷◌, ◌++◌}
use Rattle.wire.specs.ByteOrder.{high_first}
use Rattle.registers.specs.declared.Registers.{Registers}
use Rattle.registers.specs.Table.{register_run}
use Rattle.words.specs.Words.{bytes_of, word_run}

-- "Reply 0x81, address, count, bytes."
unfoldable pub registers_reply : Registers → ℕ → ℕ → List ℕ
registers_reply registers address count = address ∷ count ∷ register_run registers address count

-- "Reply 0x83, address, count, words."
unfoldable pub words_reply : List ℕ → ℕ → ℕ → List ℕ
words_reply words address count = high_first address ++ (count ∷ bytes_of (word_run words address count))
