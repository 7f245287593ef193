-- 01: "28,672 variable words, 0x0000 to 0x6FFF, lent by the caller as 16-bit numbers." Their number is `word_count` of crate wire.
use Rattle.std.specs.Prelude.{ℕ, ◌+◌, cond, ◌&&◌, List, [], ◌∷◌, leb, length, get_or, set, take, drop}
use Rattle.wire.specs.ByteOrder.{word, high_byte, low_byte}
use Rattle.wire.specs.Room.{laid_at, Laid, laid}

-- "Registers are addressed by byte, variables by word": one word; past the end there is none, and 0 is read
unfoldable pub word_at_address : List ℕ → ℕ → ℕ
word_at_address words address = get_or words address 0

-- the words with one of them set; past the end there is none
unfoldable pub word_set : List ℕ → ℕ → ℕ → List ℕ
word_set words address word = set words address word

-- "Multi-byte data goes high byte first": the words that a list of bytes carries; an odd last byte carries none
unfoldable pub words_of : List ℕ → List ℕ
words_of [] = []
words_of (high ∷ []) = []
words_of (high ∷ low ∷ bytes) = word high low ∷ words_of bytes

-- "Multi-byte data goes high byte first": the bytes that carry these words
unfoldable pub bytes_of : List ℕ → List ℕ
bytes_of [] = []
bytes_of (w ∷ words) = high_byte w ∷ low_byte w ∷ bytes_of words

-- "read variables": a run of n words from an address on
unfoldable pub word_run : List ℕ → ℕ → ℕ → List ℕ
word_run words address n = take n (drop address words)

-- "write variables": the words with those that the bytes carry from an address on; a run that passes the end leaves them
unfoldable pub words_written : List ℕ → ℕ → List ℕ → List ℕ
words_written words address bytes =
    cond (leb (address + length (words_of bytes)) (length words)) (laid_at address (words_of bytes) words) words

-- a run of words laid as bytes over the front of a room
unfoldable pub words_laid : List ℕ → ℕ → ℕ → List ℕ → Laid
words_laid words address n room =
    laid (leb (address + n) (length words) && leb (n + n) (length room)) (bytes_of (word_run words address n)) room
