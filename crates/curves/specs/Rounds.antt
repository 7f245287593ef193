-- 02, §2: "a mode byte, bit n for channel n, then 16-bit numbers in rounds, lowest channel first."
use Rattle.std.specs.Prelude.{ℕ, zero, suc, ◌+◌, ◌/◌, ◌%◌, Bool, cond, not, ◌||◌, List, [], ◌∷◌, eqb, length, get_or, drop}
use Rattle.wire.specs.ByteOrder.{byte_at}
use Rattle.words.specs.Words.{words_of}
use Rattle.curves.specs.Area.{channel_count}

-- "bit n for channel n": the mode byte names the channel
unfoldable pub named : (mode n : ℕ) → Bool
named mode zero = eqb (mode % 2) 1
named mode (suc n) = named (mode / 2) n

-- "lowest channel first": the channel's place in a round, which is how many channels below it the mode byte names
unfoldable pub place_of : (mode n : ℕ) → ℕ
place_of mode zero = 0
place_of mode (suc n) = cond (eqb (mode % 2) 1) 1 0 + place_of (mode / 2) n

-- how many numbers a round has: one for each channel that the mode byte names
abbrev pub round_size : (mode : ℕ) → ℕ
round_size mode = place_of mode channel_count

-- "a mode byte": the first byte of the data
abbrev pub mode_of : (content : List ℕ) → ℕ
mode_of content = byte_at content 0

-- "then 16-bit numbers"
abbrev pub numbers_of : (content : List ℕ) → List ℕ
numbers_of content = words_of (drop 1 content)

-- "in rounds": of so many rounds the number at one place of each
unfoldable pub of_rounds : (size place rounds : ℕ) → (numbers : List ℕ) → List ℕ
of_rounds size place zero numbers = []
of_rounds size place (suc rounds) numbers = get_or numbers place 0 ∷ of_rounds size place rounds (drop size numbers)

-- how many rounds the data has
abbrev pub rounds_of : (content : List ℕ) → ℕ
rounds_of content = length (numbers_of content) / round_size (mode_of content)

-- the numbers that the data has for a channel, one of each round; none for a channel that the mode byte does not name
unfoldable pub numbers_for : (content : List ℕ) → (n : ℕ) → List ℕ
numbers_for content n =
    cond (named (mode_of content) n)
    (of_rounds (round_size (mode_of content)) (place_of (mode_of content) n) (rounds_of content) (numbers_of content))
    []

-- "3 for mode 00, no round or an unfinished one": no channel is named, nothing follows the mode byte, or the bytes that follow are not whole rounds of two
-- bytes for each channel. Without a mode byte no channel is named; an odd byte is part of an unfinished round
unfoldable pub wrong_rounds : (content : List ℕ) → Bool
wrong_rounds content =
    let size = round_size (mode_of content) in
    let n = length (drop 1 content) in
    eqb size 0 || eqb n 0 || not (eqb (n % (size + size)) 0)
