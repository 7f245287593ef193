-- 02, §4: "Line writes note the new value and send nothing."
use Rattle.std.specs.Prelude.{ℕ, zero, suc, ◌+◌, Bool, cond, ◌&&◌, List, leb, ltb, set}
use Rattle.words.specs.Words.{word_at_address}
use Rattle.watch.specs.Watched.{Watched, entry_count, address_at, used_at}

-- "one or more words: write variables": whether a word lies in the run of n words from the first on
unfoldable pub in_run : (first n address : ℕ) → Bool
in_run first n address = leb first address && ltb address (first + n)

-- "Line writes note the new value": of entry i, where it is in use and its word lies in the run, changed or not
unfoldable pub is_noted : (addresses uses : List ℕ) → (first n i : ℕ) → Bool
is_noted addresses uses first n i = used_at uses i && in_run first n (address_at addresses i)

-- the values last sent, with those of the first k entries noted
unfoldable pub noted_below : (words : List ℕ) → Watched → (first n k : ℕ) → List ℕ
noted_below words w first n zero = w.values
noted_below words w first n (suc k) =
    let before = noted_below words w first n k in
    cond (is_noted w.addresses w.uses first n k) (set before k (word_at_address words (address_at w.addresses k))) before

-- "Line writes note the new value": the values last sent behind a write of n words from the first on; `words` are as it left them
unfoldable pub noted : (words : List ℕ) → Watched → (first n : ℕ) → List ℕ
noted words w first n = noted_below words w first n (entry_count w)
