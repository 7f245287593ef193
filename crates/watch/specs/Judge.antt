-- 02, §4: "Refusals: 16, two entries in use share a word or one in use has an address not below 0x7000, or the list is longer than 16".
use Rattle.std.specs.Prelude.{ℕ, zero, suc, Bool, false, not, ◌&&◌, ◌||◌, List, eqb, ltb, length}
use Rattle.wire.specs.Addresses.{word_count}
use Rattle.watch.specs.Watched.{Watched, entry_count, address_at, used_at}

-- "the list is longer than 16"
abbrev pub most_watched : ℕ
most_watched = 16

-- whether a number below n passes a test
unfoldable pub some_below : (test : ℕ → Bool) → (n : ℕ) → Bool
some_below test zero = false
some_below test (suc n) = some_below test n || test n

-- "one in use has an address not below 0x7000": whether entry i is so
unfoldable pub is_past_end : (addresses uses : List ℕ) → (i : ℕ) → Bool
is_past_end addresses uses i = used_at uses i && not (ltb (address_at addresses i) word_count)

-- "two entries in use share a word": whether both entries i and j are in use and have the same address
unfoldable pub share : (addresses uses : List ℕ) → (i j : ℕ) → Bool
share addresses uses i j = used_at uses i && used_at uses j && eqb (address_at addresses i) (address_at addresses j)

-- what makes the list wrong at entry i: it has an address not below 0x7000, or shares its word with an entry before it, and is in use
unfoldable pub is_wrong_at : (addresses uses : List ℕ) → (i : ℕ) → Bool
is_wrong_at addresses uses i = is_past_end addresses uses i || some_below (share addresses uses i) i

-- "the list is longer than 16"; lent as three slices, it is no list either where these differ in length
unfoldable pub wrong_lengths : (addresses uses values : ℕ) → Bool
wrong_lengths addresses uses values = ltb most_watched addresses || not (eqb uses addresses) || not (eqb values addresses)

-- 16: "two entries in use share a word or one in use has an address not below 0x7000, or the list is longer than 16"
unfoldable pub wrong_list : Watched → Bool
wrong_list w =
    wrong_lengths (length w.addresses) (length w.uses) (length w.values) || some_below (is_wrong_at w.addresses w.uses) (entry_count w)
