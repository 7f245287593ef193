-- 02, §4: "The caller lends a list of up to 16 watched words, each entry a word address, whether it is in use, and the value last sent."
use Rattle.std.specs.Prelude.{ℕ, Bool, not, List, [], eqb, length, get_or}
use Rattle.watch.specs.declared.WatchList.{WatchList}

-- "a list of up to 16 watched words", as three lists of numbers: entry i is what stands at place i of each
pub record Watched : Type 0 where
  -- "each entry a word address"
  pub addresses : List ℕ
  -- "whether it is in use": 00 where it is not
  pub uses : List ℕ
  -- "and the value last sent"
  pub values : List ℕ

-- builds one
abbrev pub watching : (addresses uses values : List ℕ) → Watched
watching addresses uses values = record { addresses = addresses; uses = uses; values = values }

-- the same with other values last sent
abbrev pub with_values : Watched → (values : List ℕ) → Watched
with_values w values = watching w.addresses w.uses values

-- "The caller lends a list": what stands in the one that is lent
abbrev pub list_of : WatchList → Watched
list_of lent = watching lent.addresses.now lent.uses.now lent.values.now

-- "and the value last sent": the list as it is lent, with other values behind the same reference
abbrev pub with_sent : WatchList → (values : List ℕ) → WatchList
with_sent lent values = record lent { values = record lent.values { now = values } }

-- "the trace lends no entries": a list of none
abbrev pub none_watched : Watched
none_watched = watching [] [] []

-- "up to 16": how many entries there are
abbrev pub entry_count : Watched → ℕ
entry_count w = length w.addresses

-- "each entry a word address"
abbrev pub address_at : (addresses : List ℕ) → (i : ℕ) → ℕ
address_at addresses i = get_or addresses i 0

-- "whether it is in use": 00 says that it is not
unfoldable pub used_at : (uses : List ℕ) → (i : ℕ) → Bool
used_at uses i = not (eqb (get_or uses i 0) 0)

-- "and the value last sent"
abbrev pub sent_at : (values : List ℕ) → (i : ℕ) → ℕ
sent_at values i = get_or values i 0
