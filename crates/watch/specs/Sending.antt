-- 02, §4: "the first entry in use whose word differs from its value last sent gets one unasked 0x83 reply .., and the value is noted".
use Rattle.std.specs.Prelude.{ℕ, zero, suc, ◌+◌, Bool, cond, not, ◌&&◌, List, [], ◌∷◌, Option, None, Some, eqb, set}
use Rattle.wire.specs.Numbers.{Entry, ◌when◌, first_said}
use Rattle.words.specs.declared.WordAddress.{WordAddress}
use Rattle.words.specs.Words.{word_at_address}
use Rattle.watch.specs.Watched.{Watched, entry_count, address_at, used_at, sent_at}

-- "entry in use whose word differs from its value last sent": whether entry i is one
unfoldable pub is_due : (words : List ℕ) → Watched → (i : ℕ) → Bool
is_due words w i = used_at w.uses i && not (eqb (word_at_address words (address_at w.addresses i)) (sent_at w.values i))

-- the address of the word that is due to be sent, and the values last sent as they are left
pub record Sending : Type 0 where
  pub due : Option WordAddress
  pub values : List ℕ

-- builds one
abbrev pub sends : Option WordAddress → List ℕ → Sending
sends due values = record { due = due; values = values }

-- entry i is sent: its address, "and the value is noted"
abbrev pub sent : (words : List ℕ) → Watched → (i : ℕ) → Sending
sent words w i =
    let address = address_at w.addresses i in
    sends (Some (record { 0 = address })) (set w.values i (word_at_address words address))

-- the first that is due of n entries from entry i on
unfoldable pub sending_from : (words : List ℕ) → Watched → (i n : ℕ) → Sending
sending_from words w i zero = sends None w.values
sending_from words w i (suc n) = cond (is_due words w i) (sent words w i) (sending_from words w (i + 1) n)

-- "the first entry in use whose word differs from its value last sent", "and the value is noted"
unfoldable pub sending : (words : List ℕ) → Watched → Sending
sending words w = sending_from words w 0 (entry_count w)

-- 02 gives these answers no number: what is said is the value, the address of the word
unfoldable pub due_said : Option WordAddress → List ℕ
due_said None = []
due_said (Some address) = address.0 ∷ []

-- "the first entry in use whose word differs from its value last sent": n entries in their order from entry i on, each with the address that is said where it is due
unfoldable pub due_listed : (words : List ℕ) → Watched → (i n : ℕ) → List (Entry (List ℕ))
due_listed words w i zero = []
due_listed words w i (suc n) = ((address_at w.addresses i ∷ []) when is_due words w i) ∷ due_listed words w (i + 1) n

-- "the first entry": of all entries of a list; where none is due, nothing
abbrev pub send_said : (words : List ℕ) → Watched → List ℕ
send_said words w = first_said (due_listed words w 0 (entry_count w)) []

-- beyond the paper: the entries that are due of n entries from entry i on, by their numbers
unfoldable pub due_from : (words : List ℕ) → Watched → (i n : ℕ) → List ℕ
due_from words w i zero = []
due_from words w i (suc n) = let rest = due_from words w (i + 1) n in cond (is_due words w i) (i ∷ rest) rest

-- beyond the paper: the entries that are due, by their numbers, in the list's order
unfoldable pub due_entries : (words : List ℕ) → Watched → List ℕ
due_entries words w = due_from words w 0 (entry_count w)
