-- Laws of `sending`: the first entry that is due.
use mathlib.Core.Path.{◌≡◌, refl, ap, ◌∙◌}
use mathlib.Core.Bool.{Bool, true, false, cond}
use mathlib.Core.List.{List, [], ◌∷◌}
use mathlib.Core.Logic.{⊎_elim}
use Prim.Native.Nat.{ℕ, zero, suc, ◌+◌, ◌<◌}
use native.Mathlib.Omega.{arith}
use Rattle.std.specs.Prelude.{Option, None, Some}
use lib.ListN.{length, set, length-set}
use Rattle.std.specs.List.{find, range_with_len}
use Rattle.wire.specs.Numbers.{first_said}
use Rattle.words.specs.declared.WordAddress.{WordAddress}
use Rattle.words.specs.Words.{word_at_address}
use Rattle.watch.specs.declared.WatchList.{WatchList}
use Rattle.watch.specs.Watched.{Watched, list_of, with_sent, entry_count, address_at}
use Rattle.watch.specs.Sending.{is_due, Sending, sends, sent, sending_from, sending, due_said, due_listed, send_said}
use Rattle.watch.proofs.Places.{last_or_before}

-- what is sent where this is the first entry that is due
abbrev sent_first : (words : List ℕ) → Watched → Option ℕ → Sending
sent_first words w None = sends None w.values
sent_first words w (Some i) = sent words w i

module _ (words : List ℕ) (w : Watched) where
  found_from : (i n : ℕ) → sent_first words w (find (is_due words w) (range_with_len i n)) ≡ sending_from words w i n
  unfolding sending_from
  found_from i zero = refl
  found_from i (suc n) = go (is_due words w i) (found_from (i + 1) n)
    where
      go : (b : Bool) → sent_first words w (find (is_due words w) (range_with_len (i + 1) n)) ≡ sending_from words w (i + 1) n
          → sent_first words w (cond b (Some i) (find (is_due words w) (range_with_len (i + 1) n))) ≡ cond b (sent words w i) (sending_from words w (i + 1) n)
      go true on = refl
      go false on = on

  found_sent : (found : Option ℕ) → found ≡ find (is_due words w) (range_with_len 0 (entry_count w)) → sent_first words w found ≡ sending words w
  unfolding sending
  found_sent found is = rw is (found_from 0 (entry_count w))

-- `send`, a law for each way it answers
module _ (words : List ℕ) (list : WatchList) where
  -- the first entry that is due
  abbrev found : Option ℕ
  found = find (is_due words (list_of list)) (range_with_len 0 (length list.addresses.now))

  pub none_sent : None ≡ found → (due : Option WordAddress) → due ≡ None
      → (due ≡ (sending words (list_of list)).due) × (list ≡ with_sent list (sending words (list_of list)).values)
  none_sent none due is =
      let all : sends None list.values.now ≡ sending words (list_of list) = found_sent words (list_of list) None none in
      rw (← all, is) (refl, refl)

  pub one_sent : (i : ℕ) → Some i ≡ found → (address : WordAddress) → address.0 ≡ address_at list.addresses.now i → (word : ℕ)
      → word ≡ word_at_address words address.0 → (left : WatchList) → left ≡ with_sent list (set list.values.now i word)
      → (Some address ≡ (sending words (list_of list)).due) × (left ≡ with_sent list (sending words (list_of list)).values)
  one_sent i some address is_address word is_word left is-left =
      let all : sent words (list_of list) i ≡ sending words (list_of list) = found_sent words (list_of list) (Some i) some in
      rw (← all, ← is_address, ← is_word) (refl, is-left)

-- the two ways in which a contact goes
pub data Sends (words : List ℕ) (w : Watched) : Type 0 where
  none_due : ((k : ℕ) → k < entry_count w → is_due words w k ≡ false) → sending words w ≡ sends None w.values → Sends words w
  first_due : (i : ℕ) → i < entry_count w → is_due words w i ≡ true → ((k : ℕ) → k < i → is_due words w k ≡ false)
      → sending words w ≡ sent words w i → Sends words w

module _ (words : List ℕ) (w : Watched) where
  -- i entries are not due, and n are left
  ways_from : (i n : ℕ) → i + n ≡ entry_count w → ((k : ℕ) → k < i → is_due words w k ≡ false)
      → sending words w ≡ sending_from words w i n → Sends words w
  unfolding sending_from
  ways_from i zero all before is = none_due (λ k inside. before k (omega arith)) is
  ways_from i (suc n) all before is =
      go (is_due words w i) refl (λ not_due. ways_from (i + 1) n (omega arith) (one_more not_due) (is ∙ rw not_due))
    where
      one_more : is_due words w i ≡ false → (k : ℕ) → k < i + 1 → is_due words w k ≡ false
      one_more not_due k below = ⊎_elim (λ same. rw same not_due) (λ earlier. before k earlier) (last_or_before k i (omega arith))

      go : (b : Bool) → is_due words w i ≡ b → (is_due words w i ≡ false → Sends words w) → Sends words w
      go true due on = first_due i (omega arith) due before (is ∙ rw due)
      go false not_due on = on not_due

  pub sends_ways : Sends words w
  unfolding sending
  sends_ways = ways_from 0 (entry_count w) (omega arith) (λ k below. absurd (omega (arith, below))) refl

  pub length_sending : length (sending words w).values ≡ length w.values
  length_sending = go sends_ways
    where
      go : Sends words w → length (sending words w).values ≡ length w.values
      go (none_due none is) = ap (λ (s : Sending). length s.values) is
      go (first_due i inside due before is) =
          ap (λ (s : Sending). length s.values) is ∙ length-set w.values i (word_at_address words (address_at w.addresses i))

-- what is said of a sending
module _ (words : List ℕ) (w : Watched) where
  due_as_listed : (i n : ℕ) → due_said (sending_from words w i n).due ≡ first_said (due_listed words w i n) []
  unfolding due_said sending_from due_listed first_said
  due_as_listed i zero = refl
  due_as_listed i (suc n) = go (is_due words w i) (due_as_listed (i + 1) n)
    where
      go : (b : Bool) → due_said (sending_from words w (i + 1) n).due ≡ first_said (due_listed words w (i + 1) n) []
          → due_said (cond b (sent words w i) (sending_from words w (i + 1) n)).due ≡ cond b (address_at w.addresses i ∷ []) (first_said (due_listed words w (i + 1) n) [])
      go true behind = refl
      go false behind = behind

  pub send_said_lem : (due : Option WordAddress) → due ≡ (sending words w).due → due_said due ≡ send_said words w
  unfolding sending
  send_said_lem due is = ap due_said is ∙ due_as_listed 0 (entry_count w)
