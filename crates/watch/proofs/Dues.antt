-- Laws of `is_due` and `due_entries`: which entries are due, and what a line write and a sending leave of them.
use mathlib.Core.Path.{◌≡◌, refl, sym, ap, ◌∙◌}
use mathlib.Core.Bool.{Bool, true, false, not, cond}
use mathlib.Core.List.{List, [], ◌∷◌}
use mathlib.Core.Logic.{◌≢◌}
use Prim.Native.Nat.{ℕ, zero, suc, ◌+◌, ◌≤◌, ◌<◌}
use native.Mathlib.Omega.{arith}
use borrow.Author.Tests.{eqb-false, eq-eqb, not-true}
use lib.Dec.{eqb}
use lib.ListN.{length, get_or}
use lib.Seq.{get_or-set_same, get_or-set_other}
use Rattle.std.specs.Prelude.{None}
use Rattle.wire.proofs.Over.{right_false}
use Rattle.wire.proofs.Truths.{never, and_left, and_right}
use Rattle.words.specs.Words.{word_at_address}
use Rattle.watch.specs.Watched.{Watched, with_values, entry_count, address_at, used_at, sent_at}
use Rattle.watch.specs.Noting.{in_run, is_noted, noted}
use Rattle.watch.specs.Sending.{is_due, sends, sent, sending_from, sending, due_from, due_entries}
use Rattle.watch.proofs.Noted.{noted_at, unnoted_stays}
use Rattle.watch.proofs.Sent.{Sends, none_due, first_due, sends_ways}

module _ (words : List ℕ) (w : Watched) (i : ℕ) where
  -- the second half of `is_due`
  differs : Bool
  differs = not (eqb (word_at_address words (address_at w.addresses i)) (sent_at w.values i))

  pub due_used : is_due words w i ≡ true → used_at w.uses i ≡ true
  unfolding is_due differs
  due_used due = and_left (used_at w.uses i) differs due

  pub due_differs : is_due words w i ≡ true → word_at_address words (address_at w.addresses i) ≢ sent_at w.values i
  unfolding is_due differs
  due_differs due =
      let word = word_at_address words (address_at w.addresses i) in
      eqb-false word (sent_at w.values i) (not-true (eqb word (sent_at w.values i)) (and_right (used_at w.uses i) differs due))

  pub unused_not_due : used_at w.uses i ≡ false → is_due words w i ≡ false
  unfolding is_due
  unused_not_due unused = rw unused

  pub same_not_due : word_at_address words (address_at w.addresses i) ≡ sent_at w.values i → is_due words w i ≡ false
  unfolding is_due differs
  same_not_due same = right_false (used_at w.uses i) differs (ap not (eq-eqb _ _ same))

  -- with the same word and the same value an entry is due as it was
  pub due_as_before : (old values : List ℕ)
      → word_at_address words (address_at w.addresses i) ≡ word_at_address old (address_at w.addresses i)
      → get_or values i 0 ≡ get_or w.values i 0 → is_due words (with_values w values) i ≡ is_due old w i
  unfolding is_due
  due_as_before old values word value = rw (word, value)

-- what a line write leaves
module _ (words : List ℕ) (w : Watched) (first n i : ℕ) (inside : i < entry_count w) (has : i < length w.values) where
  pub written_not_due : is_noted w.addresses w.uses first n i ≡ true → is_due words (with_values w (noted words w first n)) i ≡ false
  written_not_due is = same_not_due words (with_values w (noted words w first n)) i (sym (noted_at words w first n i inside has is))

module _ (old words : List ℕ) (w : Watched) (first n i : ℕ) (inside : i < entry_count w) (has : i < length w.values) where
  pub not_due_stays : is_due old w i ≡ false
      → (in_run first n (address_at w.addresses i) ≡ false
      → word_at_address words (address_at w.addresses i) ≡ word_at_address old (address_at w.addresses i))
      → is_due words (with_values w (noted words w first n)) i ≡ false
  unfolding is_noted
  not_due_stays not_due stays = go (used_at w.uses i) refl (in_run first n (address_at w.addresses i)) refl
    where
      go : (used : Bool) → used_at w.uses i ≡ used → (runs : Bool) → in_run first n (address_at w.addresses i) ≡ runs
          → is_due words (with_values w (noted words w first n)) i ≡ false
      go false unused runs is = unused_not_due words (with_values w (noted words w first n)) i unused
      go true used true is = written_not_due words w first n i inside has (rw (used, is))
      go true used false is =
          due_as_before words w i old (noted words w first n) (stays is) (unnoted_stays words w first n i (rw (used, is))) ∙ not_due

-- the entries that are due, one after the other, and what a sending leaves of them
module _ (words : List ℕ) (w : Watched) where
  none_from : (i n : ℕ) → due_from words w i n ≡ [] → sending_from words w i n ≡ sends None w.values
  unfolding due_from sending_from
  none_from i zero none = refl
  none_from i (suc n) none = go (is_due words w i) none (none_from (i + 1) n)
    where
      go : (due : Bool) → cond due (i ∷ due_from words w (i + 1) n) (due_from words w (i + 1) n) ≡ []
          → (due_from words w (i + 1) n ≡ [] → sending_from words w (i + 1) n ≡ sends None w.values)
          → cond due (sent words w i) (sending_from words w (i + 1) n) ≡ sends None w.values
      go true is on = never (cc)
      go false is on = on is

  pub none_left : due_entries words w ≡ [] → sending words w ≡ sends None w.values
  unfolding due_entries sending
  none_left = none_from 0 (entry_count w)

  -- entry j is sent: it is not due any more, and every other is due as it was
  sent_itself : (j : ℕ) → j < length w.values → is_due words (with_values w (sent words w j).values) j ≡ false
  sent_itself j inside =
      same_not_due words (with_values w (sent words w j).values) j
      (sym (get_or-set_same w.values j (word_at_address words (address_at w.addresses j)) 0 inside))

  sent_other : (j k : ℕ) → k ≢ j → is_due words (with_values w (sent words w j).values) k ≡ is_due words w k
  sent_other j k other =
      due_as_before words w k words (sent words w j).values refl
      (get_or-set_other w.values j k (word_at_address words (address_at w.addresses j)) 0 other)

  pub sent_not_due_stays : (i : ℕ) → is_due words w i ≡ false → is_due words (with_values w (sending words w).values) i ≡ false
  sent_not_due_stays i not_due = go (sends_ways words w)
    where
      go : Sends words w → is_due words (with_values w (sending words w).values) i ≡ false
      go (none_due none is) = rw is not_due
      go (first_due j inside due before is) =
          let other : i ≢ j = λ same. never (cc) in
          rw is (sent_other j i other ∙ not_due)

  same_behind : (j i n : ℕ) → j < i → due_from words (with_values w (sent words w j).values) i n ≡ due_from words w i n
  unfolding due_from
  same_behind j i zero before = refl
  same_behind j i (suc n) before =
      let other : i ≢ j = λ same. omega arith in
      rw (sent_other j i other, same_behind j (i + 1) n (omega arith))

  -- of n entries from entry i on, j is the first that is due and sent, and the rest is left
  abbrev FirstFrom : (i n j : ℕ) (rest : List ℕ) → Type 0
  FirstFrom i n j rest =
      (i ≤ j) × (sending_from words w i n ≡ sent words w j) × (due_from words (with_values w (sent words w j).values) i n ≡ rest)

  first_from : (i n j : ℕ) (rest : List ℕ) → i + n ≤ length w.values → due_from words w i n ≡ j ∷ rest → FirstFrom i n j rest
  unfolding due_from sending_from
  first_from i zero j rest inside are = never (cc)
  first_from i (suc n) j rest inside are = go (is_due words w i) refl (first_from (i + 1) n j rest (omega arith))
    where
      go : (due : Bool) → is_due words w i ≡ due → (due_from words w (i + 1) n ≡ j ∷ rest → FirstFrom (i + 1) n j rest) → FirstFrom i (suc n) j rest
      go true due on =
          let split : i ∷ due_from words w (i + 1) n ≡ j ∷ rest = rw due at are in
          let here : i ≡ j = cc in
          let tail : due_from words w (i + 1) n ≡ rest = cc in
          let gone : is_due words (with_values w (sent words w j).values) i ≡ false = rw here (sent_itself j (omega arith)) in (
            omega arith,
            rw due (ap (λ (k : ℕ). sent words w k) here),
            rw gone (same_behind j (i + 1) n (omega arith) ∙ tail),
          )
      go false not_due on =
          let later = on (rw not_due at are) in
          let other : i ≢ j = λ same. omega (arith, later.0) in
          (omega (arith, later.0), rw not_due later.1, rw (sent_other j i other, not_due) later.2)

  -- a contact sends the first of the entries that are due, and the others are left
  pub first_sent : length w.values ≡ entry_count w → (i : ℕ) (rest : List ℕ) → due_entries words w ≡ i ∷ rest
      → (sending words w ≡ sent words w i) × (due_entries words (with_values w (sending words w).values) ≡ rest)
  unfolding due_entries sending
  first_sent long i rest are =
      let first = first_from 0 (entry_count w) i rest (omega arith) are in
      (first.1, rw first.1 first.2)
