-- Nothing is lost: contacts in a row that change no word send the entries that are due, each once, in the list's order.
use mathlib.Core.Path.{◌≡◌, refl, sym, ap, ◌∙◌}
use mathlib.Core.Logic.{inl, inr, ⊎_elim}
use mathlib.Core.Bool.{Bool, true, false, cond}
use mathlib.Core.List.{List, [], ◌∷◌, ◌++◌, map}
use Prim.Native.Nat.{ℕ, zero, suc, ◌+◌, ◌≤◌, ◌<◌}
use native.Mathlib.Omega.{arith}
use borrow.Author.Tests.{ne_eqb}
use lib.ListN.{length, take, drop}
use lib.Seq.{take-nil, drop-nil, take-length, drop-length}
use Rattle.wire.proofs.Over.{take_over}
use Rattle.frame.proofs.Writers.{length_frame_of}
use Rattle.touch.specs.Setup.{checking_of}
use Rattle.words.specs.Words.{word_at_address}
use Rattle.watch.specs.Watched.{Watched, with_values, entry_count, address_at}
use Rattle.watch.specs.Sending.{is_due, Sending, sent, sending, due_from, due_entries}
use Rattle.watch.proofs.Places.{last_or_before}
use Rattle.watch.proofs.Judged.{good_lengths}
use Rattle.watch.proofs.Dues.{none_left, first_sent}
use Rattle.panel.specs.State.{header_of}
use Rattle.panel.specs.Watching.{unasked, telling}
use Rattle.panel.specs.Contacts.{Contact}
use Rattle.demands.specs.Calls.{Moment, contact, after, after_all, number_given}
use Rattle.demands.specs.Demand2.{after_contact}
use Rattle.demands.specs.Done.{Exactly}
use Rattle.demands.specs.Entries.{unasked_data, frame_for, frame_sent, frames_sent, WordsStand, due_at, frames_for, SentInOrder, AllSent, Among, Rising}
use Rattle.demands.proofs.TouchEffects.{contact_leaves}
use Rattle.demands.proofs.Entries.{contact_words, contact_list_good, ContactSends, contact_sends}

-- ---- One contact

module _ (now : Moment) (c : Contact) (done : number_given now (contact c) ≡ 0) (stands : (after now (contact c)).lent.words ≡ now.lent.words) where
  abbrev list : Watched
  list = now.lent.watched

  abbrev then : Moment
  then = after now (contact c)

  -- what is sent goes by the words as they stood
  sends_now : (s : Sending) → sending now.lent.words list ≡ s → ContactSends now c now.lent.words s
  sends_now s is =
      let words = sym (contact_words now c done) ∙ stands in
      rw words at (contact_sends now c done s (ap (λ (ws : List ℕ). sending ws list) words ∙ is))

  -- nothing is due: nothing is written, and nothing is due behind it
  none_sent : due_at now ≡ [] → (frame_sent now c ≡ []) × (due_at then ≡ [])
  unfolding frame_sent unasked
  none_sent none =
      let told = sends_now _ (none_left now.lent.words list none) in
      (rw told.written, rw (stands, told.list) none)

  frame_not_empty : (i : ℕ) → length (frame_for now.panel.setup now.lent.words list i) ≡ 0 → ⊥
  frame_not_empty i empty =
      let address = address_at list.addresses i in
      let long = length_frame_of (checking_of now.panel.setup) (header_of now.panel.setup) 0x83 (unasked_data address (word_at_address now.lent.words address)) in
      omega (arith, long)

  -- entry i is the first that is due: its frame is written, and the others are due behind it
  one_sent : (i : ℕ) (rest : List ℕ) → due_at now ≡ i ∷ rest
      → (frame_sent now c ≡ frame_for now.panel.setup now.lent.words list i ∷ []) × (due_at then ≡ rest)
  unfolding frame_sent unasked
  one_sent i rest are =
      let long = (good_lengths list (contact_list_good now c done)).2 in
      let first = first_sent now.lent.words list long i rest are in
      let told = sends_now _ first.0 in
      let frame = frame_for now.panel.setup now.lent.words list i in
      let values = ap (λ (s : Sending). s.values) first.0 in
      let behind : due_entries now.lent.words (with_values list (sent now.lent.words list i).values) ≡ rest = rw values at first.1 in (
        rw (told.written, ne_eqb (length frame) 0 (frame_not_empty i), told.room, take_over frame now.lent.room (length frame) refl),
        rw (stands, told.list) behind,
      )

  -- the frames of the entries behind it are what they were
  same_frames : (entries : List ℕ) → frames_for then entries ≡ frames_for now entries
  unfolding after_contact telling
  same_frames entries =
      ap (λ (m : Moment). frames_for m entries) (contact_leaves now c done)
      ∙ ap (λ (ws : List ℕ). map (frame_for now.panel.setup ws list) entries) (sym (contact_words now c done) ∙ stands)

-- ---- Contacts in a row

module _ (now : Moment) (c : Contact) (cs : List Contact) (done : number_given now (contact c) ≡ 0)
    (stands : (after now (contact c)).lent.words ≡ now.lent.words) (rest : SentInOrder (after now (contact c)) cs) where
  step : (due : List ℕ) → due_at now ≡ due
      → (frame_sent now c ++ frames_sent (after now (contact c)) cs ≡ frames_for now (take (suc (length cs)) due))
      × (due_at (after_all (after now (contact c)) (map contact cs)) ≡ drop (suc (length cs)) due)
  step [] none =
      let here = none_sent now c done stands none in
      let later = same_frames now c done stands (take (length cs) (due_at (after now (contact c)))) in (
        rw (here.0, rest.sent, later, here.1, take-nil {A = ℕ} (length cs)),
        rest.left ∙ rw here.1 (drop-nil {A = ℕ} (length cs)),
      )
  step (i ∷ more) are =
      let here = one_sent now c done stands i more are in
      let later = same_frames now c done stands (take (length cs) (due_at (after now (contact c)))) in (
        rw (here.0, rest.sent, later, here.1),
        rest.left ∙ rw here.1,
      )

pub sent_in_order : (now : Moment) (cs : List Contact) → WordsStand now cs → SentInOrder now cs
unfolding WordsStand frames_sent after_all
sent_in_order now [] stand = record { sent = refl; left = refl }
sent_in_order now (c ∷ cs) stand =
    let rest = sent_in_order (after now (contact c)) cs stand.2 in
    let both = step now c cs stand.0 stand.1 rest (due_at now) refl in
    record { sent = both.0; left = both.1 }

pub all_sent : (now : Moment) (cs : List Contact) → WordsStand now cs → length cs ≡ length (due_at now) → AllSent now cs
all_sent now cs stand as_many =
    let order = sent_in_order now cs stand in
    let all : take (length cs) (due_at now) ≡ due_at now = rw as_many (take-length (due_at now)) in
    record {
      sent = order.sent ∙ ap (frames_for now) all;
      none_left = order.left ∙ rw as_many (drop-length (due_at now));
    }

-- ---- The entries that are due: exactly these, each once, in the list's order

module _ (words : List ℕ) (w : Watched) where
  rising_from : (least i n : ℕ) → least ≤ i → Rising least (due_from words w i n)
  unfolding Rising due_from
  rising_from least i zero above = tt
  rising_from least i (suc n) above = go (is_due words w i) (rising_from (i + 1) (i + 1) n (omega arith)) (rising_from least (i + 1) n (omega arith))
    where
      go : (b : Bool) → Rising (i + 1) (due_from words w (i + 1) n) → Rising least (due_from words w (i + 1) n)
          → Rising least (cond b (i ∷ due_from words w (i + 1) n) (due_from words w (i + 1) n))
      go true behind past = (above, behind)
      go false behind past = past

  pub due_in_order : Rising 0 (due_entries words w)
  unfolding due_entries
  due_in_order = rising_from 0 0 (entry_count w) (omega arith)

  module _ (k : ℕ) where
    -- what stands there is due
    listed_due : (i n : ℕ) → Among k (due_from words w i n) → (k < i + n) × (is_due words w k ≡ true)
    unfolding Among due_from
    listed_due i zero among = absurd among
    listed_due i (suc n) among = go (is_due words w i) refl among (listed_due (i + 1) n)
      where
        go : (b : Bool) → is_due words w i ≡ b → Among k (cond b (i ∷ due_from words w (i + 1) n) (due_from words w (i + 1) n))
            → (Among k (due_from words w (i + 1) n) → (k < i + 1 + n) × (is_due words w k ≡ true)) → (k < i + suc n) × (is_due words w k ≡ true)
        go true due among further =
            ⊎_elim
            (λ same. (omega (arith, same), rw same due))
            (λ behind. let there = further behind in (omega (arith, there.0), there.1))
            among
        go false not_due among further = let there = further among in (omega (arith, there.0), there.1)

    -- and what is due stands there
    due_listed : (i n : ℕ) → i ≤ k → k < i + n → is_due words w k ≡ true → Among k (due_from words w i n)
    unfolding Among due_from
    due_listed i zero from below due = absurd (omega arith)
    due_listed i (suc n) from below due =
        ⊎_elim
        (λ same. let here : is_due words w i ≡ true = rw same due in rw here (inl (sym same)))
        (λ later. go (is_due words w i) (due_listed (i + 1) n (omega (arith, later)) (omega (arith, later)) due))
        (last_or_before i k (omega arith))
      where
        go : (b : Bool) → Among k (due_from words w (i + 1) n) → Among k (cond b (i ∷ due_from words w (i + 1) n) (due_from words w (i + 1) n))
        go true behind = inr behind
        go false behind = behind

    pub due_exactly : Exactly (Among k (due_entries words w)) ((k < entry_count w) × (is_due words w k ≡ true))
    unfolding due_entries
    due_exactly =
        record {
          only_when = λ among. let there = listed_due 0 (entry_count w) among in (omega (arith, there.0), there.1);
          wherever = λ is. due_listed 0 (entry_count w) (omega arith) (omega (arith, is.0)) is.1;
        }
