-- What asks and contacts do to the watch list: an entry that no call names stays, over one call and over a sequence.
use mathlib.Core.Path.{◌≡◌, refl, ap, ◌∙◌}
use mathlib.Core.Logic.{◌⊎◌, inl, inr, ⊎_elim}
use mathlib.Core.Bool.{Bool, true, false}
use mathlib.Core.List.{List, [], ◌∷◌}
use Prim.Native.Nat.{ℕ, ◌≤◌}
use native.Mathlib.Omega.{arith}
use borrow.Author.Tests.{eqb-true, eqb-false}
use lib.Dec.{eqb}
use lib.ListN.{length, get_or, drop, set, length-set}
use lib.Seq.{get_or-set_other}
use Rattle.wire.specs.ByteOrder.{word_at}
use Rattle.wire.specs.Room.{over}
use Rattle.wire.proofs.Over.{over_nil}
use Rattle.wire.proofs.Truths.{and_left, and_right}
use Rattle.reading.specs.Place.{accepted_frame}
use Rattle.words.specs.Words.{word_at_address, words_of, words_written}
use Rattle.watch.specs.Watched.{Watched, with_values, address_at, used_at}
use Rattle.watch.specs.Judge.{wrong_list}
use Rattle.watch.specs.Noting.{in_run, is_noted, noted}
use Rattle.watch.specs.Sending.{Sending, sending}
use Rattle.watch.proofs.Places.{one_or_two}
use Rattle.watch.proofs.Runs.{in_run_lem}
use Rattle.watch.proofs.Noted.{unnoted_stays, length_noted}
use Rattle.watch.proofs.Sent.{Sends, none_due, first_due, sends_ways}
use Rattle.commands.specs.Lent.{Lent}
use Rattle.panel.specs.Numbers.{contact_number}
use Rattle.panel.specs.Watching.{unasked, telling}
use Rattle.panel.specs.Contacts.{Contact, Contacting, contacting}
use Rattle.panel.specs.Reachable.{Reachable}
use Rattle.panel.proofs.Ways.{touched_by}
use Rattle.panel.proofs.Refusals.{refused_contact_changes_nothing}
use Rattle.demands.specs.Calls.{Moment, Call, lend, byte, bytes, mark, second, ask, contact, lift, after, after_all, number_given, handed_over, AllTyped}
use Rattle.demands.specs.Demand2.{leaving, after_write, after_read, after_store, after_fetch, after_add, after_bad_check, after_contact, after_command, AskLeaves, hands_nothing, hands_bad_check, refuses_command, does_command, SomeCall, here, later}
use Rattle.demands.specs.Entries.{ListEntry, entry_at, NamesEntry, by_noting, by_sending, by_other_list, OnlyValues, bytes_written, Tells, tells_nothing, tells_entry}
use Rattle.demands.proofs.Answers.{moment_touched}
use Rattle.demands.proofs.Asking.{by_command_lem, one_of_five, as_command, asking_leaves}
use Rattle.demands.proofs.Calls.{call_reached}
use Rattle.demands.proofs.TouchEffects.{contact_done_lem, contact_leaves}

-- ---- An ask

-- words and list stay, or an 0x82 that is done writes the words, and its run is noted
pub data AskNotes (now : Moment) : Type 0 where
  notes_nothing : (after now ask).lent.words ≡ now.lent.words → (after now ask).lent.watched ≡ now.lent.watched → AskNotes now
  notes_run : (content : List ℕ) → handed_over now ask ≡ accepted_frame 0x82 content ∷ [] → number_given now ask ≡ 0
      → (after now ask).lent.words ≡ words_written now.lent.words (word_at content 0) (drop 2 content)
      → (after now ask).lent.watched
      ≡ with_values now.lent.watched (noted (after now ask).lent.words now.lent.watched (word_at content 0) (length (words_of (drop 2 content))))
      → AskNotes now

notes_none_by : (now then : Moment) → then.lent.words ≡ now.lent.words → then.lent.watched ≡ now.lent.watched → after now ask ≡ then → AskNotes now
notes_none_by now then words list is =
    notes_nothing (ap (λ (m : Moment). m.lent.words) is ∙ words) (ap (λ (m : Moment). m.lent.watched) is ∙ list)

module _ (now : Moment) (command : ℕ) (content : List ℕ) (hands : handed_over now ask ≡ accepted_frame command content ∷ []) (done : number_given now ask ≡ 0) where
  store_notes : command ≡ 0x82 → after now ask ≡ after_store now content → AskNotes now
  unfolding after_store leaving
  store_notes known is =
      let words = ap (λ (m : Moment). m.lent.words) is in
      notes_run content (as_command now command content hands 0x82 known) done words (rw words (ap (λ (m : Moment). m.lent.watched) is))

  command_notes : 0x80 ≤ command → command ≤ 0x84 → after now ask ≡ after_command now command content → AskNotes now
  unfolding after_write after_read after_fetch after_add leaving
  command_notes from to =
      by_command_lem (λ then. after now ask ≡ then → AskNotes now) now command content (one_of_five command from to)
      (λ at. notes_none_by now (after_write now content) refl refl)
      (λ at. notes_none_by now (after_read now content) refl refl)
      store_notes
      (λ at. notes_none_by now (after_fetch now content) refl refl)
      (λ at. notes_none_by now (after_add now content) refl refl)

pub ask_notes : (now : Moment) → Reachable now.panel → AskNotes now
ask_notes now reached = go (asking_leaves now reached)
  where
    go : AskLeaves now → AskNotes now
    go (hands_nothing hands number is) = notes_none_by now now refl refl is
    go (hands_bad_check command hands number is) =
        notes_none_by now (after_bad_check now command) (unfold after_bad_check in refl) (unfold after_bad_check in refl) is
    go (refuses_command command content hands least most is) =
        notes_none_by now (leaving now command now.panel.registers now.panel.catch now.panel.counts now.lent []) (unfold leaving in refl)
        (unfold leaving in refl) is
    go (does_command command content hands done from to is) = command_notes now command content hands done from to is

-- ---- A contact

-- a contact changes nothing, or is answered 0
pub contact_stands_or_done : (now : Moment) (c : Contact) → (after now (contact c) ≡ now) ⊎ (number_given now (contact c) ≡ 0)
unfolding number_given after
contact_stands_or_done now c = go (eqb (contact_number (contacting now.panel c now.lent).contacted.answer) 0) refl
  where
    go : (b : Bool) → eqb (contact_number (contacting now.panel c now.lent).contacted.answer) 0 ≡ b
        → (moment_touched (contacting now.panel c now.lent) ≡ now) ⊎ (contact_number (contacting now.panel c now.lent).contacted.answer ≡ 0)
    go true is = inr (eqb-true (contact_number (contacting now.panel c now.lent).contacted.answer) 0 is)
    go false is =
        let not-0 = eqb-false (contact_number (contacting now.panel c now.lent).contacted.answer) 0 is in
        inl (ap moment_touched (refused_contact_changes_nothing now.panel c now.lent (omega (arith, not-0))))

-- what a contact writes, and what it leaves of room and list, where this is the sending that is found with these words
pub record ContactSends (now : Moment) (c : Contact) (words : List ℕ) (s : Sending) : Type 0 where
  pub written : bytes_written now c ≡ length (unasked now.panel.setup words s.due)
  pub room : (after now (contact c)).lent.room ≡ over (unasked now.panel.setup words s.due) now.lent.room
  pub list : (after now (contact c)).lent.watched ≡ with_values now.lent.watched s.values

module _ (now : Moment) (c : Contact) (done : number_given now (contact c) ≡ 0) where
  abbrev touched_words : List ℕ
  touched_words = (touched_by now.panel c now.lent).words

  pub contact_words : (after now (contact c)).lent.words ≡ touched_words
  unfolding after_contact telling
  contact_words = ap (λ (m : Moment). m.lent.words) (contact_leaves now c done)

  pub contact_list_good : wrong_list now.lent.watched ≡ false
  unfolding number_given
  contact_list_good = (contact_done_lem now.panel c now.lent done).good_list

  -- what is told goes by the sending that is found
  pub contact_sends : (s : Sending) → sending touched_words now.lent.watched ≡ s → ContactSends now c touched_words s
  unfolding number_given after_contact telling
  contact_sends s is =
      let setup = now.panel.setup in
      let touches = (contact_done_lem now.panel c now.lent done).touches in
      let left = contact_leaves now c done in
      record {
        written = ap (λ (r : Contacting). r.contacted.written) touches ∙ ap (λ (t : Sending). length (unasked setup touched_words t.due)) is;
        room = ap (λ (m : Moment). m.lent.room) left ∙ ap (λ (t : Sending). over (unasked setup touched_words t.due) now.lent.room) is;
        list = ap (λ (m : Moment). m.lent.watched) left ∙ ap (λ (t : Sending). with_values now.lent.watched t.values) is;
      }

  tells_by : Sends touched_words now.lent.watched → Tells now c touched_words
  unfolding unasked
  tells_by (none_due none is) =
      let told = contact_sends _ is in
      tells_nothing none told.written (told.room ∙ over_nil now.lent.room) told.list
  tells_by (first_due i inside due before is) =
      let told = contact_sends _ is in
      tells_entry i (record { inside = inside; due = due; none_before = before }) told.written told.room told.list

  pub contact_tells : Tells now c (after now (contact c)).lent.words
  contact_tells = rw contact_words (tells_by (sends_ways touched_words now.lent.watched))

-- ---- The list over a call

values_only : (before behind : Watched) (values : List ℕ) → length values ≡ length before.values → behind ≡ with_values before values → OnlyValues before behind
values_only before behind values long is =
    record {
      same_addresses = ap (λ (w : Watched). w.addresses) is;
      same_uses = ap (λ (w : Watched). w.uses) is;
      as_many = ap (λ (w : Watched). length w.values) is ∙ long;
    }

stands_whole : (before behind : Watched) → behind ≡ before → OnlyValues before behind
stands_whole before behind is = values_only before behind before.values refl is

pub asked_only_values : (now : Moment) → Reachable now.panel → OnlyValues now.lent.watched (after now ask).lent.watched
asked_only_values now reached = go (ask_notes now reached)
  where
    list : Watched
    list = now.lent.watched

    go : AskNotes now → OnlyValues list (after now ask).lent.watched
    go (notes_nothing words same) = stands_whole list (after now ask).lent.watched same
    go (notes_run content hands done words left) =
        values_only list (after now ask).lent.watched _
        (length_noted (after now ask).lent.words list (word_at content 0) (length (words_of (drop 2 content)))) left

pub contacted_only_values : (now : Moment) (c : Contact) → OnlyValues now.lent.watched (after now (contact c)).lent.watched
contacted_only_values now c =
    ⊎_elim
    (λ stands. stands_whole list (after now (contact c)).lent.watched (ap (λ (m : Moment). m.lent.watched) stands))
    (λ done. go (contact_tells now c done))
    (contact_stands_or_done now c)
  where
    list : Watched
    list = now.lent.watched

    go : Tells now c (after now (contact c)).lent.words → OnlyValues list (after now (contact c)).lent.watched
    go (tells_nothing none written room same) = stands_whole list (after now (contact c)).lent.watched same
    go (tells_entry i first written room left) =
        values_only list (after now (contact c)).lent.watched _
        (length-set list.values i (word_at_address (after now (contact c)).lent.words (address_at list.addresses i))) left

-- ---- An entry over a call

-- other values, the same one at this place
same_entry : (w : Watched) (values : List ℕ) (i : ℕ) → get_or values i 0 ≡ get_or w.values i 0 → entry_at (with_values w values) i ≡ entry_at w i
same_entry w values i same = ap (λ (v : ℕ). record { address = get_or w.addresses i 0; in_use = get_or w.uses i 0; last_sent = v }) same

module _ (now : Moment) (i : ℕ) where
  abbrev list : Watched
  list = now.lent.watched

  asked_entry : AskNotes now → (entry_at (after now ask).lent.watched i ≡ entry_at list i) ⊎ NamesEntry now i ask
  unfolding is_noted
  asked_entry (notes_nothing words same) = inl (ap (λ (w : Watched). entry_at w i) same)
  asked_entry (notes_run content hands done words left) = go (is_noted list.addresses list.uses first n i) refl
    where
      first : ℕ
      first = word_at content 0

      n : ℕ
      n = length (words_of (drop 2 content))

      go : (b : Bool) → is_noted list.addresses list.uses first n i ≡ b
          → (entry_at (after now ask).lent.watched i ≡ entry_at list i) ⊎ NamesEntry now i ask
      go true is =
          let used = used_at list.uses i in
          let runs = in_run first n (address_at list.addresses i) in
          let bounds = in_run_lem first n (address_at list.addresses i) (and_right used runs is) in
          inr (by_noting content hands done (and_left used runs is) bounds.0 bounds.1)
      go false is =
          inl (ap (λ (w : Watched). entry_at w i) left
          ∙ same_entry list (noted (after now ask).lent.words list first n) i (unnoted_stays (after now ask).lent.words list first n i is))

  contacted_entry : (c : Contact) → (entry_at (after now (contact c)).lent.watched i ≡ entry_at list i) ⊎ NamesEntry now i (contact c)
  contacted_entry c =
      ⊎_elim (λ stands. inl (ap (λ (m : Moment). entry_at m.lent.watched i) stands)) (λ done. go done (contact_tells now c done)) (contact_stands_or_done now c)
    where
      go : number_given now (contact c) ≡ 0 → Tells now c (after now (contact c)).lent.words
          → (entry_at (after now (contact c)).lent.watched i ≡ entry_at list i) ⊎ NamesEntry now i (contact c)
      go done (tells_nothing none written room same) = inl (ap (λ (w : Watched). entry_at w i) same)
      go done (tells_entry j first written room left) =
          let word = word_at_address (after now (contact c)).lent.words (address_at list.addresses j) in
          ⊎_elim
          (λ same. inr (by_sending c done (rw same first)))
          (λ other. inl (ap (λ (w : Watched). entry_at w i) left
          ∙ same_entry list (set list.values j word) i (get_or-set_other list.values j i word 0 other)))
          (one_or_two i j)

  lent_entry : (lent : Lent) → (entry_at lent.watched i ≡ entry_at list i) ⊎ NamesEntry now i (lend lent)
  lent_entry lent = go (eqb new.address old.address) refl (eqb new.in_use old.in_use) refl (eqb new.last_sent old.last_sent) refl
    where
      new : ListEntry
      new = entry_at lent.watched i

      old : ListEntry
      old = entry_at list i

      go : (a : Bool) → eqb new.address old.address ≡ a → (u : Bool) → eqb new.in_use old.in_use ≡ u → (s : Bool) → eqb new.last_sent old.last_sent ≡ s
          → (new ≡ old) ⊎ NamesEntry now i (lend lent)
      go true a true u true s =
          let addresses = eqb-true new.address old.address a in
          let uses = eqb-true new.in_use old.in_use u in
          let values = eqb-true new.last_sent old.last_sent s in
          inl (rw (addresses, uses, values))
      go false a u is s also =
          inr (by_other_list lent (λ same. eqb-false new.address old.address a (ap (λ (e : ListEntry). e.address) same)))
      go true a false u s also = inr (by_other_list lent (λ same. eqb-false new.in_use old.in_use u (ap (λ (e : ListEntry). e.in_use) same)))
      go true a true u false s = inr (by_other_list lent (λ same. eqb-false new.last_sent old.last_sent s (ap (λ (e : ListEntry). e.last_sent) same)))

  pub call_names_entry : Reachable now.panel → (call : Call) → (entry_at (after now call).lent.watched i ≡ entry_at list i) ⊎ NamesEntry now i call
  unfolding after
  call_names_entry reached (lend lent) = lent_entry lent
  call_names_entry reached (byte b) = inl refl
  call_names_entry reached (bytes bs) = inl refl
  call_names_entry reached mark = inl refl
  call_names_entry reached second = inl refl
  call_names_entry reached ask = asked_entry (ask_notes now reached)
  call_names_entry reached (contact c) = contacted_entry c
  call_names_entry reached lift = inl refl

-- over any sequence of calls
pub entry_stays_or_is_named : (now : Moment) → Reachable now.panel → (calls : List Call) → AllTyped calls → (i : ℕ)
    → (entry_at (after_all now calls).lent.watched i ≡ entry_at now.lent.watched i) ⊎ SomeCall (λ then call. NamesEntry then i call) now calls
unfolding after_all AllTyped
entry_stays_or_is_named now reached [] typed i = inl refl
entry_stays_or_is_named now reached (call ∷ calls) typed i =
    ⊎_elim
    (λ same. ⊎_elim (λ before. inl (same ∙ before)) (λ names. inr (here now call calls names)) (call_names_entry now i reached call))
    (λ names. inr (later now call calls names))
    (entry_stays_or_is_named (after now call) (call_reached now call typed.0 reached) calls typed.1 i)
