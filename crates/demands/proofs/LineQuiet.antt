-- A line write causes no frame: an entry whose word a done 0x82 wrote is not due, until a contact or the caller changes it.
use mathlib.Core.Path.{◌≡◌, refl, sym, ap, ◌∙◌}
use mathlib.Core.Logic.{◌⊎◌, inl, inr, ⊎_elim, ◌≢◌}
use mathlib.Core.Bool.{Bool, true, false, ◌&&◌, true≢false}
use mathlib.Core.List.{List, [], ◌∷◌}
use Prim.Native.Nat.{ℕ, ◌+◌, ◌≤◌, ◌<◌}
use native.Mathlib.Omega.{arith}
use borrow.Author.Tests.{leb-true, leb-false, ltb-false}
use lib.Dec.{leb, ltb}
use lib.ListN.{length, get_or, drop, set}
use lib.Seq.{get_or-set_other}
use Rattle.wire.specs.ByteOrder.{word_at}
use Rattle.reading.specs.Place.{accepted_frame}
use Rattle.words.specs.Words.{word_at_address, words_of, words_written}
use Rattle.words.proofs.Written.{other_words_stay}
use Rattle.watch.specs.Watched.{Watched, entry_count, address_at, used_at}
use Rattle.watch.specs.Judge.{wrong_list}
use Rattle.watch.specs.Noting.{in_run, is_noted}
use Rattle.watch.specs.Sending.{is_due}
use Rattle.watch.proofs.Judged.{good_lengths}
use Rattle.watch.proofs.Runs.{run_in}
use Rattle.watch.proofs.Uses.{used_inside}
use Rattle.watch.proofs.Dues.{due_as_before, written_not_due, not_due_stays}
use Rattle.commands.specs.Lent.{Lent}
use Rattle.panel.specs.Contacts.{Contact}
use Rattle.panel.specs.Reachable.{Reachable}
use Rattle.demands.specs.Calls.{Moment, Call, lend, byte, bytes, mark, second, ask, contact, lift, after, after_all, number_given, handed_over, AllTyped}
use Rattle.demands.specs.Demand2.{leaving, after_store, SomeCall, here, later}
use Rattle.demands.specs.Entries.{ListEntry, Tells, tells_nothing, tells_entry, LeavesEntry, AllLeaveEntry, SendsEntry, sends_first, StaysQuiet}
use Rattle.demands.proofs.Access.{writes_words}
use Rattle.demands.proofs.Calls.{call_reached}
use Rattle.demands.proofs.FrameAsked.{handed_asks}
use Rattle.demands.proofs.Entries.{AskNotes, notes_nothing, notes_run, ask_notes, contact_stands_or_done, contact_tells}

-- a word outside the run of a write stays
outside_run : (first n k : ℕ) → in_run first n k ≡ false → (k < first) ⊎ (first + n ≤ k)
unfolding in_run
outside_run first n k = go (leb first k) refl
  where
    go : (b : Bool) → leb first k ≡ b → (b && ltb k (first + n)) ≡ false → (k < first) ⊎ (first + n ≤ k)
    go true from past = inr (ltb-false k (first + n) past)
    go false before past = inl (leb-false first k before)

outside_stays : (words bs : List ℕ) (first k : ℕ) → in_run first (length (words_of bs)) k ≡ false
    → word_at_address (words_written words first bs) k ≡ word_at_address words k
unfolding word_at_address words_written
outside_stays words bs first k out = go (leb (first + length (words_of bs)) (length words)) refl
  where
    go : (b : Bool) → leb (first + length (words_of bs)) (length words) ≡ b → get_or (words_written words first bs) k 0 ≡ get_or words k 0
    go true fits =
        other_words_stay words bs first (leb-true (first + length (words_of bs)) (length words) fits) k (outside_run first (length (words_of bs)) k out)
    go false not = rw not

-- entry i is in use and not due
record Quiet (i : ℕ) (lent : Lent) : Type 0 where
  used : used_at lent.watched.uses i ≡ true
  not_due : is_due lent.words lent.watched i ≡ false

-- an entry in use of a list that is not refused stands in all three slices
stands : (w : Watched) (i : ℕ) → wrong_list w ≡ false → used_at w.uses i ≡ true → (i < entry_count w) × (i < length w.values)
stands w i good used =
    let inside = used_inside w.uses i used in
    let long = good_lengths w good in
    (omega (arith, inside, long.1), omega (arith, inside, long.1, long.2))

module _ (i : ℕ) (now : Moment) where
  abbrev list : Watched
  list = now.lent.watched

  abbrev address : ℕ
  address = address_at list.addresses i

  ask_quiet : Quiet i now.lent → AskNotes now → Quiet i (after now ask).lent
  ask_quiet quiet (notes_nothing words same) = record { used = rw same quiet.used; not_due = rw (words, same) quiet.not_due }
  ask_quiet quiet (notes_run content hands done words left) =
      let good = (handed_asks now 0x82 content hands).well.watched in
      let inside = stands list i good quiet.used in
      let first = word_at content 0 in
      let n = length (words_of (drop 2 content)) in
      let then = (after now ask).lent.words in
      let outside : in_run first n address ≡ false → word_at_address then address ≡ word_at_address now.lent.words address = λ out.
      ap (λ (ws : List ℕ). word_at_address ws address) words ∙ outside_stays now.lent.words (drop 2 content) first address out in
      record {
        used = rw left quiet.used;
        not_due = rw left (not_due_stays now.lent.words then list first n i inside.0 inside.1 quiet.not_due outside);
      }

  -- a contact that leaves the word leaves the entry as due as it was
  as_before : (c : Contact) → LeavesEntry i now (contact c) → Quiet i now.lent → is_due (after now (contact c)).lent.words list i ≡ false
  unfolding LeavesEntry
  as_before c leaves quiet = due_as_before (after now (contact c)).lent.words list i now.lent.words list.values leaves refl ∙ quiet.not_due

  contact_quiet : (c : Contact) → LeavesEntry i now (contact c) → Quiet i now.lent → Quiet i (after now (contact c)).lent
  contact_quiet c leaves quiet =
      ⊎_elim (λ same. ap_quiet same) (λ done. go (contact_tells now c done)) (contact_stands_or_done now c)
    where
      words : List ℕ
      words = (after now (contact c)).lent.words

      ap_quiet : after now (contact c) ≡ now → Quiet i (after now (contact c)).lent
      ap_quiet same = rw same quiet

      go : Tells now c words → Quiet i (after now (contact c)).lent
      go (tells_nothing none written room same) = record { used = rw same quiet.used; not_due = rw same (as_before c leaves quiet) }
      go (tells_entry j first written room left) =
          let other : i ≢ j = λ same. true≢false (sym first.due ∙ sym (ap (is_due words list) same) ∙ as_before c leaves quiet) in
          let value = get_or-set_other list.values j i (word_at_address words (address_at list.addresses j)) 0 other in
          record {
            used = rw left quiet.used;
            not_due =
                rw left
                (due_as_before words list i words (set list.values j (word_at_address words (address_at list.addresses j))) refl value ∙ as_before c leaves quiet);
          }

  lend_quiet : (lent : Lent) → LeavesEntry i now (lend lent) → Quiet i now.lent → Quiet i lent
  unfolding LeavesEntry used_at is_due
  lend_quiet lent leaves quiet =
      let at = ap (λ (e : ListEntry). e.address) leaves.0 in
      let uses = ap (λ (e : ListEntry). e.in_use) leaves.0 in
      let value = ap (λ (e : ListEntry). e.last_sent) leaves.0 in
      record { used = rw uses quiet.used; not_due = rw (at, uses, value, leaves.1) quiet.not_due }

  call_quiet : Reachable now.panel → (call : Call) → LeavesEntry i now call → Quiet i now.lent → Quiet i (after now call).lent
  unfolding after
  call_quiet reached (lend lent) leaves quiet = lend_quiet lent leaves quiet
  call_quiet reached (byte b) leaves quiet = quiet
  call_quiet reached (bytes bs) leaves quiet = quiet
  call_quiet reached mark leaves quiet = quiet
  call_quiet reached second leaves quiet = quiet
  call_quiet reached ask leaves quiet = ask_quiet quiet (ask_notes now reached)
  call_quiet reached (contact c) leaves quiet = contact_quiet c leaves quiet
  call_quiet reached lift leaves quiet = quiet

  -- the call does not send it
  call_not_sends : (call : Call) → LeavesEntry i now call → Quiet i now.lent → SendsEntry i now call → ⊥
  call_not_sends _ leaves quiet (sends_first c done first) = true≢false (sym first.due ∙ as_before c leaves quiet)

-- over any calls that leave the entry
all_quiet : (i : ℕ) (now : Moment) → Reachable now.panel → (calls : List Call) → AllTyped calls → AllLeaveEntry i now calls → Quiet i now.lent
    → StaysQuiet i now calls
unfolding AllTyped AllLeaveEntry after_all
all_quiet i now reached [] typed leave quiet = record { not_due = quiet.not_due; never_sent = λ some. elim some [ ] }
all_quiet i now reached (call ∷ calls) typed leave quiet =
    let next = call_quiet i now reached call leave.0 quiet in
    let rest = all_quiet i (after now call) (call_reached now call typed.0 reached) calls typed.1 leave.1 next in
    record { not_due = rest.not_due; never_sent = none rest.never_sent }
  where
    none : (SomeCall (λ then call. SendsEntry i then call) (after now call) calls → ⊥) → SomeCall (λ then call. SendsEntry i then call) now (call ∷ calls) → ⊥
    none later-none (here _ _ _ sends) = call_not_sends i now call leave.0 quiet sends
    none later-none (later _ _ _ some) = later-none some

-- 02, §4: "Line writes note the new value and send nothing."
pub written_stays_quiet : (now : Moment) → Reachable now.panel → (content : List ℕ) → handed_over now ask ≡ accepted_frame 0x82 content ∷ []
    → number_given now ask ≡ 0 → (i : ℕ) → used_at now.lent.watched.uses i ≡ true → word_at content 0 ≤ address_at now.lent.watched.addresses i
    → address_at now.lent.watched.addresses i < word_at content 0 + length (words_of (drop 2 content))
    → Reachable (after now ask).panel → (calls : List Call) → AllTyped calls → AllLeaveEntry i (after now ask) calls → StaysQuiet i (after now ask) calls
unfolding after_store leaving is_noted
written_stays_quiet now reached content hands done i used from below there calls typed leave =
    let list = now.lent.watched in
    let first = word_at content 0 in
    let n = length (words_of (drop 2 content)) in
    let inside = stands list i (handed_asks now 0x82 content hands).well.watched used in
    let left = ap (λ (m : Moment). m.lent) (writes_words now reached content done hands) in
    let words = words_written now.lent.words first (drop 2 content) in
    let runs = run_in first n (address_at list.addresses i) from below in
    let is-noted : is_noted list.addresses list.uses first n i ≡ true = rw (used, runs) in
    let quiet : Quiet i (after now ask).lent =
    rw left (record { used = used; not_due = written_not_due words list first n i inside.0 inside.1 is-noted }) in
    all_quiet i (after now ask) there calls typed leave quiet
