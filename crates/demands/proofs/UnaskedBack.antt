-- The unasked reply reads back: the frame that a contact leaves in the room, given to a reader of the same header and checking choice.
use mathlib.Core.Path.{◌≡◌, refl, sym, ap, ◌∙◌}
use mathlib.Core.Bool.{Bool, true, false, true≢false}
use mathlib.Core.List.{List}
use Prim.Native.Nat.{ℕ, ◌≤◌, ◌<◌}
use native.Mathlib.Omega.{arith}
use lib.ListN.{length, take}
use Rattle.wire.proofs.Over.{take_over}
use Rattle.frame.specs.Frame.{frame_of, most_data}
use Rattle.frame.proofs.GoodFrames.{frame_of_good}
use Rattle.reading.specs.Demand3.{NothingHeldOrWaiting}
use Rattle.reading.proofs.ReadBack.{report_of_frame_frame_of}
use Rattle.line.specs.State.{kept_of}
use Rattle.words.specs.Words.{word_at_address}
use Rattle.touch.specs.Setup.{checking_of}
use Rattle.watch.specs.Watched.{Watched, address_at}
use Rattle.panel.specs.State.{header_of}
use Rattle.panel.specs.Contacts.{Contact}
use Rattle.panel.specs.Sound.{Sound}
use Rattle.demands.specs.Calls.{Moment, contact, after, number_given, WellLent}
use Rattle.demands.specs.Reports.{rules_of}
use Rattle.demands.specs.Entries.{FirstDue, unasked_data, frame_for, bytes_written, Tells, tells_nothing, tells_entry, UnaskedReadsBack}
use Rattle.demands.proofs.ReadBack.{good_reads_back}
use Rattle.demands.proofs.Entries.{contact_tells}

-- there is one first entry
module _ (words : List ℕ) (w : Watched) (i j : ℕ) (first : FirstDue words w i) (also : FirstDue words w j) where
  first_is_one : i ≡ j
  first_is_one =
      let not-before : i < j → ⊥ = λ before. true≢false (sym first.due ∙ also.none_before i before) in
      let not_behind : j < i → ⊥ = λ behind. true≢false (sym also.due ∙ first.none_before j behind) in
      omega (arith, not-before, not_behind)

-- the frame stands at the front of the room
pub frame_in_room : (now : Moment) (c : Contact) → number_given now (contact c) ≡ 0 → (i : ℕ)
    → FirstDue (after now (contact c)).lent.words now.lent.watched i
    → take (bytes_written now c) (after now (contact c)).lent.room ≡ frame_for now.panel.setup (after now (contact c)).lent.words now.lent.watched i
frame_in_room now c done i first = go (contact_tells now c done)
  where
    words : List ℕ
    words = (after now (contact c)).lent.words

    go : Tells now c words → take (bytes_written now c) (after now (contact c)).lent.room ≡ frame_for now.panel.setup words now.lent.watched i
    go (tells_nothing none written room same) = absurd (true≢false (sym first.due ∙ none i first.inside))
    go (tells_entry j also written room left) =
        let frame = frame_for now.panel.setup words now.lent.watched in
        let here = first_is_one words now.lent.watched j i also first in
        rw (written, room) (take_over (frame j) now.lent.room (length (frame j)) refl) ∙ ap frame here

short : (checking : Bool) (address word : ℕ) → length (unasked_data address word) ≤ most_data checking
unfolding most_data
short true address word = omega arith
short false address word = omega arith

pub unasked_reads_back : (now : Moment) (c : Contact) → number_given now (contact c) ≡ 0 → (i : ℕ)
    → FirstDue (after now (contact c)).lent.words now.lent.watched i
    → (reader : Moment) → Sound reader.panel → NothingHeldOrWaiting (rules_of reader.panel) (kept_of reader.panel.reader) → WellLent reader.lent
    → checking_of reader.panel.setup ≡ checking_of now.panel.setup → header_of reader.panel.setup ≡ header_of now.panel.setup
    → UnaskedReadsBack reader (take (bytes_written now c) (after now (contact c)).lent.room) (address_at now.lent.watched.addresses i)
    (word_at_address (after now (contact c)).lent.words (address_at now.lent.watched.addresses i))
unasked_reads_back now c done i first reader sound nothing well checking header =
    let address = address_at now.lent.watched.addresses i in
    let word = word_at_address (after now (contact c)).lent.words address in
    let payload = unasked_data address word in
    let kind = checking_of reader.panel.setup in
    let pair = header_of reader.panel.setup in
    let frame : take (bytes_written now c) (after now (contact c)).lent.room ≡ frame_of kind pair 0x83 payload =
    rw (checking, header) (frame_in_room now c done i first) in
    record {
      reads_back = rw frame
          (good_reads_back reader sound nothing well (frame_of kind pair 0x83 payload) (frame_of_good kind pair 0x83 payload (short kind address word)) 0x83 payload
          (report_of_frame_frame_of kind pair 0x83 payload));
      address_stands = omega arith;
      count_stands = refl;
      word_stands = omega arith;
    }
