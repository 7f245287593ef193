-- The watch list over a panel and its calls. 02, §4: "Demand 2 then reads: words, registers and the matching entry."
use Prim.{Unit}
use Rattle.std.specs.Prelude.{ℕ, ◌+◌, ◌≤◌, ◌<◌, ◌≡◌, ◌⊎◌, ◌≢◌, true, false, cond, List, [], ◌∷◌, ◌++◌, map, eqb, length, get_or, take, drop, set}
use Rattle.wire.specs.ByteOrder.{high_first, byte_at, word_at}
use Rattle.wire.specs.Room.{over}
use Rattle.wire.specs.Addresses.{word_count}
use Rattle.frame.specs.Frame.{frame_of}
use Rattle.reading.specs.Place.{accepted_frame}
use Rattle.words.specs.Words.{word_at_address, words_of}
use Rattle.touch.specs.declared.Setup.{Setup}
use Rattle.touch.specs.Setup.{checking_of}
use Rattle.watch.specs.Watched.{Watched, with_values, entry_count, address_at, used_at}
use Rattle.watch.specs.Sending.{is_due, due_entries}
use Rattle.commands.specs.Lent.{Lent}
use Rattle.panel.specs.State.{header_of}
use Rattle.panel.specs.Contacts.{Contact, contacting}
use Rattle.demands.specs.Calls.{Moment, Call, lend, byte, bytes, mark, second, ask, contact, lift, after, after_all, number_given, handed_over}
use Rattle.demands.specs.Demand2.{SomeCall, ReadsBack}

-- "each entry a word address, whether it is in use, and the value last sent": one entry, as it stands in the three slices
pub record ListEntry : Type 0 where
  pub address : ℕ
  pub in_use : ℕ
  pub last_sent : ℕ

-- entry i of a list
abbrev pub entry_at : Watched → (i : ℕ) → ListEntry
entry_at w i = record { address = get_or w.addresses i 0; in_use = get_or w.uses i 0; last_sent = get_or w.values i 0 }

-- the opposite of 16, "two entries in use share a word or one in use has an address not below 0x7000, or the list is longer than 16": a list of up to 16 entries, lent as
-- three slices of one length, of which those in use have addresses below 0x7000, each another one
pub record GoodList (w : Watched) : Type 0 where
  pub at_most_16 : length w.addresses ≤ 16
  pub as_many_uses : length w.uses ≡ length w.addresses
  pub as_many_values : length w.values ≡ length w.addresses
  pub below : (i : ℕ) → i < entry_count w → used_at w.uses i ≡ true → address_at w.addresses i < word_count
  pub apart : (i j : ℕ) → i < entry_count w → j < entry_count w → used_at w.uses i ≡ true → used_at w.uses j ≡ true
      → address_at w.addresses i ≡ address_at w.addresses j → i ≡ j

-- "the first entry in use whose word differs from its value last sent": entry i is that one
pub record FirstDue (words : List ℕ) (w : Watched) (i : ℕ) : Type 0 where
  pub inside : i < entry_count w
  pub due : is_due words w i ≡ true
  pub none_before : (k : ℕ) → k < i → is_due words w k ≡ false

-- "the matching entry": entry i is named by the call, which is done
pub data NamesEntry (now : Moment) (i : ℕ) : Call → Type 0 where
  -- "Line writes note the new value": the entry is in use, and its word lies in the run of an 0x82
  by_noting : (content : List ℕ) → handed_over now ask ≡ accepted_frame 0x82 content ∷ [] → number_given now ask ≡ 0
      → used_at now.lent.watched.uses i ≡ true → word_at content 0 ≤ address_at now.lent.watched.addresses i
      → address_at now.lent.watched.addresses i < word_at content 0 + length (words_of (drop 2 content)) → NamesEntry now i ask
  -- "After a contact that answers 0, the first entry in use whose word differs from its value last sent gets one unasked 0x83 reply": the words are as the
  -- contact leaves them
  by_sending : (c : Contact) → number_given now (contact c) ≡ 0 → FirstDue (after now (contact c)).lent.words now.lent.watched i → NamesEntry now i (contact c)
  -- the caller lends another list, with another entry there
  by_other_list : (lent : Lent) → entry_at lent.watched i ≢ entry_at now.lent.watched i → NamesEntry now i (lend lent)

-- of the three slices only the values last sent may differ, and there are as many of them
pub record OnlyValues (before behind : Watched) : Type 0 where
  pub same_addresses : behind.addresses ≡ before.addresses
  pub same_uses : behind.uses ≡ before.uses
  pub as_many : length behind.values ≡ length before.values

-- "0x83 reply of count 1": its data, "Reply 0x83, address, count, words."
abbrev pub unasked_data : (address word : ℕ) → List ℕ
unasked_data address word = high_first address ++ (1 ∷ high_first word)

-- "one unasked 0x83 reply of count 1": the frame for entry i of a list, with its word as it stands in the words
abbrev pub frame_for : Setup → (words : List ℕ) → Watched → (i : ℕ) → List ℕ
frame_for setup words w i =
    let address = address_at w.addresses i in
    frame_of (checking_of setup) (header_of setup) 0x83 (unasked_data address (word_at_address words address))

-- how many bytes a contact says that it wrote
abbrev pub bytes_written : Moment → Contact → ℕ
bytes_written now c = (contacting now.panel c now.lent).contacted.written

-- "After a contact that answers 0, the first entry in use whose word differs from its value last sent gets one unasked 0x83 reply of count 1 in the reply room, and
-- the value is noted": nothing is due and nothing is written; or entry i is the first that is due, its frame is laid over the front of the room, and its word is
-- the value last sent. `words` are as the contact leaves them
pub data Tells (now : Moment) (c : Contact) (words : List ℕ) : Type 0 where
  tells_nothing : ((k : ℕ) → k < entry_count now.lent.watched → is_due words now.lent.watched k ≡ false) → bytes_written now c ≡ 0
      → (after now (contact c)).lent.room ≡ now.lent.room → (after now (contact c)).lent.watched ≡ now.lent.watched → Tells now c words
  tells_entry : (i : ℕ) → FirstDue words now.lent.watched i
      → bytes_written now c ≡ length (frame_for now.panel.setup words now.lent.watched i)
      → (after now (contact c)).lent.room ≡ over (frame_for now.panel.setup words now.lent.watched i) now.lent.room
      → (after now (contact c)).lent.watched
      ≡ with_values now.lent.watched (set now.lent.watched.values i (word_at_address words (address_at now.lent.watched.addresses i)))
      → Tells now c words

-- "What our frame writer writes, our reader reads back as the same command and data", of the unasked reply: one accepted 0x83, in whose data that address, count 1
-- and that word stand
pub record UnaskedReadsBack (reader : Moment) (frame : List ℕ) (address word : ℕ) : Type 0 where
  pub reads_back : ReadsBack reader frame 0x83 (unasked_data address word)
  pub address_stands : word_at (unasked_data address word) 0 ≡ address
  pub count_stands : byte_at (unasked_data address word) 2 ≡ 1
  pub word_stands : word_at (unasked_data address word) 3 ≡ word

-- ---- Beyond the paper: nothing is lost

-- the frame that a contact wrote into the room, where it wrote one
unfoldable pub frame_sent : Moment → Contact → List (List ℕ)
frame_sent now c =
    let n = bytes_written now c in
    cond (eqb n 0) [] (take n (after now (contact c)).lent.room ∷ [])

-- and those of contacts in a row with nothing else between
unfoldable pub frames_sent : Moment → List Contact → List (List ℕ)
frames_sent now [] = []
frames_sent now (c ∷ cs) = frame_sent now c ++ frames_sent (after now (contact c)) cs

-- contacts in a row: each is answered 0 and changes no word
unfoldable pub WordsStand : Moment → List Contact → Type 0
WordsStand now [] = Unit
WordsStand now (c ∷ cs) =
    (number_given now (contact c) ≡ 0) × ((after now (contact c)).lent.words ≡ now.lent.words) × WordsStand (after now (contact c)) cs

-- the entries that are due at a moment, by their numbers, in the list's order
abbrev pub due_at : Moment → List ℕ
due_at now = due_entries now.lent.words now.lent.watched

-- their frames at that moment
abbrev pub frames_for : Moment → (entries : List ℕ) → List (List ℕ)
frames_for now entries = map (frame_for now.panel.setup now.lent.words now.lent.watched) entries

-- contacts in a row send the entries that are due one after the other, each once, in the list's order; those behind are left for later contacts
pub record SentInOrder (now : Moment) (cs : List Contact) : Type 0 where
  pub sent : frames_sent now cs ≡ frames_for now (take (length cs) (due_at now))
  pub left : due_at (after_all now (map contact cs)) ≡ drop (length cs) (due_at now)

-- as many contacts as entries are due: all have been sent, and none is due any more
pub record AllSent (now : Moment) (cs : List Contact) : Type 0 where
  pub sent : frames_sent now cs ≡ frames_for now (due_at now)
  pub none_left : due_at (after_all now (map contact cs)) ≡ []

-- a number stands in a list
unfoldable pub Among : ℕ → List ℕ → Type 0
Among i [] = ⊥
Among i (j ∷ js) = (i ≡ j) ⊎ Among i js

-- numbers from a least one on, each greater than the one before: so none stands there twice, and they are in order
unfoldable pub Rising : (least : ℕ) → List ℕ → Type 0
Rising least [] = Unit
Rising least (j ∷ js) = (least ≤ j) × Rising (j + 1) js

-- ---- Beyond the paper: a line write causes no frame

-- no contact and no caller changes word, entry or value: the call leaves the word of entry i, and what is lent anew has the entry too
unfoldable pub LeavesEntry : ℕ → Moment → Call → Type 0
LeavesEntry i now (lend lent) =
    let address = address_at now.lent.watched.addresses i in
    (entry_at lent.watched i ≡ entry_at now.lent.watched i) × (word_at_address lent.words address ≡ word_at_address now.lent.words address)
LeavesEntry i now (byte b) = Unit
LeavesEntry i now (bytes bs) = Unit
LeavesEntry i now mark = Unit
LeavesEntry i now second = Unit
LeavesEntry i now ask = Unit
LeavesEntry i now (contact c) =
    let address = address_at now.lent.watched.addresses i in
    word_at_address (after now (contact c)).lent.words address ≡ word_at_address now.lent.words address
LeavesEntry i now lift = Unit

-- and all these calls, one after the other
unfoldable pub AllLeaveEntry : ℕ → Moment → List Call → Type 0
AllLeaveEntry i now [] = Unit
AllLeaveEntry i now (call ∷ calls) = LeavesEntry i now call × AllLeaveEntry i (after now call) calls

-- entry i is sent by a contact
pub data SendsEntry (i : ℕ) (now : Moment) : Call → Type 0 where
  sends_first : (c : Contact) → number_given now (contact c) ≡ 0 → FirstDue (after now (contact c)).lent.words now.lent.watched i → SendsEntry i now (contact c)

-- entry i is not due behind these calls, and none of them sends it
pub record StaysQuiet (i : ℕ) (now : Moment) (calls : List Call) : Type 0 where
  pub not_due : is_due (after_all now calls).lent.words (after_all now calls).lent.watched i ≡ false
  pub never_sent : SomeCall (λ then call. SendsEntry i then call) now calls → ⊥
