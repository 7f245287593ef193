-- Demand 2: "Frames, check values, register and word access, and touch effects are those of the public SGUS and AGUS manuals as condensed in document
-- 01. What our frame writer writes, our reader reads back as the same command and data. No word or register changes but those the command or touch
-- rule names." 02, §2: "Demand 2 covers channels by the whole history": that is in specs/History. The theorems are in proofs/Demand2.
use Rattle.std.specs.Prelude.{ℕ, ◌+◌, ◌*◌, ◌≤◌, ◌<◌, ◌≡◌, ◌⊎◌, ◌≢◌, true, false, cond, List, [], ◌∷◌, ◌++◌, eqb, length, get_or, drop, None, Some}
use Rattle.wire.specs.ByteOrder.{high_first, byte_at, word_at}
use Rattle.wire.specs.Room.{over}
use Rattle.frame.specs.Frame.{frame_of}
use Rattle.reading.specs.Place.{bad_check, accepted_frame}
use Rattle.reading.specs.Moves.{fresh}
use Rattle.line.specs.State.{kept_of}
use Rattle.registers.specs.declared.Registers.{Registers}
use Rattle.registers.specs.Table.{register_at, register_run}
use Rattle.registers.specs.Run.{clear_value}
use Rattle.curves.specs.declared.Counts.{Counts}
use Rattle.curves.specs.Area.{channel_words}
use Rattle.curves.specs.Rounds.{named, mode_of}
use Rattle.curves.specs.Adding.{added}
use Rattle.curves.specs.Clearing.{clears}
use Rattle.watch.specs.Watched.{with_values}
use Rattle.watch.specs.Noting.{noted}
use Rattle.commands.specs.Lent.{Lent, with_words, with_curves, with_room, with_watched}
use Rattle.commands.specs.Effect.{registers_left, counts_left, catch_dropped}
use Rattle.registers.specs.Touched.{page_of, is_down}
use Rattle.words.specs.Words.{word_at_address, words_of, bytes_of, word_run, words_written}
use Rattle.touch.specs.declared.Record.{Record}
use Rattle.touch.specs.Setup.{checking_of}
use Rattle.touch.specs.Record.{no_next}
use Rattle.touch.specs.Find.{found}
use Rattle.contact.specs.Contact.{Catch}
use Rattle.contact.specs.Contact as Touch
use Rattle.panel.specs.Contacts.{Contact}
use Rattle.panel.specs.Watching.{telling}
use Rattle.panel.specs.State.{header_of, pad_of, with_pad, panel_count}
use Rattle.demands.specs.Calls.{Moment, Call, lend, bytes, second, ask, contact, lift, after, number_given, handed_over}
use Rattle.demands.specs.Reports.{read_behind, acknowledgement_of}

-- "those the command or touch rule names": the word is named by the call, which is done
pub data NamesWord (now : Moment) (k : ℕ) : Call → Type 0 where
  -- "0x82, address (2), one or more words: write variables": the word lies in the run
  by_store : (content : List ℕ) → handed_over now ask ≡ accepted_frame 0x82 content ∷ [] → number_given now ask ≡ 0
      → word_at content 0 ≤ k → k < word_at content 0 + length (words_of (drop 2 content)) → NamesWord now k ask
  -- "Contact while up: .. The first record of the current page holding the point acts"
  by_acting : (c : Contact) (i : ℕ) (r : Record) → number_given now (contact c) ≡ 0 → is_down now.panel.registers ≡ false
      → found c.table (page_of now.panel.registers) c.x c.y ≡ Some (i, r) → k ≡ r.word → NamesWord now k (contact c)
  -- "Contact while down: .. a caught slider stores ..; nothing else acts"
  by_dragging : (c : Contact) (r : Record) → number_given now (contact c) ≡ 0 → is_down now.panel.registers ≡ true
      → now.panel.catch ≡ Some r → k ≡ r.word → NamesWord now k (contact c)
  -- the caller lends other words, with another number there
  by_lending : (lent : Lent) → word_at_address lent.words k ≢ word_at_address now.lent.words k → NamesWord now k (lend lent)

-- "those the command or touch rule names": the register is named by the call, which is done
pub data NamesRegister (now : Moment) (address : ℕ) : Call → Type 0 where
  -- "0x80, address (1), one or more bytes: write registers": the register lies in the run
  by_write : (content : List ℕ) → handed_over now ask ≡ accepted_frame 0x80 content ∷ [] → number_given now ask ≡ 0
      → byte_at content 0 ≤ address → address < byte_at content 0 + length (drop 1 content) → NamesRegister now address ask
  -- "Contact while up: status 01"; "Contact while down: status 03"
  by_status : (c : Contact) → number_given now (contact c) ≡ 0 → address ≡ 0x06 → NamesRegister now address (contact c)
  -- "if the flag isn't 5A, X and Y are stored and the flag becomes 5A": 05 and 07-0A
  by_place : (c : Contact) → number_given now (contact c) ≡ 0 → register_at now.panel.registers 0x05 ≢ 0x5A
      → (address ≡ 0x05) ⊎ ((0x07 ≤ address) × (address < 0x0B)) → NamesRegister now address (contact c)
  -- "The first record of the current page holding the point acts, then its next page is shown.": 03-04
  by_page : (c : Contact) (i : ℕ) (r : Record) → number_given now (contact c) ≡ 0 → is_down now.panel.registers ≡ false
      → found c.table (page_of now.panel.registers) c.x c.y ≡ Some (i, r) → no_next r ≡ false → (address ≡ 0x03) ⊎ (address ≡ 0x04)
      → NamesRegister now address (contact c)
  -- 02, §6: "Demand 2's last sentence then also lets a second change the clock's registers": 20 to 26
  by_second : number_given now second ≡ 0 → 0x20 ≤ address → address ≤ 0x26 → NamesRegister now address second
  -- "Lift: status 02"
  by_lifting : number_given now lift ≡ 0 → address ≡ 0x06 → NamesRegister now address lift

-- 02, §2: "channel n from word 1,024n": the word at a place of its part of the area
abbrev pub curve_word_at : (area : List ℕ) → (n i : ℕ) → ℕ
curve_word_at area n i = get_or area (channel_words * n + i) 0

-- 02, §2: a word of the curve area is named by the call, which is done: place i of channel n
pub data NamesCurveWord (now : Moment) (n i : ℕ) : Call → Type 0 where
  -- "command 0x84": the mode byte names the channel, and the place lies below its count; "words past its count stay"
  by_adding : (content : List ℕ) → handed_over now ask ≡ accepted_frame 0x84 content ∷ [] → number_given now ask ≡ 0
      → named (mode_of content) n ≡ true → i < panel_count (after now ask).panel n → NamesCurveWord now n i ask
  -- the caller lends another area, with another number there
  by_exchange : (lent : Lent) → curve_word_at lent.curves n i ≢ curve_word_at now.lent.curves n i → NamesCurveWord now n i (lend lent)

-- 02, §2: the count of a channel is named by the call, which is done
pub data NamesCount (now : Moment) (n : ℕ) : Call → Type 0 where
  -- "command 0x84": the mode byte names the channel
  by_numbers : (content : List ℕ) → handed_over now ask ≡ accepted_frame 0x84 content ∷ [] → number_given now ask ≡ 0
      → named (mode_of content) n ≡ true → NamesCount now n ask
  -- "Register EB .. clears: 55 all, 56 to 5D channel 0 to 7"
  by_clear : (content : List ℕ) → handed_over now ask ≡ accepted_frame 0x80 content ∷ [] → number_given now ask ≡ 0
      → clears (clear_value (byte_at content 0) (drop 1 content)) n ≡ true → NamesCount now n ask

-- some call of a sequence does so
pub data SomeCall (P : Moment → Call → Type 0) : Moment → List Call → Type 0 where
  here : (now : Moment) (call : Call) (calls : List Call) → P now call → SomeCall P now (call ∷ calls)
  later : (now : Moment) (call : Call) (calls : List Call) → SomeCall P (after now call) calls → SomeCall P now (call ∷ calls)

-- "What our frame writer writes, our reader reads back as the same command and data": all its bytes are taken, asking then hands over one accepted frame
-- with this command and data, and nothing is held or waiting
pub record ReadsBack (now : Moment) (frame : List ℕ) (command : ℕ) (payload : List ℕ) : Type 0 where
  pub taken : number_given now (bytes frame) ≡ 0
  pub handed_over : handed_over (after now (bytes frame)) ask ≡ accepted_frame command payload ∷ []
  pub nothing_left : kept_of (after (after now (bytes frame)) ask).panel.reader ≡ fresh

-- "The reply follows the acknowledgement at once in the same room. .. bytes past the reported count stay.": the room with a reply of this command and data
abbrev pub with_reply : Moment → (command : ℕ) → (payload : List ℕ) → List ℕ
with_reply now command payload =
    let setup = now.panel.setup in
    over (acknowledgement_of setup command true ++ frame_of (checking_of setup) (header_of setup) command payload) now.lent.room

-- "An accepted frame takes effect when its report is handed over": what asking leaves, with the registers, the catch, the channels' counts, what is lent but
-- for the room, and the reply frame that the command makes. "The reply follows the acknowledgement at once in the same room. .. bytes past the reported count stay."
unfoldable pub leaving : Moment → (command : ℕ) → Registers → Catch → Counts → Lent → (reply : List ℕ) → Moment
leaving now command registers catch counts lent reply =
    record {
      panel = record { setup = now.panel.setup; registers = registers; catch = catch; counts = counts; reader = (read_behind now.panel).reader };
      lent = with_room lent (over (acknowledgement_of now.panel.setup command true ++ reply) now.lent.room);
    }

-- "0x80, address (1), one or more bytes: write registers." "Every page write by a command .. drops the catch." 02, §2: "Register EB .. clears"; the area stays
unfoldable pub after_write : Moment → List ℕ → Moment
after_write now content =
    leaving now 0x80 (registers_left now.panel.registers content) (cond (catch_dropped content) None now.panel.catch)
    (counts_left now.panel.counts content) now.lent []

-- "0x81, address (1), count (1): read registers. Reply 0x81, address, count, bytes."
abbrev pub read_reply : Moment → List ℕ → List ℕ
read_reply now content =
    let setup = now.panel.setup in
    let address = byte_at content 0 in
    let count = byte_at content 1 in
    frame_of (checking_of setup) (header_of setup) 0x81 (address ∷ count ∷ register_run now.panel.registers address count)

-- "0x81, address (1), count (1): read registers.": what it leaves, with its reply
unfoldable pub after_read : Moment → List ℕ → Moment
after_read now content = leaving now 0x81 now.panel.registers now.panel.catch now.panel.counts now.lent (read_reply now content)

-- "0x82, address (2), one or more words: write variables." 02, §4: "Line writes note the new value and send nothing."
unfoldable pub after_store : Moment → List ℕ → Moment
after_store now content =
    let words = words_written now.lent.words (word_at content 0) (drop 2 content) in
    let values = noted words now.lent.watched (word_at content 0) (length (words_of (drop 2 content))) in
    leaving now 0x82 now.panel.registers now.panel.catch now.panel.counts
    (with_watched (with_words now.lent words) (with_values now.lent.watched values)) []

-- "0x83, address (2), count (1): read variables. Reply 0x83, address, count, words."
abbrev pub fetch_reply : Moment → List ℕ → List ℕ
fetch_reply now content =
    let setup = now.panel.setup in
    let address = word_at content 0 in
    let count = byte_at content 2 in
    frame_of (checking_of setup) (header_of setup) 0x83 (high_first address ++ (count ∷ bytes_of (word_run now.lent.words address count)))

-- "0x83, address (2), count (1): read variables.": what it leaves, with its reply
unfoldable pub after_fetch : Moment → List ℕ → Moment
after_fetch now content = leaving now 0x83 now.panel.registers now.panel.catch now.panel.counts now.lent (fetch_reply now content)

-- 02, §2: "command 0x84 ..: a mode byte, bit n for channel n, then 16-bit numbers in rounds": they are added to their channels; it has no reply
unfoldable pub after_add : Moment → List ℕ → Moment
after_add now content =
    let drawn = added now.panel.counts content now.lent.curves in
    leaving now 0x84 now.panel.registers now.panel.catch drawn.counts (with_curves now.lent drawn.area) []

-- "register and word access .. are those of the .. manuals as condensed in document 01": all that asking leaves, where it hands over one of the five commands
-- and is answered 0. `now` is the moment at which it is asked, `left` the one that is left; ours is `after now ask`.
pub record DoesCommands (now left : Moment) : Type 0 where
  pub writes_registers : (content : List ℕ) → number_given now ask ≡ 0 → handed_over now ask ≡ accepted_frame 0x80 content ∷ [] → left ≡ after_write now content
  pub reads_registers : (content : List ℕ) → number_given now ask ≡ 0 → handed_over now ask ≡ accepted_frame 0x81 content ∷ [] → left ≡ after_read now content
  pub writes_words : (content : List ℕ) → number_given now ask ≡ 0 → handed_over now ask ≡ accepted_frame 0x82 content ∷ [] → left ≡ after_store now content
  pub reads_words : (content : List ℕ) → number_given now ask ≡ 0 → handed_over now ask ≡ accepted_frame 0x83 content ∷ [] → left ≡ after_fetch now content
  pub adds_numbers : (content : List ℕ) → number_given now ask ≡ 0 → handed_over now ask ≡ accepted_frame 0x84 content ∷ [] → left ≡ after_add now content

-- "each bad check by the same with 0x00"
unfoldable pub after_bad_check : Moment → (command : ℕ) → Moment
after_bad_check now command =
    record {
      panel = read_behind now.panel;
      lent = with_room now.lent (over (acknowledgement_of now.panel.setup command false) now.lent.room);
    }

-- "touch effects": what a contact and a lift leave, sentence by sentence in crate contact's specs/Contact. 02, §4: "After a contact that answers 0, the first entry
-- in use whose word differs from its value last sent gets one unasked 0x83 reply of count 1 in the reply room, and the value is noted": crate panel's specs/Watching
unfoldable pub after_contact : Moment → Contact → Moment
after_contact now c =
    let done = Touch.touched now.panel.setup (pad_of now.panel) c.table now.lent.words c.x c.y in
    record { panel = with_pad now.panel done.pad; lent = (telling now.panel.setup (with_words now.lent done.words)).lent }

-- "touch effects", of a lift
unfoldable pub after_lift : Moment → Moment
after_lift now = record { panel = with_pad now.panel (Touch.lifted (pad_of now.panel)); lent = now.lent }

-- "register and word access", and 02, §2: what the five commands leave where they are done
unfoldable pub after_command : Moment → (command : ℕ) → List ℕ → Moment
after_command now command content =
    cond (eqb command 0x80) (after_write now content)
    (cond (eqb command 0x81) (after_read now content)
    (cond (eqb command 0x82) (after_store now content)
    (cond (eqb command 0x83) (after_fetch now content)
    (after_add now content))))

-- All that asking can leave, by what it hands over and the number it is answered: nothing, a bad check, a command that is refused, or one that is done.
pub data AskLeaves (now : Moment) : Type 0 where
  hands_nothing : handed_over now ask ≡ [] → (number_given now ask ≡ 0) ⊎ ((number_given now ask ≡ 14) ⊎ (number_given now ask ≡ 16)) → after now ask ≡ now → AskLeaves now
  hands_bad_check : (command : ℕ) → handed_over now ask ≡ bad_check command ∷ [] → number_given now ask ≡ 0 → after now ask ≡ after_bad_check now command
      → AskLeaves now
  refuses_command : (command : ℕ) (content : List ℕ) → handed_over now ask ≡ accepted_frame command content ∷ [] → 2 ≤ number_given now ask → number_given now ask ≤ 7
      → after now ask ≡ leaving now command now.panel.registers now.panel.catch now.panel.counts now.lent [] → AskLeaves now
  does_command : (command : ℕ) (content : List ℕ) → handed_over now ask ≡ accepted_frame command content ∷ [] → number_given now ask ≡ 0
      → 0x80 ≤ command → command ≤ 0x84 → after now ask ≡ after_command now command content → AskLeaves now
