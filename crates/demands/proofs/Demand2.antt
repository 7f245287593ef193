-- Demand 2, theorem by theorem. `Arises now`: any calls with any inputs have led to this moment from any start.
use Rattle.std.specs.Prelude.{Some, Ok}
use mathlib.Core.Path.{◌≡◌}
use mathlib.Core.Logic.{◌≢◌, ⊎_elim}
use mathlib.Core.Bool.{Bool, true, false}
use mathlib.Core.List.{List, [], ◌∷◌, ◌++◌}
use Prim.Native.Nat.{ℕ, ◌+◌, ◌-◌, ◌*◌, ◌%◌, ◌^◌, ◌≤◌, ◌<◌}
use lib.ListN.{length, get_or, take, drop}
use Rattle.wire.specs.Bytes.{Bytes}
use Rattle.wire.specs.ByteOrder.{high_first, byte_at, word_at}
use Rattle.check_value.specs.CheckValue.{byte_step}
use Rattle.check_value.specs.Formula.{byte_formula}
use Rattle.check_value.proofs.Formula.{formula_steps}
use Rattle.frame.specs.Frame.{frame_of, most_data, GoodFrame}
use Rattle.frame.specs.Writer.{writing}
use Rattle.frame.proofs.GoodFrames.{frame_of_good, good_is_frame_of}
use Rattle.reading.specs.Place.{bad_check, accepted_frame}
use Rattle.reading.specs.Demand3.{NothingHeldOrWaiting}
use Rattle.line.specs.State.{kept_of}
use Rattle.registers.specs.Table.{clear_register}
use Rattle.registers.specs.Run.{reads_as}
use Rattle.registers.specs.Touched.{is_down, page_of}
use Rattle.words.specs.Words.{word_at_address, words_of}
use Rattle.curves.specs.Area.{channel_count, channel_words}
use Rattle.watch.specs.Watched.{Watched, entry_count, address_at, used_at}
use Rattle.watch.specs.Sending.{is_due, due_entries}
use Rattle.stores.specs.Store.{signed, value_in, key_stores}
use Rattle.stores.specs.Step.{stepped, fenced}
use Rattle.stores.specs.Slider.{slid_to}
use Rattle.touch.specs.declared.Setup.{Setup}
use Rattle.touch.specs.declared.Record.{Record}
use Rattle.touch.specs.declared.Kind.TheVariants.{Key, Step, Slider}
use Rattle.touch.specs.declared.StepFields.{StepFields}
use Rattle.touch.specs.declared.SliderFields.{SliderFields}
use Rattle.touch.specs.Setup.{checking_of}
use Rattle.touch.specs.Record.{up as steps_up, round as goes_round, digit_mode, along, first_edge, last_edge}
use Rattle.touch.specs.Find.{found}
use Rattle.commands.specs.Outcome.{Outcome}
use Rattle.commands.specs.Lent.{Lent}
use Rattle.panel.specs.declared.Handed.TheVariants.{BadCheck, Accepted}
use Rattle.panel.specs.State.{header_of, panel_register, panel_count}
use Rattle.panel.specs.Start.{started}
use Rattle.panel.proofs.Lengths.{reported_area_long}
use Rattle.panel.proofs.Invariant.{reachable_sound}
use Rattle.demands.specs.Calls.{Moment, Call, ask, contact, lift, begun, after, after_all, number_given, handed_over, Typed, AllTyped, Arises, WellLent}
use Rattle.demands.specs.Reports.{rules_of}
use Rattle.demands.specs.Demand2.{NamesWord, NamesRegister, curve_word_at, NamesCurveWord, NamesCount, SomeCall, ReadsBack, DoesCommands, after_bad_check, AskLeaves, after_contact, after_lift}
use Rattle.demands.specs.Done.{Exactly}
use Rattle.demands.specs.Entries.{entry_at, FirstDue, NamesEntry, OnlyValues, bytes_written, Tells, UnaskedReadsBack, WordsStand, due_at, SentInOrder, AllSent, Among, Rising, AllLeaveEntry, StaysQuiet}
use Rattle.demands.specs.History.{history_of, area_left, LentAsLeft, none_lends_anew, Keeps}
use Rattle.demands.specs.Counts.{handed_by, reply_to, BadCheckCounted, FrameCounted}
use Rattle.demands.specs.Acknowledged.{Acknowledges}
use Rattle.demands.specs.Replied.{Replied}
use Rattle.demands.specs.Stored.{Stores}
use Rattle.demands.specs.Sheets.{flagged_moment, answer_to, EdgesOnly}
use Rattle.demands.proofs.Calls.{arises_reachable, call_reached}
use Rattle.demands.proofs.Named as Named
use Rattle.demands.proofs.ReadBack as ReadBack
use Rattle.demands.proofs.Access as Access
use Rattle.demands.proofs.Asking as Asking
use Rattle.demands.proofs.Curved as Curved
use Rattle.demands.proofs.Entries as Entries
use Rattle.demands.proofs.UnaskedBack as UnaskedBack
use Rattle.demands.proofs.SentOrder as SentOrder
use Rattle.demands.proofs.LineQuiet as LineQuiet
use Rattle.demands.proofs.Histories.{history_kept, lent_as_left}
use Rattle.demands.proofs.Counts as Counts
use Rattle.demands.proofs.Acknowledged as Acknowledged
use Rattle.demands.proofs.WrittenReads as WrittenReads
use Rattle.demands.proofs.Sizes as Sizes
use Rattle.demands.proofs.TouchEffects as TouchEffects
use Rattle.panel.specs.Contacts.{Contact}
use Rattle.touch.specs.Rounding.{sheet_of, rounding_of}
use Rattle.demands.proofs.Caught as Caught
use Rattle.demands.proofs.Sheets as Sheets

-- "Frames .. are those of the .. manuals as condensed in document 01": the frame of any command and data within the limit is a good one, and every good
-- frame is the frame of some command and data within the limit
pub frames_are_good : (checking : Bool) (header : List ℕ) (command : ℕ) (payload : List ℕ) → length payload ≤ most_data checking
    → GoodFrame checking header (frame_of checking header command payload)
frames_are_good = frame_of_good

pub good_frames_are_frames : (checking : Bool) (header frame : List ℕ) → GoodFrame checking header frame
    → (command : ℕ) × (payload : List ℕ) × (length payload ≤ most_data checking) × (frame ≡ frame_of checking header command payload)
good_frames_are_frames = good_is_frame_of

-- "check values": "the value is defined bit by bit from the polynomial", and the formula of 02, §3, gives the eight steps of a byte
pub formula_gives_eight_steps : (value byte : ℕ) → byte < 2 ^ 8 → byte_formula value byte ≡ byte_step value byte
formula_gives_eight_steps = formula_steps

-- "register and word access .. are those of the .. manuals as condensed in document 01"
pub does_commands : (now : Moment) → Arises now → DoesCommands now (after now ask)
does_commands now arises =
    let reached = arises_reachable now arises in
    record {
      writes_registers = λ content. Access.writes_registers now reached content;
      reads_registers = λ content. Access.reads_registers now reached content;
      writes_words = λ content. Access.writes_words now reached content;
      reads_words = λ content. Access.reads_words now reached content;
      adds_numbers = λ content. Access.adds_numbers now reached content;
    }

-- and all that asking can leave at all: nothing is handed over, a bad check, a command that is refused, or one of these that is done
pub asking_leaves : (now : Moment) → Arises now → AskLeaves now
asking_leaves now arises = Asking.asking_leaves now (arises_reachable now arises)

-- "each bad check by the same with 0x00"; "'Nothing' changes nothing, the reply room included."
pub answers_bad_check : (now : Moment) → Arises now → (command : ℕ) → handed_over now ask ≡ bad_check command ∷ [] → after now ask ≡ after_bad_check now command
answers_bad_check now arises = Access.answers_bad_check now (arises_reachable now arises)

pub nothing_changes_nothing : (now : Moment) → handed_over now ask ≡ [] → after now ask ≡ now
nothing_changes_nothing = Access.nothing_changes_nothing

-- "The reply follows the acknowledgement at once in the same room. .. bytes past the reported count stay.": the counts that a report hands over are those of
-- the bytes laid, whatever is handed over
pub counts_of_bad_check : (now : Moment) → Arises now → (command acknowledged : ℕ) → handed_by now ≡ Ok (Some (BadCheck command acknowledged))
    → BadCheckCounted now command acknowledged
counts_of_bad_check now arises = Counts.bad_check_counts now (arises_reachable now arises)

pub counts_of_frame : (now : Moment) → Arises now → (command count : ℕ) (outcome : Outcome) (acknowledged replied : ℕ)
    → handed_by now ≡ Ok (Some (Accepted command count outcome acknowledged replied)) → FrameCounted now command count acknowledged replied
counts_of_frame now arises = Counts.frame_counts now (arises_reachable now arises)

-- 02, §1: "acknowledgements, whose seven bytes are stated outright": they stand at the front of the room, the reply behind them, and the rest stays
pub bad_check_acknowledged : (now : Moment) → Arises now → (command : ℕ) → handed_over now ask ≡ bad_check command ∷ [] → Acknowledges now command false []
bad_check_acknowledged now arises = Acknowledged.bad_check_acknowledged now (arises_reachable now arises)

pub frame_acknowledged : (now : Moment) → Arises now → (command : ℕ) (content : List ℕ) → handed_over now ask ≡ accepted_frame command content ∷ []
    → Acknowledges now command true (reply_to now command content)
frame_acknowledged now arises = Acknowledged.frame_acknowledged now (arises_reachable now arises)

-- what an 0x80 wrote, an 0x81 of any part of its run replies, whatever calls come between that name none of those registers: it is answered 0, with the bytes as
-- they read once written, EB as 00
pub what_80_wrote_81_replies : (now : Moment) → Arises now → (content : List ℕ) → handed_over now ask ≡ accepted_frame 0x80 content ∷ [] → number_given now ask ≡ 0
    → (calls : List Call) → AllTyped calls
    → (address count : ℕ) → byte_at content 0 ≤ address → address + count ≤ byte_at content 0 + length (drop 1 content)
    → ((k : ℕ) → address ≤ k → k < address + count → SomeCall (λ then call. NamesRegister then k call) (after now ask) calls → ⊥)
    → handed_over (after_all (after now ask) calls) ask ≡ accepted_frame 0x81 (address ∷ count ∷ []) ∷ []
    → Replied (after_all (after now ask) calls) 0x81 (address ∷ count ∷ []) (address ∷ count ∷ take count (drop (address - byte_at content 0) (reads_as (byte_at content 0) (drop 1 content))))
what_80_wrote_81_replies now arises = WrittenReads.what_80_wrote_81_replies now (arises_reachable now arises)

-- the same of an 0x82 and an 0x83, where the reply fits a frame ("7: reply frame's L would pass 255")
pub what_82_wrote_83_replies : (now : Moment) → Arises now → (content : List ℕ) → handed_over now ask ≡ accepted_frame 0x82 content ∷ [] → number_given now ask ≡ 0
    → (calls : List Call) → AllTyped calls
    → (address count : ℕ) → word_at content 0 ≤ address → address + count ≤ word_at content 0 + length (words_of (drop 2 content))
    → ((k : ℕ) → address ≤ k → k < address + count → SomeCall (λ then call. NamesWord then k call) (after now ask) calls → ⊥)
    → handed_over (after_all (after now ask) calls) ask ≡ accepted_frame 0x83 (high_first address ++ (count ∷ [])) ∷ []
    → 3 + 2 * count ≤ most_data (checking_of (after_all (after now ask) calls).panel.setup)
    → Replied (after_all (after now ask) calls) 0x83 (high_first address ++ (count ∷ []))
    (high_first address ++ (count ∷ take (2 * count) (drop (2 * (address - word_at content 0)) (drop 2 content))))
what_82_wrote_83_replies now arises = WrittenReads.what_82_wrote_83_replies now (arises_reachable now arises)

-- "touch effects are those of ..": all that a contact and a lift leave that are answered 0
pub contact_leaves : (now : Moment) (c : Contact) → number_given now (contact c) ≡ 0 → after now (contact c) ≡ after_contact now c
contact_leaves = TouchEffects.contact_leaves

pub lift_leaves : (now : Moment) → number_given now lift ≡ 0 → after now lift ≡ after_lift now
lift_leaves = TouchEffects.lift_leaves

-- "Contact while up: .. The first record of the current page holding the point acts": what it stores
module _ (now : Moment) (c : Contact) (are : Bytes c.table) (done : number_given now (contact c) ≡ 0)
    (up : is_down now.panel.registers ≡ false) (i : ℕ) (r : Record) (acts : found c.table (page_of now.panel.registers) c.x c.y ≡ Some (i, r)) where
  -- Key: "mode 0 whole word, 1 high byte, 2 low byte; 14 code"
  pub key_stores_lem : (code : ℕ) → r.kind ≡ Key code
      → word_at_address (after now (contact c)).lent.words r.word ≡ key_stores r.mode (word_at_address now.lent.words r.word) code
  key_stores_lem = TouchEffects.key_stores_lem now c are done up i r acts

  -- "Step: t is the value with the step added or taken, as whole numbers. If t is within the ends, store t. Otherwise ..": read in its mode;
  -- "in all byte modes the other byte stays"
  pub step_stores : (f : StepFields) → r.kind ≡ Step f
      → Stores r.mode (word_at_address now.lent.words r.word) (word_at_address (after now (contact c)).lent.words r.word)
      (fenced (steps_up f) (goes_round f) (signed f.least) (signed f.greatest)
      (stepped (steps_up f) (value_in r.mode (word_at_address now.lent.words r.word)) f.step))
  step_stores = TouchEffects.step_stores now c are done up i r acts

  -- "Slider: .. |end − begin|·d / w rounded down is moved from begin towards end.", upward and downward alike, by 02, §5, rounded as the panel's sheet says: read
  -- in its mode; "in all byte modes the other byte stays"
  pub slider_stores : (f : SliderFields) → r.kind ≡ Slider f
      → Stores (digit_mode r.mode) (word_at_address now.lent.words r.word) (word_at_address (after now (contact c)).lent.words r.word)
      (slid_to (rounding_of now.panel.setup) (signed f.begin) (signed f.end) (first_edge r.mode r.area) (last_edge r.mode r.area) (along r.mode c.x c.y))
  slider_stores = TouchEffects.slider_stores now c are done up i r acts

-- "Contact while down: .. a caught slider stores for the point moved to the nearest place in its area", by the panel's sheet
pub dragged_slider_stores : (now : Moment) → Arises now → (c : Contact) → number_given now (contact c) ≡ 0
    → is_down now.panel.registers ≡ true → (r : Record) → now.panel.catch ≡ Some r → (f : SliderFields) → r.kind ≡ Slider f
    → Stores (digit_mode r.mode) (word_at_address now.lent.words r.word) (word_at_address (after now (contact c)).lent.words r.word)
    (slid_to (rounding_of now.panel.setup) (signed f.begin) (signed f.end) (first_edge r.mode r.area) (last_edge r.mode r.area) (along r.mode c.x c.y))
dragged_slider_stores = Caught.dragged_slider_stores

-- 02, §5: "Plants keep panels of both sheets, so flag bit 2 of setup chooses": a panel keeps to its sheet, whatever calls come
pub keeps_to_its_sheet : (now : Moment) (calls : List Call) → sheet_of (after_all now calls).panel.setup ≡ sheet_of now.panel.setup
keeps_to_its_sheet = Sheets.keeps_to_its_sheet

-- 02, §5: "Both agree at the two edges": a panel with other flags, which say the same of checking and acknowledging, answers a contact at an edge of the slider that
-- acts or is caught, or one at which no slider does, alike, and leaves the same
pub sheets_agree_at_the_edges : (now : Moment) (c : Contact) → EdgesOnly now c → (flags : ℕ) → flags % 4 ≡ now.panel.setup.flags % 4
    → (answer_to (flagged_moment flags now) c ≡ answer_to now c)
    × (after (flagged_moment flags now) (contact c) ≡ flagged_moment flags (after now (contact c)))
sheets_agree_at_the_edges = Sheets.sheets_agree_at_the_edges

-- "What our frame writer writes, our reader reads back as the same command and data.": what it wrote into any room, under the header and the choice that
-- are set up, given to the panel while nothing is held or waiting. 02, §1: "the read-back of demand 2 is now stated for every frame but acknowledgements": the
-- frame writer writes none, its length byte is always that of the general rule; crate reading proves that an acknowledgement is not read back
pub writer_reads_back : (now : Moment) → Arises now → NothingHeldOrWaiting (rules_of now.panel) (kept_of now.panel.reader)
    → WellLent now.lent → (command : ℕ) (payload room : List ℕ) (n : ℕ)
    → (writing (checking_of now.panel.setup) (header_of now.panel.setup) command payload room).answer ≡ Ok n
    → ReadsBack now (take n (writing (checking_of now.panel.setup) (header_of now.panel.setup) command payload room).room) command payload
writer_reads_back now arises = ReadBack.writer_reads_back now (arises_reachable now arises)

-- "No word or register changes but those the command or touch rule names.": over any sequence of calls
pub no_other_word_changes : (now : Moment) (calls : List Call) (k : ℕ) → word_at_address (after_all now calls).lent.words k ≢ word_at_address now.lent.words k
    → SomeCall (λ then call. NamesWord then k call) now calls
no_other_word_changes now calls k differs = ⊎_elim (λ same. absurd (differs same)) (λ named. named) (Named.word_stays_or_is_named now calls k)

pub no_other_register_changes : (now : Moment) → Arises now → (calls : List Call) → AllTyped calls → (address : ℕ)
    → panel_register (after_all now calls).panel address ≢ panel_register now.panel address
    → SomeCall (λ then call. NamesRegister then address call) now calls
no_other_register_changes now arises calls typed address differs =
    ⊎_elim (λ same. absurd (differs same)) (λ named. named)
    (Named.register_stays_or_is_named now (arises_reachable now arises) calls typed address)

-- 02, §2: "No word or register changes but those the command .. rule names", of the curve area and of the channels' counts
pub no_other_curve_word_changes : (now : Moment) → Arises now → (calls : List Call) → AllTyped calls → (n : ℕ) → n < channel_count → (i : ℕ) → i < channel_words
    → curve_word_at (after_all now calls).lent.curves n i ≢ curve_word_at now.lent.curves n i
    → SomeCall (λ then call. NamesCurveWord then n i call) now calls
no_other_curve_word_changes now arises calls typed n inside i few differs =
    ⊎_elim (λ same. absurd (differs same)) (λ named. named)
    (Curved.curve_word_stays_or_is_named now (arises_reachable now arises) calls typed n inside i few)

pub no_other_count_changes : (now : Moment) → Arises now → (calls : List Call) → AllTyped calls → (n : ℕ) → n < channel_count
    → panel_count (after_all now calls).panel n ≢ panel_count now.panel n
    → SomeCall (λ then call. NamesCount then n call) now calls
no_other_count_changes now arises calls typed n inside differs =
    ⊎_elim (λ same. absurd (differs same)) (λ named. named)
    (Curved.count_stays_or_is_named now (arises_reachable now arises) calls typed n inside)

-- 02, §4: "Demand 2 then reads: words, registers and the matching entry.": no entry of the watch list changes but those whose word the run of a done 0x82 names and
-- the one that a contact sends, over any sequence of calls; and at an ask and a contact only values last sent do
pub no_other_entry_changes : (now : Moment) → Arises now → (calls : List Call) → AllTyped calls → (i : ℕ)
    → entry_at (after_all now calls).lent.watched i ≢ entry_at now.lent.watched i → SomeCall (λ then call. NamesEntry then i call) now calls
no_other_entry_changes now arises calls typed i differs =
    ⊎_elim (λ same. absurd (differs same)) (λ named. named)
    (Entries.entry_stays_or_is_named now (arises_reachable now arises) calls typed i)

pub asking_changes_values_only : (now : Moment) → Arises now → OnlyValues now.lent.watched (after now ask).lent.watched
asking_changes_values_only now arises = Entries.asked_only_values now (arises_reachable now arises)

pub contact_changes_values_only : (now : Moment) (c : Contact) → OnlyValues now.lent.watched (after now (contact c)).lent.watched
contact_changes_values_only = Entries.contacted_only_values

-- 02, §4: "After a contact that answers 0, the first entry in use whose word differs from its value last sent gets one unasked 0x83 reply of count 1 in the reply
-- room, and the value is noted."
pub contact_tells : (now : Moment) (c : Contact) → number_given now (contact c) ≡ 0 → Tells now c (after now (contact c)).lent.words
contact_tells = Entries.contact_tells

-- and a panel with the same header and checking choice, while nothing is held or waiting, reads that frame back as one accepted 0x83 with that address, count 1
-- and word
pub unasked_reads_back : (now : Moment) (c : Contact) → number_given now (contact c) ≡ 0 → (i : ℕ)
    → FirstDue (after now (contact c)).lent.words now.lent.watched i
    → (reader : Moment) → Arises reader → NothingHeldOrWaiting (rules_of reader.panel) (kept_of reader.panel.reader) → WellLent reader.lent
    → checking_of reader.panel.setup ≡ checking_of now.panel.setup → header_of reader.panel.setup ≡ header_of now.panel.setup
    → UnaskedReadsBack reader (take (bytes_written now c) (after now (contact c)).lent.room) (address_at now.lent.watched.addresses i)
    (word_at_address (after now (contact c)).lent.words (address_at now.lent.watched.addresses i))
unasked_reads_back now c done i first reader arises =
    UnaskedBack.unasked_reads_back now c done i first reader (reachable_sound reader.panel (arises_reachable reader arises))

-- beyond the paper, nothing is lost: contacts in a row, answered 0 and changing no word, send the entries that are due one after the other, and as many contacts
-- as there are such entries send them all
pub due_entries_are_sent_in_order : (now : Moment) (cs : List Contact) → WordsStand now cs → SentInOrder now cs
due_entries_are_sent_in_order = SentOrder.sent_in_order

pub nothing_is_lost : (now : Moment) (cs : List Contact) → WordsStand now cs → length cs ≡ length (due_at now) → AllSent now cs
nothing_is_lost = SentOrder.all_sent

-- those entries are exactly the ones that are due, each once, in the list's order
pub due_entries_are_those_due : (words : List ℕ) (w : Watched) (i : ℕ) → Exactly (Among i (due_entries words w)) ((i < entry_count w) × (is_due words w i ≡ true))
due_entries_are_those_due = SentOrder.due_exactly

pub due_entries_are_in_order : (words : List ℕ) (w : Watched) → Rising 0 (due_entries words w)
due_entries_are_in_order = SentOrder.due_in_order

-- 02, §4: "Line writes note the new value and send nothing.": beyond the paper, an entry in use whose word a done 0x82 wrote is not due and is not sent, until a
-- contact or the caller changes word, entry or value
pub line_writes_send_nothing : (now : Moment) → Arises now → (content : List ℕ) → handed_over now ask ≡ accepted_frame 0x82 content ∷ [] → number_given now ask ≡ 0
    → (i : ℕ) → used_at now.lent.watched.uses i ≡ true → word_at content 0 ≤ address_at now.lent.watched.addresses i
    → address_at now.lent.watched.addresses i < word_at content 0 + length (words_of (drop 2 content))
    → (calls : List Call) → AllTyped calls → AllLeaveEntry i (after now ask) calls → StaysQuiet i (after now ask) calls
unfolding Typed
line_writes_send_nothing now arises content hands done i used from below =
    let reached = arises_reachable now arises in
    LineQuiet.written_stays_quiet now reached content hands done i used from below (call_reached now ask tt reached)

-- at one ask, whatever area it is lent: only the words of the channels that an 0x84 names change, and "words past its count stay"
pub only_named_channels_change : (now : Moment) → Arises now → (n : ℕ) → n < channel_count → (i : ℕ) → i < channel_words
    → curve_word_at (after now ask).lent.curves n i ≢ curve_word_at now.lent.curves n i → NamesCurveWord now n i ask
only_named_channels_change now arises n inside i few differs =
    ⊎_elim (λ same. absurd (differs same)) (λ named. named)
    (Curved.call_names_curve_word now (arises_reachable now arises) n inside i few ask)

-- and all eight parts make up the area: it keeps its length
pub area_keeps_its_length : (now : Moment) → length (after now ask).lent.curves ≡ length now.lent.curves
unfolding after
area_keeps_its_length now = reported_area_long now.panel now.lent

-- 02, §2: "Demand 2 covers channels by the whole history since the last clear, or the start where there was none, as long as each report is lent the curve area as
-- the one before left it.": from any start, over any sequence of calls; `left` is whatever area the first report is lent
pub channels_keep_their_history : (setup : Setup) (table : List ℕ) (lent : Lent) → (started setup table).answer ≡ Ok tt
    → (calls : List Call) → AllTyped calls → (left : List ℕ) → LentAsLeft left (begun setup table lent) calls → (n : ℕ) → n < channel_count
    → Keeps n (after_all (begun setup table lent) calls) (area_left (begun setup table lent) calls left) (history_of n (begun setup table lent) calls)
channels_keep_their_history setup table lent is calls typed left as_left n inside = history_kept n inside setup table lent is calls typed left as_left

-- the premise holds of every sequence in which the caller lends nothing anew
pub lent_as_left_where_none_lends : (now : Moment) (calls : List Call) → none_lends_anew calls ≡ true → LentAsLeft now.lent.curves now calls
lent_as_left_where_none_lends = lent_as_left

-- 02, §2: register EB "becomes writable and reads 00"
pub clear_register_reads_00 : (now : Moment) → Arises now → panel_register now.panel clear_register ≡ 0x00
clear_register_reads_00 now arises = (reachable_sound now.panel (arises_reachable now arises)).clear_reads

-- "256 register bytes and 28,672 variable words, .. lent by the caller as 16-bit numbers": they stay so
pub registers_are_bytes : (now : Moment) → Arises now → (address : ℕ) → panel_register now.panel address < 256
registers_are_bytes = Sizes.registers_are_bytes

pub words_are_16_bit : (now : Moment) → Arises now → (k : ℕ) → word_at_address now.lent.words k < 65536
words_are_16_bit = Sizes.words_are_16_bit

-- 02, §2: "16-bit numbers", in the curve area too
pub curves_are_16_bit : (now : Moment) → Arises now → (k : ℕ) → get_or now.lent.curves k 0 < 65536
curves_are_16_bit = Sizes.curves_are_16_bit
