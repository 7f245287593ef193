-- The watch list, by computation: entries that are due are sent in order, a line write is noted, the frame reads back, and 16 is given in its place.
use mathlib.Core.Path.{◌≡◌, refl, sym, ap, ◌∙◌}
use mathlib.Core.Logic.{◌≢◌}
use mathlib.Core.Bool.{true, false}
use mathlib.Core.List.{List, [], ◌∷◌}
use Prim.Native.Nat.{ℕ}
use native.Mathlib.Omega.{arith}
use lib.Dec.{lit≤}
use lib.ListN.{length, take, replicate}
use Rattle.wire.specs.Addresses.{word_count}
use Rattle.frame.specs.Writer.{least_room}
use Rattle.reading.specs.Place.{accepted_frame}
use Rattle.reading.specs.Demand3.{NothingHeldOrWaiting}
use Rattle.line.specs.State.{kept_of}
use Rattle.reading.proofs.ByteLists.{all_bytes, tested_bytes}
use Rattle.curves.specs.Area.{curve_words}
use Rattle.words.specs.Words.{word_at_address}
use Rattle.watch.specs.Judge.{wrong_list}
use Rattle.watch.specs.Watched.{Watched, watching, address_at, used_at}
use Rattle.commands.specs.Lent.{Lent, lending}
use Rattle.panel.specs.Contacts.{Contact}
use Rattle.demands.specs.Calls.{Moment, WellLent, Call, lend, bytes, mark, ask, contact, begun, after, after_all, number_given, handed_over, Typed, AllTyped, Arises, from_start, by_call}
use Rattle.demands.specs.Reports.{rules_of}
use Rattle.demands.specs.Demand2.{SomeCall}
use Rattle.demands.specs.Entries.{GoodList, ListEntry, entry_at, FirstDue, NamesEntry, bytes_written, Tells, UnaskedReadsBack, frames_sent, frame_sent, WordsStand, due_at, AllSent, LeavesEntry, AllLeaveEntry, StaysQuiet}
use Rattle.demands.specs.Story.{version, story_setup, new}
use Rattle.demands.proofs.Computed.{computing_watched, computing_start, computing_calls, computing_contacts}
use Rattle.demands.proofs.Demand1.{list_passes_exactly_where_good}
use Rattle.demands.proofs.Demand2.{no_other_entry_changes, contact_tells, unasked_reads_back, nothing_is_lost, line_writes_send_nothing}
use Rattle.demands.proofs.Story.{zeros_16_bit, no_curves_16_bit, new_arises, version_bytes}

-- words 0001, 0002 and 0004; the second is not in use; each word is 0, and every value last sent is another
abbrev list : Watched
list = watching (0x0001 ∷ 0x0002 ∷ 0x0004 ∷ []) (0x01 ∷ 0x00 ∷ 0xFF ∷ []) (0x0007 ∷ 0x0007 ∷ 0x1234 ∷ [])

-- what is lent with a list: words of 0, and a room that is large enough
abbrev lent_with : Watched → Lent
lent_with w = lending (replicate word_count 0) (replicate curve_words 0) (replicate least_room 0) w

-- it is let pass, so it is a good one
list_passes : wrong_list list ≡ false
unfolding computing_watched
list_passes = refl

pub list_is_good : GoodList list
list_is_good = (list_passes_exactly_where_good list).only_when list_passes

-- the panel of 01's trace example, lent that list
abbrev watched : Moment
watched = begun story_setup [] (lent_with list)

arises : Arises watched
unfolding computing_start
arises = from_start story_setup [] (lent_with list) (omega arith) (omega arith) zeros_16_bit no_curves_16_bit refl

-- a contact where there is no record
abbrev anywhere : Contact
anywhere = record { table = []; x = 1; y = 1 }

-- ---- Contacts in a row

pub two_due : due_at watched ≡ 0 ∷ 2 ∷ []
unfolding computing_contacts
two_due = refl

words_stand : WordsStand watched (anywhere ∷ anywhere ∷ [])
unfolding WordsStand computing_contacts
words_stand = (refl, refl, (refl, refl, tt))

as_many : length (anywhere ∷ anywhere ∷ []) ≡ length (due_at watched)
unfolding computing_contacts
as_many = refl

pub both_sent : AllSent watched (anywhere ∷ anywhere ∷ [])
both_sent = nothing_is_lost watched (anywhere ∷ anywhere ∷ []) words_stand as_many

-- the two frames themselves; a third contact sends nothing
pub frames_sent_lem : frames_sent watched (anywhere ∷ anywhere ∷ anywhere ∷ [])
    ≡ (0x5A ∷ 0xA5 ∷ 0x08 ∷ 0x83 ∷ 0x00 ∷ 0x01 ∷ 0x01 ∷ 0x00 ∷ 0x00 ∷ 0x4F ∷ 0xD4 ∷ [])
    ∷ (0x5A ∷ 0xA5 ∷ 0x08 ∷ 0x83 ∷ 0x00 ∷ 0x04 ∷ 0x01 ∷ 0x00 ∷ 0x00 ∷ 0x4F ∷ 0x18 ∷ [])
    ∷ []
unfolding frames_sent frame_sent computing_contacts
frames_sent_lem = refl

-- ---- One contact

first_is_due : FirstDue (after watched (contact anywhere)).lent.words list 0
unfolding computing_contacts
first_is_due = record { inside = omega arith; due = refl; none_before = λ k below. absurd (omega arith) }

touch_done : number_given watched (contact anywhere) ≡ 0
unfolding computing_contacts
touch_done = refl

pub one_told : Tells watched anywhere (after watched (contact anywhere)).lent.words
one_told = contact_tells watched anywhere touch_done

new_well : WellLent new.lent
unfolding computing_calls
new_well = record { words = refl; curves = refl; room = lit≤ tt; watched = refl }

new_holds_nothing : NothingHeldOrWaiting (rules_of new.panel) (kept_of new.panel.reader)
unfolding computing_calls
new_holds_nothing = (refl, refl)

-- a new panel of the same header and choice reads the frame back: word 0001 is 0
pub frame_reads_back : UnaskedReadsBack new (take (bytes_written watched anywhere) (after watched (contact anywhere)).lent.room) 0x0001
    (word_at_address (after watched (contact anywhere)).lent.words 0x0001)
unfolding computing_start
frame_reads_back = unasked_reads_back watched anywhere touch_done 0 first_is_due new new_arises new_holds_nothing new_well refl refl

-- the entry that is sent changes, and is named
sent_differs : entry_at (after_all watched (contact anywhere ∷ [])).lent.watched 0 ≢ entry_at list 0
unfolding computing_contacts
sent_differs same = let value : ◌≡◌ {A = ℕ} 0 0x0007 = ap (λ (e : ListEntry). e.last_sent) same in omega arith

touch_typed : AllTyped (contact anywhere ∷ [])
unfolding AllTyped Typed all_bytes
touch_typed = ((tested_bytes [] refl, (omega arith, omega arith)), tt)

pub sent_is_named : SomeCall (λ then call. NamesEntry then 0 call) watched (contact anywhere ∷ [])
sent_is_named = no_other_entry_changes watched arises (contact anywhere ∷ []) touch_typed 0 sent_differs

-- ---- A line write

-- 82 from word 0001 on: 01F4, 0000, 0000, 0009, with checking on
abbrev store_frame : List ℕ
store_frame =
    0x5A ∷ 0xA5 ∷ 0x0D ∷ 0x82 ∷ 0x00 ∷ 0x01 ∷ 0x01 ∷ 0xF4 ∷ 0x00 ∷ 0x00 ∷ 0x00 ∷ 0x00 ∷ 0x00 ∷ 0x09 ∷ 0x1D ∷ 0x0B ∷ []

-- that frame has come
abbrev fed : Moment
fed = after watched (bytes store_frame)

fed_arises : Arises fed
unfolding Typed all_bytes
fed_arises = by_call watched (bytes store_frame) (tested_bytes store_frame refl) arises

-- its data
abbrev content : List ℕ
content = 0x00 ∷ 0x01 ∷ 0x01 ∷ 0xF4 ∷ 0x00 ∷ 0x00 ∷ 0x00 ∷ 0x00 ∷ 0x00 ∷ 0x09 ∷ []

store_handed : handed_over fed ask ≡ accepted_frame 0x82 content ∷ []
unfolding computing_calls
store_handed = refl

store_done : number_given fed ask ≡ 0
unfolding computing_calls
store_done = refl

-- both entries in use are noted, the one that is not stays as it was
pub noted_by_the_line : (after fed ask).lent.watched.values ≡ 0x01F4 ∷ 0x0007 ∷ 0x0009 ∷ []
unfolding computing_calls
noted_by_the_line = refl

-- contacts behind it, and another frame: the first entry is not sent
abbrev behind : List Call
behind = contact anywhere ∷ bytes version ∷ ask ∷ contact anywhere ∷ []

behind_typed : AllTyped behind
unfolding AllTyped Typed all_bytes
behind_typed = ((tested_bytes [] refl, (omega arith, omega arith)), (version_bytes, (tt, ((tested_bytes [] refl, (omega arith, omega arith)), tt))))

first_used : used_at fed.lent.watched.uses 0 ≡ true
unfolding computing_calls
first_used = refl

-- its word is 01F4 before and behind each of the two contacts
abbrev word_of_first : Moment → ℕ
word_of_first now = word_at_address now.lent.words (address_at now.lent.watched.addresses 0)

abbrev before_second : Moment
before_second = after_all (after fed ask) (contact anywhere ∷ bytes version ∷ ask ∷ [])

word_before : word_of_first (after fed ask) ≡ 0x01F4
unfolding computing_calls
word_before = refl

word_behind : word_at_address (after (after fed ask) (contact anywhere)).lent.words (address_at (after fed ask).lent.watched.addresses 0) ≡ 0x01F4
unfolding computing_contacts
word_behind = refl

word_before_second : word_of_first before_second ≡ 0x01F4
unfolding computing_contacts
word_before_second = refl

word_behind_second : word_at_address (after before_second (contact anywhere)).lent.words (address_at before_second.lent.watched.addresses 0) ≡ 0x01F4
unfolding computing_contacts
word_behind_second = refl

leave_first : AllLeaveEntry 0 (after fed ask) behind
unfolding AllLeaveEntry LeavesEntry after_all
leave_first = (word_behind ∙ sym word_before, (tt, (tt, (word_behind_second ∙ sym word_before_second, tt))))

pub first_stays_quiet : StaysQuiet 0 (after fed ask) behind
unfolding computing_calls
first_stays_quiet = line_writes_send_nothing fed fed_arises content store_handed store_done 0 first_used (omega arith) (omega arith) behind behind_typed leave_first

-- ---- 16

-- two entries in use share a word
abbrev shared : Watched
shared = watching (0x0001 ∷ 0x0002 ∷ 0x0001 ∷ []) (0x01 ∷ 0x01 ∷ 0x01 ∷ []) (0 ∷ 0 ∷ 0 ∷ [])

-- one in use has address 7000
abbrev past_end : Watched
past_end = watching (0x6FFF ∷ 0x7000 ∷ []) (0x01 ∷ 0x01 ∷ []) (0 ∷ 0 ∷ [])

-- seventeen entries, none in use
abbrev seventeen : Watched
seventeen = watching (replicate 17 0) (replicate 17 0) (replicate 17 0)

-- slices of different lengths
abbrev uneven : Watched
uneven = watching (0x0001 ∷ []) (0x01 ∷ []) []

-- the same faults at entries that are not in use are none, and sixteen entries are a list
abbrev allowed : Watched
allowed = watching (0x0001 ∷ 0x0001 ∷ 0xFFFF ∷ replicate 13 0) (0x01 ∷ 0x00 ∷ 0x00 ∷ replicate 13 0) (replicate 16 0)

-- a frame has come: its report waits
abbrev waiting : Moment
waiting = after new (bytes version)

-- the list is lent from then on
abbrev with : Moment → Watched → Moment
with now w = after now (lend (lent_with w))

-- 16 comes before 1 at a contact, and before the report, which still waits, at an ask; with nothing waiting it comes before "nothing"
pub record GivesSixteen (w : Watched) : Type 0 where
  pub contact_before_1 : number_given (with waiting w) (contact anywhere) ≡ 16
  pub ask_while_waiting : number_given (with waiting w) ask ≡ 16
  pub still_waits : number_given (after (with waiting w) ask) mark ≡ 1
  pub contact_else : number_given (with new w) (contact anywhere) ≡ 16
  pub ask_before_nothing : number_given (with new w) ask ≡ 16

pub sixteen : GivesSixteen shared × GivesSixteen past_end × GivesSixteen seventeen × GivesSixteen uneven
unfolding computing_contacts
sixteen = (
  record { contact_before_1 = refl; ask_while_waiting = refl; still_waits = refl; contact_else = refl; ask_before_nothing = refl },
  record { contact_before_1 = refl; ask_while_waiting = refl; still_waits = refl; contact_else = refl; ask_before_nothing = refl },
  record { contact_before_1 = refl; ask_while_waiting = refl; still_waits = refl; contact_else = refl; ask_before_nothing = refl },
  record { contact_before_1 = refl; ask_while_waiting = refl; still_waits = refl; contact_else = refl; ask_before_nothing = refl },
)

-- no words are lent
abbrev no_words : Moment
no_words = after new (lend (lending [] (replicate curve_words 0) (replicate least_room 0) shared))

-- a room of 264 bytes
abbrev small_room : Moment
small_room = after new (lend (lending (replicate word_count 0) (replicate curve_words 0) (replicate 264 0) shared))

-- 14 before 16
pub fourteen_first : (number_given no_words (contact anywhere) ≡ 14) × (number_given no_words ask ≡ 14) × (number_given small_room (contact anywhere) ≡ 14)
    × (number_given small_room ask ≡ 14)
unfolding computing_contacts
fourteen_first = (refl, refl, refl, refl)

pub not_in_use_is_not_judged : (number_given (with waiting allowed) (contact anywhere) ≡ 1) × (number_given (with new allowed) (contact anywhere) ≡ 0)
    × (number_given (with new allowed) ask ≡ 0)
unfolding computing_contacts
not_in_use_is_not_judged = (refl, refl, refl)
