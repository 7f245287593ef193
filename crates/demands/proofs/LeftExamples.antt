-- Instances, by computation, of the theorems on "0: done", on 1 and on "nothing": their premises can be met, and both sides of each come.
use mathlib.Core.Path.{◌≡◌, refl, sym, ◌∙◌}
use mathlib.Core.List.{List, [], ◌∷◌}
use lib.Dec.{lit≤}
use lib.ListN.{replicate}
use Rattle.wire.specs.Addresses.{word_count}
use Rattle.frame.specs.Writer.{least_room}
use Rattle.curves.specs.Area.{curve_words}
use Rattle.watch.specs.Watched.{none_watched}
use Rattle.commands.specs.Lent.{Lent, lending}
use Rattle.panel.specs.Contacts.{Contact}
use Rattle.demands.specs.Calls.{WellLent, Call, bytes, mark, ask, contact, after_all, number_given, handed_over_all, Typed, AllTyped}
use Rattle.demands.specs.AsRead.{reading_of}
use Rattle.demands.specs.Demand1.{none_holds, printed}
use Rattle.demands.specs.Left.{OneIsLeft, NoneIsLeft, AnsweredOne, AnsweredNothing, AnswersNothing}
use Rattle.demands.specs.Story.{version, read_version, story_setup, new}
use Rattle.demands.proofs.Computed.{computing_start, computing_calls}
use Rattle.demands.proofs.Story.{new_arises, version_bytes}
use Rattle.demands.proofs.Demand1.{done_exactly_where_none_holds}
use Rattle.demands.proofs.OneWhileLeft.{one_exactly_while_left}
use Rattle.demands.proofs.NothingLeft.{nothing_where_none_left}

abbrev lent : Lent
lent = lending (replicate word_count 0) (replicate curve_words 0) (replicate least_room 0) none_watched

-- a frame has come
abbrev come : List Call
come = bytes version ∷ []

-- a frame has come, and its report has been asked for
abbrev asked : List Call
asked = bytes version ∷ ask ∷ []

come_typed : AllTyped come
unfolding AllTyped Typed
come_typed = (version_bytes, tt)

asked_typed : AllTyped asked
unfolding AllTyped Typed
asked_typed = (version_bytes, (tt, tt))

-- a new panel takes a mark: 0, and no condition holds
pub mark_done : number_given new mark ≡ 0
unfolding computing_calls printed none_holds Typed
mark_done = (done_exactly_where_none_holds new new_arises mark tt).wherever refl

-- with the frame's report left a mark, a contact and further bytes are answered 1
pub one_left : OneIsLeft story_setup new come
unfolding computing_calls handed_over_all
one_left = record { report = read_version; later = []; left = refl }

when_come : AnsweredOne story_setup new come
unfolding computing_start
when_come = one_exactly_while_left story_setup [] lent refl come come_typed

pub mark_refused : number_given (after_all new come) mark ≡ 1
mark_refused = when_come.of_mark.wherever one_left

pub contact_refused : (c : Contact) → number_given (after_all new come) (contact c) ≡ 1
unfolding computing_calls
contact_refused c = (when_come.of_contact c (record { words = refl; room = lit≤ tt; watched = refl })).wherever one_left

pub bytes_refused : number_given (after_all new come) (bytes version) ≡ 1
bytes_refused =
    (when_come.of_bytes version version_bytes).wherever
    (record { taken = []; refused = 0x5A; rest = 0xA5 ∷ 0x05 ∷ 0x81 ∷ 0x00 ∷ 0x01 ∷ 0xE0 ∷ 0x28 ∷ []; place = refl; while_left = one_left })

-- once it is handed over, asking is answered "nothing"
handed_is : handed_over_all new asked ≡ read_version ∷ []
unfolding computing_calls handed_over_all
handed_is = refl

read_is : reading_of story_setup new asked ≡ read_version ∷ []
unfolding computing_calls
read_is = refl

pub none_left : NoneIsLeft story_setup new asked
none_left = handed_is ∙ sym read_is

still_lent : WellLent (after_all new asked).lent
unfolding computing_calls
still_lent = record { words = refl; curves = refl; room = lit≤ tt; watched = refl }

when_asked : AnsweredNothing story_setup new asked
unfolding computing_start
when_asked = nothing_where_none_left story_setup [] lent refl asked asked_typed still_lent

pub nothing_answered : AnswersNothing (after_all new asked)
nothing_answered = when_asked.answer.wherever none_left
