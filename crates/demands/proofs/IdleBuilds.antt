-- Each idle claim is had by a build of specs/IdleBuilds, and so says something; each of these builds is rejected for its claim, and keeps the demand that the claim does
-- not concern.
use mathlib.Core.Path.{◌≡◌, refl, sym, ap, ◌∙◌}
use mathlib.Core.Bool.{Bool, true, false, cond, not}
use mathlib.Core.List.{List, [], ◌∷◌, ◌++◌, map, append-nil}
use Prim.Native.Nat.{ℕ, ◌≤◌}
use native.Mathlib.Omega.{arith}
use Rattle.wire.specs.ByteOrder.{byte_at}
use Rattle.reading.specs.Place.{Report}
use Rattle.reading.specs.Line as Line
use Rattle.reading.specs.Demand3.{joined, accepted_of}
use Rattle.reading.proofs.Stable.{never, true_is_not_false}
use Rattle.demands.specs.Calls.{Moment, Call, bytes, ask, after, after_all, number_given, handed_over}
use Rattle.demands.specs.Demand2.{leaving}
use Rattle.demands.specs.Story.{version, read_version}
use Rattle.demands.specs.Builds.{Start, first, since, left_by_asking, AcceptsGoodFrames, DoesEachCommand}
use Rattle.demands.specs.Idle.{RefusesEveryFrame, ReadsFirstStretchOnly, ReadsFirstFrameOnly, RefusesEveryCommand, StoresNoRegister, StoresNoWord, Reads, data_replied, Stand, RepliesAlike}
use Rattle.demands.specs.IdleBuilds.{has_mark, has_some, has_accepted, LinePlace, at_start, moved, moved_by, hands_over_at, reading_at, reads_nothing, reads_first_stretch, reads_first_frame, leaves_own, leaves_all, asked_by, acknowledging, does_nothing, stores_no_register, stores_no_word, with_stood, replying_alike, replies_alike}
use Rattle.demands.proofs.Computed.{computing_calls}
use Rattle.demands.proofs.Builds.{ours_accepts_good_frames, ours_does_each_command}
use Rattle.demands.proofs.IdlePlaces.{place_after, at_then, mark_among, not_closed, past_after, none_past}
use Rattle.demands.proofs.IdleCounts.{marks_last, stretch_ends, counted, counted_then, before_accepted, at_most_one}
use Rattle.demands.proofs.IdleReading.{story_start, two_frames, two_come, two_given, none_waits, refuses_some_only, reads_a_second_frame, reads_a_second_stretch}
use Rattle.demands.proofs.IdleCommands.{plain, plain_start, version_frame, light_frame, does_a_command, replies_by_registers, replies_by_words, stores_a_register, stores_a_word}

-- a build that reads otherwise does the commands as ours, and one that leaves otherwise accepts the frames that ours accepts
pub reading_at_does_commands : (here : LinePlace → Bool) → DoesEachCommand (reading_at here)
reading_at_does_commands here = ours_does_each_command

pub asked_by_accepts : (asks : Moment → Moment → Moment) → AcceptsGoodFrames (asked_by asks)
asked_by_accepts asks =
    record {
      on_an_open_line = ours_accepts_good_frames.on_an_open_line;
      behind_a_mark = ours_accepts_good_frames.behind_a_mark;
    }

-- "refusing every frame"
pub refuses_every_frame_is_had : RefusesEveryFrame reads_nothing
unfolding accepted_of hands_over_at
refuses_every_frame_is_had s calls = ap accepted_of (none (first s) at_start calls)
  where
    none : (now : Moment) (at : LinePlace) (calls : List Call) → hands_over_at (λ (p : LinePlace). false) now at calls ≡ []
    none now at [] = refl
    none now at (call ∷ calls) = none (after now call) (moved_by now at call) calls

pub reads_nothing_is_rejected : AcceptsGoodFrames reads_nothing → ⊥
reads_nothing_is_rejected keeps = refuses_some_only reads_nothing keeps refuses_every_frame_is_had

-- "reading only the first stretch .. properly"
pub reads_first_stretch_only_is_had : ReadsFirstStretchOnly reads_first_stretch
unfolding accepted_of
reads_first_stretch_only_is_had s earlier before behind given none calls =
    let marked = ap has_mark given ∙ mark_among before behind in
    let past = past_after (first s) at_start earlier (λ is. true_is_not_false (sym is)) none marked in
    ap accepted_of (at_then (λ (p : LinePlace). not p.past_first) (first s) at_start earlier calls)
    ∙ ap (λ (l : List Report). accepted_of (reads_first_stretch.hands_over s earlier ++ l)) (none_past (since s earlier) (place_after (first s) at_start earlier) calls past)
    ∙ ap accepted_of (append-nil (reads_first_stretch.hands_over s earlier))

some_are_not_none : read_version ∷ read_version ∷ [] ≡ [] → ⊥
some_are_not_none is = never cc

two_is_not_one : 2 ≤ 1 → ⊥
two_is_not_one less = omega arith

-- .. but the first stretch it reads: two frames of it are accepted
pub first_stretch_accepted : accepted_of (reads_first_stretch.hands_over story_start two_frames) ≡ read_version ∷ read_version ∷ []
unfolding computing_calls hands_over_at moved has_mark has_some has_accepted accepted_of
first_stretch_accepted = refl

-- .. so that it does not refuse every frame, nor read the first one only
pub reads_first_stretch_this_way_only : (RefusesEveryFrame reads_first_stretch → ⊥) × (ReadsFirstFrameOnly reads_first_stretch → ⊥)
unfolding hands_over_at accepted_of after_all
reads_first_stretch_this_way_only = (
  (λ idle. some_are_not_none (sym first_stretch_accepted ∙ idle story_start two_frames)),
  (λ idle. two_is_not_one (rw first_stretch_accepted at (idle story_start [] none_waits two_frames (joined (version ∷ version ∷ [])) two_given))),
)

pub reads_first_stretch_is_rejected : AcceptsGoodFrames reads_first_stretch → ⊥
reads_first_stretch_is_rejected keeps = reads_a_second_stretch reads_first_stretch keeps reads_first_stretch_only_is_had

-- "reading only the first .. frame properly"
pub reads_first_frame_only_is_had : ReadsFirstFrameOnly reads_first_frame
reads_first_frame_only_is_had s earlier none calls stretch given =
    let at = place_after (first s) at_start earlier in
    let these = reads_first_frame.hands_over s earlier in
    let more = hands_over_at before_accepted (since s earlier) at calls in
    let unmarked = not_closed (first s) at_start earlier (λ is. true_is_not_false (sym is)) none in
    let few = at_most_one (since s earlier) at calls unmarked (ap marks_last given ∙ stretch_ends stretch) in
    let parts = ap counted (at_then before_accepted (first s) at_start earlier calls) ∙ counted_then these more in
    omega (arith, few, parts, at_most_1 at.accepted)
  where
    at_most_1 : (b : Bool) → cond b 0 1 ≤ 1
    at_most_1 true = omega arith
    at_most_1 false = omega arith

-- .. but the first frame it reads, of each stretch: of two frames one, and of two stretches with two each two
pub first_frame_accepted : accepted_of (reads_first_frame.hands_over story_start two_frames) ≡ read_version ∷ []
unfolding computing_calls hands_over_at moved has_mark has_some has_accepted accepted_of
first_frame_accepted = refl

pub first_frames_accepted : accepted_of (reads_first_frame.hands_over story_start (two_frames ++ two_frames)) ≡ read_version ∷ read_version ∷ []
unfolding computing_calls hands_over_at moved has_mark has_some has_accepted accepted_of
first_frames_accepted = refl

-- .. so that it does not refuse every frame, nor read the first stretch only
pub reads_first_frame_this_way_only : (RefusesEveryFrame reads_first_frame → ⊥) × (ReadsFirstStretchOnly reads_first_frame → ⊥)
reads_first_frame_this_way_only = (
  (λ idle. some_are_not_none (sym first_frames_accepted ∙ idle story_start (two_frames ++ two_frames))),
  (λ idle. two_are_not_one (sym first_frames_accepted
      ∙ idle story_start two_frames (map Line.byte (joined (version ∷ version ∷ []))) [] two_given two_come.all_asked two_frames
      ∙ first_frame_accepted)),
)
  where
    two_are_not_one : read_version ∷ read_version ∷ [] ≡ read_version ∷ [] → ⊥
    two_are_not_one is = never cc

pub reads_first_frame_is_rejected : AcceptsGoodFrames reads_first_frame → ⊥
reads_first_frame_is_rejected keeps = reads_a_second_frame reads_first_frame keeps reads_first_frame_only_is_had

-- what asking leaves of a build that leaves its own
asked_last : (asks : Moment → Moment → Moment) (now own : Moment) (calls : List Call)
    → leaves_all asks now own (calls ++ (ask ∷ [])) ≡ asks (after_all now calls) (leaves_all asks now own calls)
unfolding leaves_all leaves_own after_all
asked_last asks now own [] = refl
asked_last asks now own (call ∷ calls) = asked_last asks (after now call) (leaves_own asks now own call) calls

-- "refusing every frame", of commands
pub refuses_every_command_is_had : RefusesEveryCommand does_nothing
unfolding acknowledging
refuses_every_command_is_had s calls command content hands =
    asked_last (λ now. acknowledging (handed_over now ask)) (first s) (first s) calls
    ∙ ap (λ (reports : List Report). acknowledging reports (does_nothing.leaves s calls)) hands

pub does_nothing_is_rejected : DoesEachCommand does_nothing → ⊥
does_nothing_is_rejected keeps = does_a_command does_nothing keeps refuses_every_command_is_had

-- "taking frames without storing"
pub stores_no_register_is_had : StoresNoRegister stores_no_register
stores_no_register_is_had s calls = ap (λ (m : Moment). m.panel.registers) (asked_last _ (first s) (first s) calls)

pub stores_no_register_is_rejected : DoesEachCommand stores_no_register → ⊥
stores_no_register_is_rejected keeps = stores_a_register stores_no_register keeps stores_no_register_is_had

pub stores_no_word_is_had : StoresNoWord stores_no_word
stores_no_word_is_had s calls = ap (λ (m : Moment). m.lent.words) (asked_last _ (first s) (first s) calls)

pub stores_no_word_is_rejected : DoesEachCommand stores_no_word → ⊥
stores_no_word_is_rejected keeps = stores_a_word stores_no_word keeps stores_no_word_is_had

-- "replying alike to all reads": what the reply holds where the registers or words belong is what stood there
module _ (command width : ℕ) (address : List ℕ) where
  stood_alike : (one other : Moment) (content content' : List ℕ) → Stand one other → byte_at content width ≡ byte_at content' width
      → (with_stood command width address content one).lent.room ≡ (with_stood command width address content' other).lent.room
  unfolding leaving
  stood_alike one other content content' stands counts = rw (stands.setup, stands.lent, counts)

  alike_by : ((s : Start) (calls : List Call) (count : ℕ) (reads : Reads command width count s calls)
      → left_by_asking replies_alike s calls ≡ with_stood command width address reads.content (replies_alike.leaves s calls))
      → RepliesAlike command width replies_alike
  alike_by replied s calls calls' count reads reads' stands =
      ap (λ (room : List ℕ). data_replied s.setup command width count room)
      (ap (λ (m : Moment). m.lent.room) (replied s calls count reads)
      ∙ stood_alike (replies_alike.leaves s calls) (replies_alike.leaves s calls') reads.content reads'.content stands (reads.counts ∙ sym reads'.counts)
      ∙ sym (ap (λ (m : Moment). m.lent.room) (replied s calls' count reads')))

replied_alike : (s : Start) (calls : List Call)
    → left_by_asking replies_alike s calls ≡ replying_alike (number_given (since s calls) ask) (handed_over (since s calls) ask) (replies_alike.leaves s calls)
replied_alike s calls = asked_last (λ now. replying_alike (number_given now ask) (handed_over now ask)) (first s) (first s) calls

pub replies_alike_to_81_is_had : RepliesAlike 0x81 1 replies_alike
unfolding replying_alike
replies_alike_to_81_is_had = alike_by 0x81 1 (0x00 ∷ []) (λ s calls count reads. replied_alike s calls ∙ rw (reads.handed, reads.done))

pub replies_alike_to_83_is_had : RepliesAlike 0x83 2 replies_alike
unfolding replying_alike
replies_alike_to_83_is_had = alike_by 0x83 2 (0x00 ∷ 0x00 ∷ []) (λ s calls count reads. replied_alike s calls ∙ rw (reads.handed, reads.done))

-- .. such as the reads of the version and of the backlight by a new panel: what they reply is what stood in the room
pub version_is_read : Reads 0x81 1 1 plain_start (bytes version_frame ∷ [])
unfolding computing_calls
version_is_read = record { content = 0x00 ∷ 0x01 ∷ []; handed = refl; done = refl; counts = refl }

pub light_is_read : Reads 0x81 1 1 plain_start (bytes light_frame ∷ [])
unfolding computing_calls
light_is_read = record { content = 0x01 ∷ 0x01 ∷ []; handed = refl; done = refl; counts = refl }

pub same_stands : Stand (replies_alike.leaves plain_start (bytes version_frame ∷ [])) (replies_alike.leaves plain_start (bytes light_frame ∷ []))
unfolding computing_calls leaves_all leaves_own
same_stands = record { setup = refl; registers = refl; lent = refl }

pub light_replied_alike : data_replied plain 0x81 1 1 (left_by_asking replies_alike plain_start (bytes light_frame ∷ [])).lent.room ≡ 0x00 ∷ []
unfolding computing_calls leaves_all leaves_own replying_alike
light_replied_alike = refl

pub replies_alike_is_rejected : DoesEachCommand replies_alike → ⊥
replies_alike_is_rejected keeps = replies_by_registers replies_alike keeps replies_alike_to_81_is_had

pub replies_alike_is_rejected_by_words : DoesEachCommand replies_alike → ⊥
replies_alike_is_rejected_by_words keeps = replies_by_words replies_alike keeps replies_alike_to_83_is_had
