-- A panel that hears its own acknowledgement, with a mark behind the frame that follows and on a line still open: the frames come through.
use mathlib.Core.Path.{◌≡◌, refl}
use mathlib.Core.Bool.{true}
use mathlib.Core.List.{List, [], ◌∷◌, ◌++◌, map}
use Prim.Native.Nat.{ℕ}
use native.Mathlib.Omega.{arith}
use lib.ListN.{take, replicate}
use Rattle.wire.specs.Bytes.{Bytes}
use Rattle.reading.specs.Line as Line
use Rattle.reading.specs.Demand3.{joined, accepted_of, checked}
use Rattle.reading.specs.Echo.{Sent, echo, BeginsNoneInside}
use Rattle.reading.proofs.ByteLists.{all_bytes, tested_bytes}
use Rattle.reading.proofs.Echo.{echo_needs_inside, printed_echo_begins_none}
use Rattle.demands.specs.Calls.{Moment, Call, bytes, mark, ask, after, handed_over_all, Typed, AllTyped, by_call}
use Rattle.demands.specs.Given.{given_all}
use Rattle.demands.specs.Demand3.{Ready, AllAskedFor}
use Rattle.demands.specs.Echo.{EchoOnAnOpenLine, EchoBehindAMark}
use Rattle.demands.specs.Story.{version, read_version, times}
use Rattle.demands.proofs.Computed.{computing_reading, computing_calls, computing_acknowledgements}
use Rattle.demands.proofs.Story.{copies_good, nothing_cut, version_bytes, long_enough, typed_times}
use Rattle.demands.proofs.CountInstances.{fed, fed_arises}
use Rattle.demands.proofs.Echo.{echo_costs_none, printed_echo_costs_none}

-- a read of the version is done: acknowledgement and reply stand in the room
abbrev answered : Moment
answered = after (fed version) ask

answered_ready : Ready answered
unfolding computing_calls computing_acknowledgements Typed all_bytes
answered_ready = record { arises = by_call (fed version) ask tt (fed_arises version refl); checking_on = refl; nothing = (refl, refl) }

-- the seven bytes of the acknowledgement, which come back
abbrev heard : List ℕ
heard = take 7 answered.lent.room

-- the command that it answers, which was accepted
abbrev sent : List Sent
sent = record { command = 0x81; accepted = true } ∷ []

heard_bytes : Bytes heard
unfolding computing_calls computing_acknowledgements all_bytes
heard_bytes = tested_bytes heard refl

-- then the frame again, whose report is asked for, and a mark
abbrev closed : List Call
closed = bytes heard ∷ bytes version ∷ ask ∷ mark ∷ []

closed_given : given_all answered closed ≡ map Line.byte (echo (0x5A ∷ 0xA5 ∷ []) sent ++ joined (version ∷ [])) ++ (Line.mark ∷ [])
unfolding computing_calls computing_acknowledgements echo
closed_given = refl

closed_asked : AllAskedFor answered closed
unfolding computing_calls computing_acknowledgements
closed_asked = refl

closed_come : EchoBehindAMark answered closed sent (version ∷ [])
unfolding computing_calls computing_acknowledgements AllTyped Typed
closed_come =
    record {
      ready = answered_ready;
      typed = (heard_bytes, (version_bytes, (tt, (tt, tt))));
      good = copies_good 1;
      came = closed_given;
      all_asked = closed_asked;
    }

pub echo_behind_a_mark : accepted_of (handed_over_all answered closed) ≡ read_version ∷ []
unfolding computing_reading computing_calls computing_acknowledgements
echo_behind_a_mark = printed_echo_costs_none.behind_a_mark answered closed sent (version ∷ []) closed_come refl

-- the same with the places inside checked, as any header asks for it
inside_checked : (come : List ℕ) → BeginsNoneInside (checked 0x5A 0xA5) sent come
inside_checked come = echo_needs_inside (checked 0x5A 0xA5) come sent (printed_echo_begins_none sent (omega arith, tt) come)

pub checked_echo_behind_a_mark : accepted_of (handed_over_all answered closed) ≡ read_version ∷ []
unfolding computing_reading computing_calls computing_acknowledgements
checked_echo_behind_a_mark = echo_costs_none.behind_a_mark answered closed sent (version ∷ []) closed_come (inside_checked (joined (version ∷ [])))

-- or 33 frames on a line still open, each asked for as it comes
abbrev open_calls : List Call
open_calls = bytes heard ∷ times 33 (bytes version ∷ ask ∷ [])

open_given : given_all answered open_calls ≡ map Line.byte (echo (0x5A ∷ 0xA5 ∷ []) sent ++ (joined (replicate 33 version) ++ []))
unfolding computing_calls computing_acknowledgements echo
open_given = refl

open_asked : AllAskedFor answered open_calls
unfolding computing_calls computing_acknowledgements
open_asked = refl

open_come : EchoOnAnOpenLine answered open_calls sent (replicate 33 version) []
unfolding computing_calls computing_acknowledgements AllTyped Typed
open_come =
    record {
      ready = answered_ready;
      typed = (heard_bytes, typed_times 33 (bytes version ∷ ask ∷ []) (version_bytes, (tt, tt)));
      good = copies_good 33;
      cut = nothing_cut;
      came = open_given;
      followed = long_enough;
      all_asked = open_asked;
    }

pub echo_on_an_open_line : accepted_of (handed_over_all answered open_calls) ≡ replicate 33 read_version
unfolding computing_reading computing_calls computing_acknowledgements
echo_on_an_open_line = printed_echo_costs_none.open_line answered open_calls sent (replicate 33 version) [] open_come refl

pub checked_echo_on_an_open_line : accepted_of (handed_over_all answered open_calls) ≡ replicate 33 read_version
unfolding computing_reading computing_calls computing_acknowledgements
checked_echo_on_an_open_line =
    echo_costs_none.open_line answered open_calls sent (replicate 33 version) [] open_come (inside_checked (joined (replicate 33 version) ++ []))
