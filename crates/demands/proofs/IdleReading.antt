-- The idle builds by the line: none of them keeps demand 3.
use Rattle.std.specs.Prelude.{Ok}
use mathlib.Core.Path.{◌≡◌, refl, sym, ap, ◌∙◌}
use mathlib.Core.List.{List, [], ◌∷◌, ◌++◌, map}
use Prim.Native.Nat.{ℕ, suc, ◌+◌, ◌≤◌}
use native.Mathlib.Omega.{arith}
use lib.ListN.{length, replicate, length-append}
use Rattle.wire.specs.Addresses.{word_count}
use Rattle.frame.specs.Writer.{least_room}
use Rattle.reading.specs.Place.{Rules, Report}
use Rattle.reading.specs.Line as Line
use Rattle.reading.specs.Demand3.{none, next, joined, BeginsNone, accepted_of, report_of_frame, checked}
use Rattle.reading.proofs.ByteLists.{all_bytes}
use Rattle.reading.proofs.Stable.{never}
use Rattle.curves.specs.Area.{curve_words}
use Rattle.watch.specs.Watched.{none_watched}
use Rattle.commands.specs.Lent.{lending}
use Rattle.panel.specs.Start.{started}
use Rattle.demands.specs.Calls.{Call, bytes, mark, ask, after_all, Typed, AllTyped}
use Rattle.demands.specs.Given.{given_all}
use Rattle.demands.specs.Demand3.{AllAskedFor, ComeBehindAMark}
use Rattle.demands.specs.Story.{version, story_setup}
use Rattle.demands.specs.Builds.{Start, first, since, Build, AcceptsGoodFrames}
use Rattle.demands.specs.Idle.{RefusesEveryFrame, ReadsFirstFrameOnly, ReadsFirstStretchOnly}
use Rattle.demands.proofs.Computed.{computing_start, computing_calls}
use Rattle.demands.proofs.Builds.{since_arises}
use Rattle.demands.proofs.Story.{zeros_16_bit, no_curves_16_bit, new_ready, version_good, version_bytes}

-- the panel of specs/Story, started
pub story_taken : (started story_setup []).answer ≡ Ok tt
unfolding computing_start
story_taken = refl

-- its start, with an empty table, lent what it must be
abbrev pub story_start : Start
story_start =
    record {
      setup = story_setup;
      table = [];
      lent = lending (replicate word_count 0) (replicate curve_words 0) (replicate least_room 0) none_watched;
      h1 = omega arith;
      h2 = omega arith;
      words = zeros_16_bit;
      curves = no_curves_16_bit;
      taken = story_taken;
    }

-- one frame, asked for, and a mark behind it
abbrev pub one_frame : List Call
one_frame = bytes version ∷ ask ∷ mark ∷ []

-- two frames, each asked for, and a mark behind them
abbrev pub two_frames : List Call
two_frames = bytes version ∷ ask ∷ bytes version ∷ ask ∷ mark ∷ []

one_typed : AllTyped one_frame
unfolding AllTyped Typed all_bytes
one_typed = (version_bytes, (tt, (tt, tt)))

two_typed : AllTyped two_frames
unfolding AllTyped Typed all_bytes
two_typed = (version_bytes, (tt, (version_bytes, (tt, (tt, tt)))))

-- no damage has no place
no_damage : (rules : Rules) (come : List ℕ) → BeginsNone rules [] come
no_damage rules come p below frame rest is good = omega arith

pub one_given : given_all (first story_start) one_frame ≡ map Line.byte (joined (version ∷ [])) ++ (Line.mark ∷ [])
unfolding computing_calls
one_given = refl

pub two_given : given_all (first story_start) two_frames ≡ map Line.byte (joined (version ∷ version ∷ [])) ++ (Line.mark ∷ [])
unfolding computing_calls
two_given = refl

-- demand 3's premises are met: by one frame and by two in the first stretch, and by one in the second, whose first was read as well
pub one_comes : ComeBehindAMark (first story_start) one_frame (version ∷ [])
unfolding computing_calls
one_comes =
    record {
      ready = new_ready;
      typed = one_typed;
      damage = [];
      good = next version_good none;
      came = one_given;
      begins_none = no_damage (checked 0x5A 0xA5) (joined (version ∷ []));
      all_asked = refl;
    }

pub two_come : ComeBehindAMark (first story_start) two_frames (version ∷ version ∷ [])
unfolding computing_calls
two_come =
    record {
      ready = new_ready;
      typed = two_typed;
      damage = [];
      good = next version_good (next version_good none);
      came = two_given;
      begins_none = no_damage (checked 0x5A 0xA5) (joined (version ∷ version ∷ []));
      all_asked = refl;
    }

pub one_comes_behind : ComeBehindAMark (since story_start one_frame) one_frame (version ∷ [])
unfolding computing_calls
one_comes_behind =
    record {
      ready = record { arises = since_arises story_start one_frame one_typed; checking_on = refl; nothing = (refl, refl) };
      typed = one_typed;
      damage = [];
      good = next version_good none;
      came = refl;
      begins_none = no_damage (checked 0x5A 0xA5) (joined (version ∷ []));
      all_asked = refl;
    }

pub none_waits : AllAskedFor (first story_start) []
unfolding computing_calls
none_waits = refl

-- lists that have more in them differ, and are longer
none_behind : (report : Report) (reports : List Report) → reports ++ (report ∷ []) ≡ [] → ⊥
none_behind report [] is = never cc
none_behind report (r ∷ reports) is = never cc

one_behind : (report : Report) (reports : List Report) → reports ++ (report ∷ []) ≡ reports → ⊥
one_behind report reports is =
    let long : length (reports ++ (report ∷ [])) ≡ length reports + 1 = length-append reports (report ∷ []) in
    let same : length (reports ++ (report ∷ [])) ≡ length reports = ap (λ (l : List Report). length l) is in
    omega arith

two_behind : (report : Report) (reports : List Report) → length (reports ++ (report ∷ report ∷ [])) ≤ suc (length reports) → ⊥
two_behind report reports less =
    let long : length (reports ++ (report ∷ report ∷ [])) ≡ length reports + 2 = length-append reports (report ∷ report ∷ []) in
    omega arith

-- what demand 3 says of these calls, of any build
module _ (build : Build) (demand : AcceptsGoodFrames build) where
  abbrev read : Report
  read = report_of_frame (checked 0x5A 0xA5) version

  abbrev accepted_at : List Call → List Report
  accepted_at calls = accepted_of (build.hands_over story_start calls)

  one_accepted : accepted_at one_frame ≡ accepted_at [] ++ (read ∷ [])
  unfolding computing_start AllTyped after_all
  one_accepted = demand.behind_a_mark story_start [] one_frame (version ∷ []) tt one_comes

  two_accepted : accepted_at two_frames ≡ accepted_at [] ++ (read ∷ read ∷ [])
  unfolding computing_start AllTyped after_all
  two_accepted = demand.behind_a_mark story_start [] two_frames (version ∷ version ∷ []) tt two_come

  behind_accepted : accepted_at (one_frame ++ one_frame) ≡ accepted_at one_frame ++ (read ∷ [])
  unfolding computing_calls
  behind_accepted = demand.behind_a_mark story_start one_frame one_frame (version ∷ []) one_typed one_comes_behind

  -- "refusing every frame", against demand 3 (`demand3_closed`)
  pub refuses_some_only : RefusesEveryFrame build → ⊥
  refuses_some_only idle = none_behind read (accepted_at []) (sym one_accepted ∙ idle story_start one_frame)

  -- "reading only the first .. frame properly", against demand 3 (`demand3_closed`)
  pub reads_a_second_frame : ReadsFirstFrameOnly build → ⊥
  unfolding after_all
  reads_a_second_frame idle =
      two_behind read (accepted_at []) (rw two_accepted at (idle story_start [] none_waits two_frames (joined (version ∷ version ∷ [])) two_given))

  -- "reading only the first stretch .. properly", against demand 3 (`demand3_closed`, behind a mark)
  pub reads_a_second_stretch : ReadsFirstStretchOnly build → ⊥
  reads_a_second_stretch idle =
      one_behind read (accepted_at one_frame) (sym behind_accepted ∙ idle story_start one_frame (map Line.byte (joined (version ∷ []))) [] one_given one_comes.all_asked one_frame)
