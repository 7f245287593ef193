-- Demand 3's figure on an open line is 257 and no less: a panel with header FF FF has accepted none of the good frames when 256 bytes have followed the damage.
use mathlib.Core.Path.{◌≡◌, refl, sym, ◌∙◌}
use mathlib.Core.List.{List, [], ◌∷◌, ◌++◌, map}
use Prim.Native.Nat.{ℕ, ◌<◌}
use native.Mathlib.Omega.{arith}
use lib.ListN.{replicate}
use Rattle.wire.specs.Addresses.{word_count}
use Rattle.frame.specs.Frame.{header_bytes}
use Rattle.frame.specs.Writer.{least_room}
use Rattle.reading.specs.Line as Line
use Rattle.reading.specs.Demand3.{joined, accepted_of, report_of_frame}
use Rattle.reading.proofs.Stable.{never}
use Rattle.reading.proofs.Figure.{rules, frames, no_fewer}
use Rattle.curves.specs.Area.{curve_words}
use Rattle.watch.specs.Watched.{none_watched}
use Rattle.commands.specs.Lent.{lending}
use Rattle.touch.specs.declared.Setup.{Setup}
use Rattle.demands.specs.Calls.{Moment, Call, bytes, begun, handed_over_all, Typed, AllTyped, Arises, from_start}
use Rattle.demands.specs.Given.{given_all}
use Rattle.demands.specs.Demand3.{Ready, AllAskedFor, OnAnOpenLine}
use Rattle.demands.specs.Figure.{OnceFollowedBy}
use Rattle.demands.proofs.Computed.{computing_start, computing_calls}
use Rattle.demands.proofs.Demand3.{demand3_open}
use Rattle.demands.proofs.Story.{zeros_16_bit, no_curves_16_bit}

-- the sentence with 257 is demand 3's
pub with_257 : OnAnOpenLine → OnceFollowedBy 257
unfolding header_bytes
with_257 sentence = sentence

pub figure_enough : OnceFollowedBy 257
figure_enough = with_257 demand3_open

-- a new panel with this header, checking on, is given a single FF and 32 good frames, 256 bytes
abbrev setup : Setup
setup = record { h1 = 0xFF; h2 = 0xFF; flags = 1; pages = 2; width = 800; height = 480 }

abbrev new : Moment
new = begun setup [] (lending (replicate word_count 0) (replicate curve_words 0) (replicate least_room 0) none_watched)

abbrev come : List Call
come = bytes (0xFF ∷ (joined frames ++ [])) ∷ []

new_arises : Arises new
unfolding computing_start
new_arises = from_start setup [] (lending (replicate word_count 0) (replicate curve_words 0) (replicate least_room 0) none_watched) (omega arith) (omega arith) zeros_16_bit no_curves_16_bit refl

new_ready : Ready new
unfolding computing_calls
new_ready = record { arises = new_arises; checking_on = refl; nothing = (refl, refl) }

come_typed : AllTyped come
unfolding AllTyped Typed
come_typed = (no_fewer.are_bytes, tt)

come_given : given_all new come ≡ map Line.byte ((0xFF ∷ []) ++ (joined frames ++ []))
unfolding computing_calls
come_given = refl

none_waits : AllAskedFor new come
unfolding computing_calls
none_waits = refl

none_accepted : accepted_of (handed_over_all new come) ≡ []
unfolding computing_calls handed_over_all accepted_of
none_accepted = refl

-- no smaller figure will do
pub figure_least : (figure : ℕ) → figure < 257 → OnceFollowedBy figure → ⊥
unfolding computing_start
figure_least figure less sentence =
    let all = sentence new come frames (record {
      ready = new_ready;
      typed = come_typed;
      damage = 0xFF ∷ [];
      tail = [];
      good = no_fewer.good;
      cut = no_fewer.cut;
      came = come_given;
      begins_none = no_fewer.begins_none;
      followed = omega (arith, no_fewer.followed);
      all_asked = none_waits;
    }) in
    none_mapped (sym all ∙ none_accepted)
  where
    none_mapped : map (report_of_frame rules) frames ≡ [] → ⊥
    none_mapped is = never cc
