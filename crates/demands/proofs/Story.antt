-- Demand 3 on what happened: no good frame is lost.
use mathlib.Core.Path.{◌≡◌, refl}
use mathlib.Core.List.{List, [], ◌∷◌, ◌++◌, map}
use Prim.Native.Nat.{ℕ, zero, suc, ◌≤◌, ◌<◌}
use native.Mathlib.Omega.{arith}
use lib.Dec.{lit≤}
use lib.ListN.{length, get_or, replicate}
use Rattle.wire.specs.Bytes.{Bytes}
use Rattle.wire.specs.Addresses.{word_count}
use Rattle.frame.specs.Writer.{least_room}
use Rattle.reading.specs.Line as Line
use Rattle.reading.specs.Demand3.{Good, GoodFrames, none, next, joined, Cut, BeginsNone, accepted_of, checked}
use Rattle.reading.proofs.ByteLists.{all_bytes, tested_bytes}
use Rattle.reading.proofs.Damage.{is_accepted, none_accepted, tested_begins_none}
use Rattle.demands.specs.Calls.{Call, bytes, ask, handed_over_all, Halfwords, Typed, AllTyped, Arises, from_start}
use Rattle.demands.specs.Given.{given_all}
use Rattle.demands.specs.Demand3.{Ready, AllAskedFor}
use Rattle.demands.specs.Story.{version, read_version, story_setup, new, noise, times, story}
use Rattle.demands.proofs.Computed.{computing_frames, computing_reading, computing_start, computing_calls}
use Rattle.curves.specs.Area.{curve_words}
use Rattle.watch.specs.Watched.{none_watched}
use Rattle.commands.specs.Lent.{lending}
use Rattle.demands.proofs.Demand3.{demand3_open}

-- a word repeated
pub copies_below : (n w k : ℕ) → w < 65536 → get_or (replicate n w) k 0 < 65536
copies_below zero w k below = omega arith
copies_below (suc n) w zero below = below
copies_below (suc n) w (suc k) below = copies_below n w k below

pub zeros_16_bit : Halfwords (replicate word_count 0)
zeros_16_bit k = copies_below word_count 0 k (omega arith)

pub no_curves_16_bit : Halfwords (replicate curve_words 0)
no_curves_16_bit k = copies_below curve_words 0 k (omega arith)

pub new_arises : Arises new
unfolding computing_start
new_arises = from_start story_setup [] (lending (replicate word_count 0) (replicate curve_words 0) (replicate least_room 0) none_watched) (omega arith) (omega arith) zeros_16_bit no_curves_16_bit refl

pub new_ready : Ready new
unfolding computing_calls
new_ready = record { arises = new_arises; checking_on = refl; nothing = (refl, refl) }

pub version_good : Good (checked 0x5A 0xA5) version
unfolding computing_frames
version_good = record { body = 0x81 ∷ 0x00 ∷ 0x01 ∷ 0xE0 ∷ 0x28 ∷ []; whole = refl; least = omega arith; most = omega arith; right = refl }

pub version_bytes : Bytes version
unfolding all_bytes
version_bytes = tested_bytes version refl

pub copies_good : (n : ℕ) → GoodFrames (checked 0x5A 0xA5) (replicate n version)
copies_good zero = none
copies_good (suc n) = next version_good (copies_good n)

pub nothing_cut : Cut (checked 0x5A 0xA5) []
nothing_cut = record { frame = version; good = version_good; rest = version; parts = refl; missing = omega arith }

-- the calls hold bytes
typed_append : (these more : List Call) → AllTyped these → AllTyped more → AllTyped (these ++ more)
unfolding AllTyped
typed_append [] more typed later = later
typed_append (call ∷ these) more typed later = (typed.0, typed_append these more typed.1 later)

pub typed_times : (n : ℕ) (calls : List Call) → AllTyped calls → AllTyped (times n calls)
unfolding AllTyped times
typed_times zero calls typed = tt
typed_times (suc n) calls typed = typed_append calls (times n calls) typed (typed_times n calls typed)

story_typed : AllTyped story
unfolding AllTyped Typed all_bytes
story_typed = (
  tested_bytes noise refl,
  typed_append (times 8 (bytes version ∷ [])) (times 9 (ask ∷ []) ++ times 25 (bytes version ∷ ask ∷ []))
      (typed_times 8 (bytes version ∷ []) (version_bytes, tt))
      (typed_append (times 9 (ask ∷ [])) (times 25 (bytes version ∷ ask ∷ [])) (typed_times 9 (ask ∷ []) (tt, tt))
      (typed_times 25 (bytes version ∷ ask ∷ []) (version_bytes, (tt, tt)))),
)

story_given : given_all new story ≡ map Line.byte (noise ++ (joined (replicate 33 version) ++ []))
unfolding computing_calls
story_given = refl

story_asked : AllAskedFor new story
unfolding computing_calls
story_asked = refl

noise_begins_none : BeginsNone (checked 0x5A 0xA5) noise (joined (replicate 33 version) ++ [])
unfolding computing_reading none_accepted is_accepted
noise_begins_none = tested_begins_none (checked 0x5A 0xA5) noise (joined (replicate 33 version) ++ []) refl

pub long_enough : 257 ≤ length (joined (replicate 33 version) ++ [])
unfolding joined
long_enough = lit≤ tt

-- all 33 frames are accepted, in order, though the reader believed the noise: an instance of demand 3, whose premises therefore can be met
pub no_frame_is_lost : accepted_of (handed_over_all new story) ≡ replicate 33 read_version
unfolding computing_reading computing_start
no_frame_is_lost =
    demand3_open new story (replicate 33 version) (record {
      ready = new_ready;
      typed = story_typed;
      damage = noise;
      tail = [];
      good = copies_good 33;
      cut = nothing_cut;
      came = story_given;
      begins_none = noise_begins_none;
      followed = long_enough;
      all_asked = story_asked;
    })
