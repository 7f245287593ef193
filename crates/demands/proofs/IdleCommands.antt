-- The idle builds by commands: none of them keeps demand 2.
use Rattle.std.specs.Prelude.{Ok}
use mathlib.Core.Path.{◌≡◌, refl, sym, ap, ◌∙◌}
use mathlib.Core.Bool.{true}
use mathlib.Core.List.{List, [], ◌∷◌, ◌++◌}
use Prim.Native.Nat.{ℕ, zero, suc}
use native.Mathlib.Omega.{arith}
use lib.ListN.{get_or, replicate}
use Rattle.frame.specs.Writer.{least_room}
use Rattle.reading.specs.Place.{accepted_frame}
use Rattle.reading.proofs.ByteLists.{all_bytes, tested_bytes}
use Rattle.registers.specs.declared.Registers.{Registers}
use Rattle.registers.specs.Table.{register_at}
use Rattle.words.specs.Words.{word_at_address}
use Rattle.touch.specs.declared.Setup.{Setup}
use Rattle.curves.specs.Area.{curve_words}
use Rattle.watch.specs.Watched.{none_watched}
use Rattle.commands.specs.Lent.{lending}
use Rattle.panel.specs.Start.{started}
use Rattle.demands.specs.Calls.{Moment, Call, bytes, mark, ask, number_given, handed_over, Halfwords, Typed, AllTyped}
use Rattle.demands.specs.Demand2.{DoesCommands, leaving, after_read}
use Rattle.demands.specs.Story.{noise}
use Rattle.demands.specs.Builds.{Start, since, Build, left_by_asking, DoesEachCommand}
use Rattle.demands.specs.Idle.{RefusesEveryCommand, data_replied, Stand, RepliesAlike, StoresNoRegister, StoresNoWord}
use Rattle.demands.proofs.Computed.{computing_start, computing_calls}
use Rattle.demands.proofs.Story.{copies_below, no_curves_16_bit}

-- a panel with checking off
abbrev pub plain : Setup
plain = record { h1 = 0x5A; h2 = 0xA5; flags = 0; pages = 2; width = 800; height = 480 }

-- what it is lent: words of which the first is 1 and all others are 0
abbrev pub words : List ℕ
words = 1 ∷ replicate 28671 0

pub words_16_bit : Halfwords words
words_16_bit zero = omega arith
words_16_bit (suc k) = copies_below 28671 0 k (omega arith)

pub plain_taken : (started plain []).answer ≡ Ok tt
unfolding computing_start
plain_taken = refl

abbrev pub plain_start : Start
plain_start =
    record {
      setup = plain;
      table = [];
      lent = lending words (replicate curve_words 0) (replicate least_room 0) none_watched;
      h1 = omega arith;
      h2 = omega arith;
      words = words_16_bit;
      curves = no_curves_16_bit;
      taken = plain_taken;
    }

-- 81 reads the version, and the backlight; 80 sets the buzzer to 1
abbrev pub version_frame : List ℕ
version_frame = 0x5A ∷ 0xA5 ∷ 0x03 ∷ 0x81 ∷ 0x00 ∷ 0x01 ∷ []

abbrev pub light_frame : List ℕ
light_frame = 0x5A ∷ 0xA5 ∷ 0x03 ∷ 0x81 ∷ 0x01 ∷ 0x01 ∷ []

abbrev pub write_frame : List ℕ
write_frame = 0x5A ∷ 0xA5 ∷ 0x03 ∷ 0x80 ∷ 0x02 ∷ 0x01 ∷ []

-- 82 sets word 0010 to 500; 83 reads word 0000, and word 0001
abbrev pub store_frame : List ℕ
store_frame = 0x5A ∷ 0xA5 ∷ 0x05 ∷ 0x82 ∷ 0x00 ∷ 0x10 ∷ 0x01 ∷ 0xF4 ∷ []

abbrev pub fetch_frame : List ℕ
fetch_frame = 0x5A ∷ 0xA5 ∷ 0x04 ∷ 0x83 ∷ 0x00 ∷ 0x00 ∷ 0x01 ∷ []

abbrev pub next_frame : List ℕ
next_frame = 0x5A ∷ 0xA5 ∷ 0x04 ∷ 0x83 ∷ 0x00 ∷ 0x01 ∷ 0x01 ∷ []

-- noise that a mark makes fall, and two frames in it: their reports are asked for one right after the other, so that what stands before the second is what the
-- first left. The first reads the version.
abbrev pub come : List ℕ → List Call
come frame = bytes (noise ++ (version_frame ++ frame)) ∷ mark ∷ []

abbrev pub first_asked : List ℕ → List Call
first_asked frame = bytes (noise ++ (version_frame ++ frame)) ∷ mark ∷ ask ∷ []

-- both frames are handed over, and both commands are done
record BothDone (frame : List ℕ) (command : ℕ) (content : List ℕ) : Type 0 where
  are_bytes : all_bytes (noise ++ (version_frame ++ frame)) ≡ true
  first_hands : handed_over (since plain_start (come frame)) ask ≡ accepted_frame 0x81 (0x00 ∷ 0x01 ∷ []) ∷ []
  first_done : number_given (since plain_start (come frame)) ask ≡ 0
  hands : handed_over (since plain_start (first_asked frame)) ask ≡ accepted_frame command content ∷ []
  done : number_given (since plain_start (first_asked frame)) ask ≡ 0

record AllDone : Type 0 where
  write : BothDone write_frame 0x80 (0x02 ∷ 0x01 ∷ [])
  store : BothDone store_frame 0x82 (0x00 ∷ 0x10 ∷ 0x01 ∷ 0xF4 ∷ [])
  read_version_lem : BothDone version_frame 0x81 (0x00 ∷ 0x01 ∷ [])
  read_light : BothDone light_frame 0x81 (0x01 ∷ 0x01 ∷ [])
  fetch : BothDone fetch_frame 0x83 (0x00 ∷ 0x00 ∷ 0x01 ∷ [])
  fetch_next : BothDone next_frame 0x83 (0x00 ∷ 0x01 ∷ 0x01 ∷ [])

all_done : AllDone
unfolding computing_calls all_bytes
all_done =
    record {
      write = record { are_bytes = refl; first_hands = refl; first_done = refl; hands = refl; done = refl };
      store = record { are_bytes = refl; first_hands = refl; first_done = refl; hands = refl; done = refl };
      read_version_lem = record { are_bytes = refl; first_hands = refl; first_done = refl; hands = refl; done = refl };
      read_light = record { are_bytes = refl; first_hands = refl; first_done = refl; hands = refl; done = refl };
      fetch = record { are_bytes = refl; first_hands = refl; first_done = refl; hands = refl; done = refl };
      fetch_next = record { are_bytes = refl; first_hands = refl; first_done = refl; hands = refl; done = refl };
    }

come_typed : (frame : List ℕ) → all_bytes (noise ++ (version_frame ++ frame)) ≡ true → AllTyped (come frame)
unfolding AllTyped Typed
come_typed frame are = (tested_bytes (noise ++ (version_frame ++ frame)) are, (tt, tt))

asked_typed : (frame : List ℕ) → all_bytes (noise ++ (version_frame ++ frame)) ≡ true → AllTyped (first_asked frame)
unfolding AllTyped Typed
asked_typed frame are = (tested_bytes (noise ++ (version_frame ++ frame)) are, (tt, (tt, tt)))

-- what a build that does what demand 2 says leaves: before the second report is asked for, and after
module _ (build : Build) (demand : DoesEachCommand build) where
  abbrev before : List ℕ → Moment
  before frame = build.leaves plain_start (first_asked frame)

  abbrev behind : List ℕ → Moment
  behind frame = left_by_asking build plain_start (first_asked frame)

  module _ (frame : List ℕ) (command : ℕ) (content : List ℕ) (both : BothDone frame command content) where
    left_before : before frame ≡ after_read (since plain_start (come frame)) (0x00 ∷ 0x01 ∷ [])
    left_before = (demand plain_start (come frame) (come_typed frame both.are_bytes)).reads_registers (0x00 ∷ 0x01 ∷ []) both.first_done both.first_hands

    does : DoesCommands (since plain_start (first_asked frame)) (behind frame)
    does = demand plain_start (first_asked frame) (asked_typed frame both.are_bytes)

  word_is_500 : word_at_address (behind store_frame).lent.words 0x0010 ≡ 500
  unfolding computing_calls
  word_is_500 =
      let both = all_done.store in
      ap (λ (m : Moment). word_at_address m.lent.words 0x0010) ((does store_frame _ _ both).writes_words (0x00 ∷ 0x10 ∷ 0x01 ∷ 0xF4 ∷ []) both.done both.hands)

  word_was_0 : word_at_address (before store_frame).lent.words 0x0010 ≡ 0
  unfolding computing_calls
  word_was_0 = ap (λ (m : Moment). word_at_address m.lent.words 0x0010) (left_before store_frame _ _ all_done.store)

  words_differ : (behind store_frame).lent.words ≡ (before store_frame).lent.words → ⊥
  words_differ same =
      let both : ◌≡◌ {A = ℕ} 500 0 = sym word_is_500 ∙ ap (λ (ws : List ℕ). word_at_address ws 0x0010) same ∙ word_was_0 in
      omega arith

  -- "taking frames without storing", against demand 2 (`writes_words`)
  pub stores_a_word : StoresNoWord build → ⊥
  stores_a_word idle = words_differ (idle plain_start (first_asked store_frame))

  -- "refusing every frame", against demand 2 (`writes_words`)
  pub does_a_command : RefusesEveryCommand build → ⊥
  unfolding leaving
  does_a_command idle =
      words_differ (ap (λ (m : Moment). m.lent.words) (idle plain_start (first_asked store_frame) 0x82 (0x00 ∷ 0x10 ∷ 0x01 ∷ 0xF4 ∷ []) all_done.store.hands))

  register_is_1 : register_at (behind write_frame).panel.registers 0x02 ≡ 1
  unfolding computing_calls
  register_is_1 =
      let both = all_done.write in
      ap (λ (m : Moment). register_at m.panel.registers 0x02) ((does write_frame _ _ both).writes_registers (0x02 ∷ 0x01 ∷ []) both.done both.hands)

  register_was_0 : register_at (before write_frame).panel.registers 0x02 ≡ 0
  unfolding computing_calls
  register_was_0 = ap (λ (m : Moment). register_at m.panel.registers 0x02) (left_before write_frame _ _ all_done.write)

  -- "taking frames without storing", of registers, against demand 2 (`writes_registers`)
  pub stores_a_register : StoresNoRegister build → ⊥
  stores_a_register idle =
      let both : ◌≡◌ {A = ℕ} 1 0 =
      sym register_is_1 ∙ ap (λ (rs : Registers). register_at rs 0x02) (idle plain_start (first_asked write_frame)) ∙ register_was_0 in
      omega arith

  -- the version and the backlight, read while the same stands there
  abbrev replied : (command width : ℕ) → List ℕ → List ℕ
  replied command width frame = data_replied plain command width 1 (behind frame).lent.room

  same_registers_stand : Stand (before version_frame) (before light_frame)
  unfolding computing_calls
  same_registers_stand =
      rw (left_before version_frame _ _ all_done.read_version_lem, left_before light_frame _ _ all_done.read_light)
      (record { setup = refl; registers = refl; lent = refl })

  version_replied : replied 0x81 1 version_frame ≡ 0x10 ∷ []
  unfolding computing_calls
  version_replied =
      let both = all_done.read_version_lem in
      ap (λ (m : Moment). data_replied plain 0x81 1 1 m.lent.room) ((does version_frame _ _ both).reads_registers (0x00 ∷ 0x01 ∷ []) both.done both.hands)

  light_replied : replied 0x81 1 light_frame ≡ 0x3F ∷ []
  unfolding computing_calls
  light_replied =
      let both = all_done.read_light in
      ap (λ (m : Moment). data_replied plain 0x81 1 1 m.lent.room) ((does light_frame _ _ both).reads_registers (0x01 ∷ 0x01 ∷ []) both.done both.hands)

  -- "replying alike to all reads", against demand 2 (`reads_registers`)
  pub replies_by_registers : RepliesAlike 0x81 1 build → ⊥
  unfolding computing_calls
  replies_by_registers idle =
      let alike = idle plain_start (first_asked version_frame) (first_asked light_frame) 1
      (record { content = 0x00 ∷ 0x01 ∷ []; handed = all_done.read_version_lem.hands; done = all_done.read_version_lem.done; counts = refl })
      (record { content = 0x01 ∷ 0x01 ∷ []; handed = all_done.read_light.hands; done = all_done.read_light.done; counts = refl })
      same_registers_stand in
      let same : ◌≡◌ {A = ℕ} 0x10 0x3F = ap (λ (l : List ℕ). get_or l 0 0) (sym version_replied ∙ alike ∙ light_replied) in
      omega arith

  -- words 0000 and 0001 likewise
  same_words_stand : Stand (before fetch_frame) (before next_frame)
  unfolding computing_calls
  same_words_stand =
      rw (left_before fetch_frame _ _ all_done.fetch, left_before next_frame _ _ all_done.fetch_next)
      (record { setup = refl; registers = refl; lent = refl })

  word_replied : replied 0x83 2 fetch_frame ≡ 0x00 ∷ 0x01 ∷ []
  unfolding computing_calls
  word_replied =
      let both = all_done.fetch in
      ap (λ (m : Moment). data_replied plain 0x83 2 1 m.lent.room) ((does fetch_frame _ _ both).reads_words (0x00 ∷ 0x00 ∷ 0x01 ∷ []) both.done both.hands)

  next_replied : replied 0x83 2 next_frame ≡ 0x00 ∷ 0x00 ∷ []
  unfolding computing_calls
  next_replied =
      let both = all_done.fetch_next in
      ap (λ (m : Moment). data_replied plain 0x83 2 1 m.lent.room) ((does next_frame _ _ both).reads_words (0x00 ∷ 0x01 ∷ 0x01 ∷ []) both.done both.hands)

  -- "replying alike to all reads", of words, against demand 2 (`reads_words`)
  pub replies_by_words : RepliesAlike 0x83 2 build → ⊥
  unfolding computing_calls
  replies_by_words idle =
      let alike = idle plain_start (first_asked fetch_frame) (first_asked next_frame) 1
      (record { content = 0x00 ∷ 0x00 ∷ 0x01 ∷ []; handed = all_done.fetch.hands; done = all_done.fetch.done; counts = refl })
      (record { content = 0x00 ∷ 0x01 ∷ 0x01 ∷ []; handed = all_done.fetch_next.hands; done = all_done.fetch_next.done; counts = refl })
      same_words_stand in
      let same : ◌≡◌ {A = ℕ} 0x01 0x00 = ap (λ (l : List ℕ). get_or l 1 0) (sym word_replied ∙ alike ∙ next_replied) in
      omega arith
