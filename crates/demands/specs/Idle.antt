-- 01: "Four idle builds are to be rejected: refusing every frame (demands 2 and 3), replying alike to all reads (2), taking frames without storing (2),
-- and reading only the first stretch or frame properly (3)." What each of them would do, said of any build (specs/Builds). proofs/Idle shows that no build which
-- keeps the demand is idle; specs/IdleBuilds has for each claim a build that is idle in that way. The same is tried on the code by must-fail edits:
-- crates/commands/must-fail/every_frame_refused, all_reads_alike, taken_without_storing; crates/words/must-fail/taken_without_storing;
-- crates/panel/must-fail/taken_without_storing, stuck_at_the_first_report; crates/place/must-fail/every_frame_passed_over;
-- crates/line/must-fail/only_first_frame; only_first_stretch, idle for bytes given one at a time. Each says in which run it is seen.
use Rattle.std.specs.Prelude.{ℕ, suc, ◌+◌, ◌*◌, ◌≤◌, ◌≡◌, true, List, [], ◌∷◌, ◌++◌, map, length, take, drop}
use Rattle.wire.specs.ByteOrder.{byte_at}
use Rattle.reading.specs.Place.{accepted_frame}
use Rattle.reading.specs.Line as Line
use Rattle.reading.specs.Line.{Input}
use Rattle.reading.specs.Demand3.{accepted_of}
use Rattle.touch.specs.declared.Setup.{Setup}
use Rattle.panel.specs.State.{header_of}
use Rattle.demands.specs.Calls.{Moment, Call, ask, number_given, handed_over}
use Rattle.demands.specs.Reports.{acknowledgement_of}
use Rattle.demands.specs.Demand2.{leaving}
use Rattle.demands.specs.Given.{given_all}
use Rattle.demands.specs.Demand3.{AllAskedFor}
use Rattle.demands.specs.Builds.{Start, first, since, Build, left_by_asking}

-- The line, demand 3.

-- "refusing every frame"
abbrev pub RefusesEveryFrame : Build → Type 0
RefusesEveryFrame build = (s : Start) (calls : List Call) → accepted_of (build.hands_over s calls) ≡ []

-- "reading only the first stretch .. properly": once a mark has been given and its reports are asked for, no frame is accepted any more
abbrev pub ReadsFirstStretchOnly : Build → Type 0
ReadsFirstStretchOnly build =
    (s : Start) (earlier : List Call) (before behind : List Input) → given_all (first s) earlier ≡ before ++ (Line.mark ∷ behind) → AllAskedFor (first s) earlier
    → (calls : List Call) → accepted_of (build.hands_over s (earlier ++ calls)) ≡ accepted_of (build.hands_over s earlier)

-- "reading only the first .. frame properly": of what comes of a stretch one frame at most is accepted
abbrev pub ReadsFirstFrameOnly : Build → Type 0
ReadsFirstFrameOnly build =
    (s : Start) (earlier : List Call) → AllAskedFor (first s) earlier
    → (calls : List Call) (stretch : List ℕ) → given_all (since s earlier) calls ≡ map Line.byte stretch ++ (Line.mark ∷ [])
    → length (accepted_of (build.hands_over s (earlier ++ calls))) ≤ suc (length (accepted_of (build.hands_over s earlier)))

-- Commands, demand 2.

-- "refusing every frame": each command is handed over and acknowledged, and does nothing else
abbrev pub RefusesEveryCommand : Build → Type 0
RefusesEveryCommand build =
    (s : Start) (calls : List Call) (command : ℕ) (content : List ℕ) → handed_over (since s calls) ask ≡ accepted_frame command content ∷ []
    → left_by_asking build s calls
    ≡ leaving (build.leaves s calls) command (build.leaves s calls).panel.registers (build.leaves s calls).panel.catch
    (build.leaves s calls).panel.counts (build.leaves s calls).lent []

-- "taking frames without storing": asking changes no register
abbrev pub StoresNoRegister : Build → Type 0
StoresNoRegister build = (s : Start) (calls : List Call) → (left_by_asking build s calls).panel.registers ≡ (build.leaves s calls).panel.registers

-- "taking frames without storing": asking changes no word
abbrev pub StoresNoWord : Build → Type 0
StoresNoWord build = (s : Start) (calls : List Call) → (left_by_asking build s calls).lent.words ≡ (build.leaves s calls).lent.words

-- A read that is answered 0, behind these calls: "0x81, address (1), count (1)"; "0x83, address (2), count (1)". Its width is 1 or 2: as many bytes has its
-- address, and as many has each register or word that it reads.
pub record Reads (command width count : ℕ) (s : Start) (calls : List Call) : Type 0 where
  pub content : List ℕ
  pub handed : handed_over (since s calls) ask ≡ accepted_frame command content ∷ []
  pub done : number_given (since s calls) ask ≡ 0
  pub counts : byte_at content width ≡ count

-- "Reply 0x81, address, count, bytes."; "Reply 0x83, address, count, words.": where those bytes or words stand in the room, behind the acknowledgement, if
-- there is one, and the reply's header, length byte, command, address and count
abbrev pub data_replied : Setup → (command width count : ℕ) → (room : List ℕ) → List ℕ
data_replied setup command width count room =
    take (width * count) (drop (length (acknowledgement_of setup command true) + (length (header_of setup) + (3 + width))) room)

-- the same registers, words and room, under one setup
pub record Stand (one other : Moment) : Type 0 where
  pub setup : one.panel.setup ≡ other.panel.setup
  pub registers : one.panel.registers ≡ other.panel.registers
  pub lent : one.lent ≡ other.lent

-- "replying alike to all reads" by this command: two reads of one count, each answered 0 while the same registers, words and room stand there, have the same
-- bytes or words in their replies, whichever addresses they name
abbrev pub RepliesAlike : (command width : ℕ) → Build → Type 0
RepliesAlike command width build =
    (s : Start) (calls calls' : List Call) (count : ℕ) → Reads command width count s calls → Reads command width count s calls'
    → Stand (build.leaves s calls) (build.leaves s calls')
    → data_replied s.setup command width count (left_by_asking build s calls).lent.room
    ≡ data_replied s.setup command width count (left_by_asking build s calls').lent.room

-- a build that is none of the four
pub record NotIdle (build : Build) : Type 0 where
  pub accepts_frames : RefusesEveryFrame build → ⊥
  pub does_commands : RefusesEveryCommand build → ⊥
  pub replies_by_registers : RepliesAlike 0x81 1 build → ⊥
  pub replies_by_words : RepliesAlike 0x83 2 build → ⊥
  pub stores_registers : StoresNoRegister build → ⊥
  pub stores_words : StoresNoWord build → ⊥
  pub reads_on_behind_a_frame : ReadsFirstFrameOnly build → ⊥
  pub reads_on_behind_a_stretch : ReadsFirstStretchOnly build → ⊥
