-- For each claim of specs/Idle a build that is idle in that way: ours with one change. proofs/IdleBuilds shows that each has the claim it is made for, and that
-- each keeps the demand that the change does not concern.
use Rattle.std.specs.Prelude.{ℕ, Bool, true, false, cond, not, ◌&&◌, ◌||◌, List, [], ◌∷◌, ◌++◌, eqb}
use Rattle.wire.specs.ByteOrder.{byte_at}
use Rattle.frame.specs.Frame.{frame_of}
use Rattle.reading.specs.Place.{Report, bad_check, accepted_frame}
use Rattle.reading.specs.Line as Line
use Rattle.reading.specs.Line.{Input}
use Rattle.touch.specs.Setup.{checking_of}
use Rattle.panel.specs.State.{header_of}
use Rattle.commands.specs.Lent.{with_words}
use Rattle.demands.specs.Calls.{Moment, Call, lend, byte, bytes, mark, second, ask, contact, lift, after, number_given, handed_over}
use Rattle.demands.specs.Reports.{report_waits}
use Rattle.demands.specs.Given.{given}
use Rattle.demands.specs.Demand2.{leaving}
use Rattle.demands.specs.Builds.{first, Build, ours}
use Rattle.demands.specs.Idle.{data_replied}

-- The line: ours, but reports are handed over at some places of the line only.

-- whether one of these inputs is a mark
unfoldable pub has_mark : List Input → Bool
has_mark [] = false
has_mark (Line.byte b ∷ inputs) = has_mark inputs
has_mark (Line.mark ∷ inputs) = true

-- whether there is an input
unfoldable pub has_some : List Input → Bool
has_some [] = false
has_some (input ∷ inputs) = true

-- whether one of these reports is of an accepted frame
unfoldable pub has_accepted : List Report → Bool
has_accepted [] = false
has_accepted (bad_check command ∷ reports) = has_accepted reports
has_accepted (accepted_frame command content ∷ reports) = true

-- where on the line a panel is: whether a stretch is over (its mark has come, and all its reports are asked for); and of the present one, whether an input
-- of it has come, whether its mark has, and whether a frame of it was accepted
pub record LinePlace : Type 0 where
  pub past_first : Bool
  pub entered : Bool
  pub closed : Bool
  pub accepted : Bool

-- before any input
abbrev pub at_start : LinePlace
at_start = record { past_first = false; entered = false; closed = false; accepted = false }

-- behind a stretch that is over, before the next one has an input
abbrev pub between_stretches : LinePlace
between_stretches = record { past_first = true; entered = false; closed = false; accepted = false }

-- by what a call gives and hands over, and by whether a report then waits
unfoldable pub moved : LinePlace → List Input → List Report → (waits : Bool) → LinePlace
moved at inputs reports waits =
    let closed = at.closed || has_mark inputs in
    cond (closed && not waits) between_stretches
    (record { past_first = at.past_first; entered = at.entered || has_some inputs; closed = closed; accepted = at.accepted || has_accepted reports })

-- the same by the call itself, at the moment when it is made
abbrev pub moved_by : Moment → LinePlace → Call → LinePlace
moved_by now at call = moved at (given now call) (handed_over now call) (report_waits (after now call).panel)

-- what our panel hands over, but only where the test holds of the place on the line
unfoldable pub hands_over_at : (LinePlace → Bool) → Moment → LinePlace → List Call → List Report
hands_over_at here now at [] = []
hands_over_at here now at (call ∷ calls) = cond (here at) (handed_over now call) [] ++ hands_over_at here (after now call) (moved_by now at call) calls

-- ours, but that it hands reports over at those places only
abbrev pub reading_at : (LinePlace → Bool) → Build
reading_at here = record { hands_over = λ s. hands_over_at here (first s) at_start; leaves = ours.leaves }

-- "refusing every frame"
abbrev pub reads_nothing : Build
reads_nothing = reading_at (λ at. false)

-- "reading only the first stretch .. properly": as ours until the first mark's reports are asked for, and nothing after
abbrev pub reads_first_stretch : Build
reads_first_stretch = reading_at (λ at. not at.past_first)

-- "reading only the first .. frame properly": as ours until a frame of the stretch is accepted, and nothing more of that stretch
abbrev pub reads_first_frame : Build
reads_first_frame = reading_at (λ at. at.entered && not at.accepted)

-- Commands: ours, but for what asking leaves. `now` is the moment as 01 says, `own` the one that the build has come to.
unfoldable pub leaves_own : (Moment → Moment → Moment) → (now own : Moment) → Call → Moment
leaves_own asks now own (lend lent) = after own (lend lent)
leaves_own asks now own (byte b) = after own (byte b)
leaves_own asks now own (bytes bs) = after own (bytes bs)
leaves_own asks now own mark = after own mark
leaves_own asks now own second = after own second
leaves_own asks now own ask = asks now own
leaves_own asks now own (contact c) = after own (contact c)
leaves_own asks now own lift = after own lift

-- what a whole list of calls leaves so
unfoldable pub leaves_all : (Moment → Moment → Moment) → (now own : Moment) → List Call → Moment
leaves_all asks now own [] = own
leaves_all asks now own (call ∷ calls) = leaves_all asks (after now call) (leaves_own asks now own call) calls

-- ours, but that asking leaves what this says
abbrev pub asked_by : (Moment → Moment → Moment) → Build
asked_by asks = record { hands_over = ours.hands_over; leaves = λ s. leaves_all asks (first s) (first s) }

-- "refusing every frame": what is handed over is acknowledged
unfoldable pub acknowledging : List Report → Moment → Moment
acknowledging [] own = after own ask
acknowledging (bad_check command ∷ later) own = after own ask
acknowledging (accepted_frame command content ∷ later) own = leaving own command own.panel.registers own.panel.catch own.panel.counts own.lent []

-- "refusing every frame": nothing is left of a command but its acknowledgement
abbrev pub does_nothing : Build
does_nothing = asked_by (λ now. acknowledging (handed_over now ask))

-- "taking frames without storing"
abbrev pub stores_no_register : Build
stores_no_register =
    asked_by (λ now own.
    let left = after own ask in
    record {
      panel = record { setup = left.panel.setup; registers = own.panel.registers; catch = left.panel.catch; counts = left.panel.counts; reader = left.panel.reader };
      lent = left.lent;
    })

-- "taking frames without storing": the words stay
abbrev pub stores_no_word : Build
stores_no_word = asked_by (λ now own. record { panel = (after own ask).panel; lent = with_words (after own ask).lent own.lent.words })

-- "replying alike to all reads": a read that is done is replied to with address 0 and, for registers or words, what stands in the room where they belong.
-- So does the code with crates/commands/must-fail/all_reads_alike: it lays address 0 and the count asked for, and reads no register and no word into the room.
abbrev pub with_stood : (command width : ℕ) → (address : List ℕ) → (content : List ℕ) → Moment → Moment
with_stood command width address content own =
    let setup = own.panel.setup in
    let count = byte_at content width in
    leaving own command own.panel.registers own.panel.catch own.panel.counts own.lent
    (frame_of (checking_of setup) (header_of setup) command (address ++ (count ∷ data_replied setup command width count own.lent.room)))

-- what asking leaves so, by the number given and the report handed over
unfoldable pub replying_alike : (number : ℕ) → List Report → Moment → Moment
replying_alike number [] own = after own ask
replying_alike number (bad_check command ∷ later) own = after own ask
replying_alike number (accepted_frame command content ∷ later) own =
    cond (eqb number 0 && eqb command 0x81) (with_stood 0x81 1 (0x00 ∷ []) content own)
    (cond (eqb number 0 && eqb command 0x83) (with_stood 0x83 2 (0x00 ∷ 0x00 ∷ []) content own)
    (after own ask))

-- "replying alike to all reads"
abbrev pub replies_alike : Build
replies_alike = asked_by (λ now. replying_alike (number_given now ask) (handed_over now ask))
