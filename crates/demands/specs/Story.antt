-- What happened, as a sequence of calls: "a pump started and the line took a burst of noise. The panel's reader met two header bytes in the noise, believed
-- the length byte behind them, and took good frames for the inside of a frame that never existed."
use Rattle.std.specs.Prelude.{ℕ, zero, suc, List, [], ◌∷◌, ◌++◌, replicate}
use Rattle.wire.specs.Addresses.{word_count}
use Rattle.frame.specs.Writer.{least_room}
use Rattle.reading.specs.Place.{Report, accepted_frame}
use Rattle.curves.specs.Area.{curve_words}
use Rattle.watch.specs.Watched.{none_watched}
use Rattle.commands.specs.Lent.{lending}
use Rattle.touch.specs.declared.Setup.{Setup}
use Rattle.demands.specs.Calls.{Moment, Call, bytes, ask, begun}

-- "004's frame 5A A5 05 81 00 01 E0 28", which asks for the version
abbrev pub version : List ℕ
version = 0x5A ∷ 0xA5 ∷ 0x05 ∷ 0x81 ∷ 0x00 ∷ 0x01 ∷ 0xE0 ∷ 0x28 ∷ []

-- its report
abbrev pub read_version : Report
read_version = accepted_frame 0x81 (0x00 ∷ 0x01 ∷ [])

-- the panel of 01's trace example, checking on
abbrev pub story_setup : Setup
story_setup = record { h1 = 0x5A; h2 = 0xA5; flags = 1; pages = 2; width = 800; height = 480 }

-- that panel, started with an empty table and lent what it must be
abbrev pub new : Moment
new = begun story_setup [] (lending (replicate word_count 0) (replicate curve_words 0) (replicate least_room 0) none_watched)

-- "two header bytes in the noise", "the length byte behind them": the head of a frame of 67 bytes, "a frame that never existed"
abbrev pub noise : List ℕ
noise = 0x5A ∷ 0xA5 ∷ 0x40 ∷ []

-- calls made n times over
unfoldable pub times : ℕ → List Call → List Call
times zero calls = []
times (suc n) calls = calls ++ times n calls

-- "took good frames for the inside of a frame": the noise, then 33 good frames, 264 bytes, on a line still open: the first eight fill the false frame, and its
-- report and theirs are asked for; then each frame's report is asked for as it comes
abbrev pub story : List Call
story = bytes noise ∷ (times 8 (bytes version ∷ []) ++ (times 9 (ask ∷ []) ++ times 25 (bytes version ∷ ask ∷ [])))
