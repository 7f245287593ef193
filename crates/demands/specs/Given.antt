-- 01, "Reading the line": which inputs a sequence of calls has given to the panel.
use Rattle.std.specs.Prelude.{List, [], ◌∷◌, ◌++◌, map, take, Result, Ok, Err}
use Rattle.line.specs.declared.Waiting.{Waiting}
use Rattle.reading.specs.Line as Line
use Rattle.reading.specs.Line.{Input}
use Rattle.line.specs.declared.Waiting.TheVariants.{ReportWaits}
use Rattle.panel.specs.Inputs.{fed_byte, fed_mark, fed_bytes}
use Rattle.demands.specs.Calls.{Moment, Call, lend, byte, bytes, mark, second, ask, contact, lift, after}

-- "An input refused with 1 was not given"
unfoldable pub unless_refused : Result Unit Waiting → Input → List Input
unless_refused (Ok tt) input = input ∷ []
unless_refused (Err ReportWaits) input = []

-- "An input refused with 1 was not given": the inputs of the line that a call gives, a byte, a mark, or as many of the bytes as were taken. A
-- second is none of them
unfoldable pub given : Moment → Call → List Input
given now (lend lent) = []
given now (byte b) = unless_refused (fed_byte now.panel b).answer (Line.byte b)
given now (bytes bs) = map Line.byte (take (fed_bytes now.panel bs).used bs)
given now mark = unless_refused (fed_mark now.panel).answer Line.mark
given now second = []
given now ask = []
given now (contact c) = []
given now lift = []

-- "all that was given", in order
unfoldable pub given_all : Moment → List Call → List Input
given_all now [] = []
given_all now (call ∷ calls) = given now call ++ given_all (after now call) calls
