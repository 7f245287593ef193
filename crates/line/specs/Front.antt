-- 01, "Reading the line": what an ask is answered, by what stands at the front. 01 gives a report no number, so what is said are its values.
use Rattle.std.specs.Prelude.{ℕ, ◌+◌, Bool, true, false, not, ◌||◌, List, [], ◌∷◌, ltb, length, get_or, take, drop, Option, Some, None}
use Rattle.wire.specs.Numbers.{Entry, ◌when◌, first_said}
use Rattle.frame.specs.Frame.{header_bytes, content_of, longest_frame}
use Rattle.place.specs.declared.Look.{Look}
use Rattle.place.specs.declared.Look.TheVariants.{Pass, Wait, Bad, Good}
use Rattle.line.specs.declared.Reader.{Reader}
use Rattle.line.specs.declared.Report.{Report}
use Rattle.line.specs.declared.Report.TheVariants.{Accepted, BadCheck}
use Rattle.line.specs.State.{kept_of}
use Rattle.line.specs.Methods.{is_answer, body_length, span}

-- each report: "a bad check with the command byte"; "an accepted frame with its command and data", how much data there is
unfoldable pub report_said : Option Report → List ℕ
report_said None = []
report_said (Some (BadCheck command)) = command ∷ []
report_said (Some (Accepted command count)) = command ∷ count ∷ []

-- "nothing": no report stands at the front, or its frame is not all held, as in no reader that is reached
unfoldable pub hands_nothing : Reader → Bool
hands_nothing reader =
    not (is_answer reader.head)
    || ltb reader.len (span (header_bytes reader.line.header) reader.head)
    || ltb longest_frame reader.len

-- "the check bytes are wrong: report a bad check with the command byte"
abbrev pub is_bad : Look → Bool
is_bad Pass = false
is_bad Wait = false
is_bad (Bad command) = true
is_bad (Good l) = false

-- "with the command byte": the one that a bad check is reported with
abbrev pub bad_command : Look → ℕ
bad_command Pass = 0
bad_command Wait = 0
bad_command (Bad command) = command
bad_command (Good l) = 0

-- the L bytes of the frame at the front
abbrev pub front_body : Reader → List ℕ
front_body reader = take (body_length reader.head) (drop (length (header_bytes reader.line.header) + 1) (kept_of reader).bytes)

-- "its command and data": the command of the frame at the front
unfoldable pub front_command : Reader → ℕ
front_command reader = get_or (front_body reader) 0 0

-- "its command and data": the data of the frame at the front
unfoldable pub front_content : Reader → List ℕ
front_content reader = drop 1 (content_of reader.line.checking (front_body reader))

-- the list by which an ask is answered
unfoldable pub front_listed : Reader → List (Entry (List ℕ))
front_listed reader = ([] when hands_nothing reader) ∷ ((bad_command reader.head ∷ []) when is_bad reader.head) ∷ []

-- "otherwise report an accepted frame with its command and data"
abbrev pub front_said : Reader → List ℕ
front_said reader = first_said (front_listed reader) (front_command reader ∷ length (front_content reader) ∷ [])
