-- What each method of the reader answers, on every reader.
use Rattle.std.specs.Prelude.{ℕ, ◌+◌, Bool, true, false, cond, not, ◌&&◌, ◌||◌, List, [], ◌∷◌, eqb, ltb, length, get_or, take, drop, Option, Some, None, Result, Ok, Err}
use Rattle.frame.specs.Frame.{header_bytes, content_of, longest_frame, most_payload}
use Rattle.reading.specs.Moves.{with_byte, with_mark}
use Rattle.place.specs.declared.Look.{Look}
use Rattle.place.specs.declared.Look.TheVariants.{Pass, Wait, Bad, Good}
use Rattle.line.specs.declared.Reader.{Reader}
use Rattle.line.specs.declared.Waiting.{Waiting}
use Rattle.line.specs.declared.Waiting.TheVariants.{ReportWaits}
use Rattle.line.specs.declared.Given.{Given}
use Rattle.line.specs.declared.Gave.{Gave}
use Rattle.line.specs.declared.Report.{Report}
use Rattle.line.specs.declared.Report.TheVariants.{Accepted, BadCheck}
use Rattle.line.specs.declared.Asked.{Asked}
use Rattle.wire.specs.Numbers.{Said, says, Listed, ◌when◌, first_said}
use Rattle.line.specs.State.{rules_for, padded, reader_of, kept_of, settled_reader}

-- what an input is answered: it is taken, or a report waits
abbrev pub Answer : Type 0
Answer = Result Unit Waiting

-- "0: done", "1: an input comes while a report waits": the number of each answer
unfoldable pub number_of_answer : Answer → ℕ
number_of_answer (Ok tt) = 0
number_of_answer (Err ReportWaits) = 1

-- "report a bad check"; "report an accepted frame": whether what stands there is a report
abbrev pub is_answer : Look → Bool
is_answer Pass = false
is_answer Wait = false
is_answer (Bad command) = true
is_answer (Good l) = true

-- an input is taken unless a report waits; a full array takes none either (no reader that is reached is full and has no report)
abbrev pub takes : ℕ → Look → Bool
takes n head = ltb n longest_frame && not (is_answer head)

-- "1: an input comes while a report waits"
abbrev pub busy : Reader → Bool
busy reader = not (takes reader.len reader.head)

-- what an input is answered, and the reader as it is then
abbrev pub gives : Answer → Reader → Given
gives answer reader = record { answer = answer; reader = reader }

-- "a definition gives this paper's number and values for each of its cases"
unfoldable pub answer_said : Answer → Said
answer_said answer = says (number_of_answer answer) []

-- the list by which an input is answered: "byte or mark 1"
unfoldable pub input_listed : Reader → List Listed
input_listed reader = (says 1 [] when busy reader) ∷ []

-- "The first number in order whose condition holds is given", "0: done" where none does: of an input
abbrev pub input_said : Reader → Said
input_said reader = first_said (input_listed reader) (says 0 [])

-- "Bytes or marks are given one at a time"; "otherwise a refusal changes nothing"
unfoldable pub given_byte : Reader → ℕ → Given
given_byte reader b =
    cond (busy reader) (gives (Err ReportWaits) reader) (gives (Ok tt) (reader_of reader.line (with_byte (rules_for reader.line) (kept_of reader) b)))

-- "Bytes or marks are given one at a time"; "otherwise a refusal changes nothing"
unfoldable pub given_mark : Reader → Given
given_mark reader =
    cond (busy reader) (gives (Err ReportWaits) reader) (gives (Ok tt) (reader_of reader.line (with_mark (rules_for reader.line) (kept_of reader))))

-- builds what a block of bytes is answered: how many of them were taken, and the reader as it is then
abbrev pub gave : ℕ → Reader → Gave
gave used reader = record { used = used; reader = reader }

-- the same where n bytes more were taken before
abbrev pub plus : ℕ → Gave → Gave
plus n given = gave (n + given.used) given.reader

-- bytes given one after the other until one is refused: "1: an input comes while a report waits"
unfoldable pub given_bytes : Reader → List ℕ → Gave
given_bytes reader [] = gave 0 reader
given_bytes reader (b ∷ bs) =
    cond (busy reader) (gave 0 reader) (plus 1 (given_bytes (given_byte reader b).reader bs))

-- the L of the frame that stands there
abbrev pub body_length : Look → ℕ
body_length Pass = 0
body_length Wait = 0
body_length (Bad command) = 0
body_length (Good l) = l

-- how many bytes go with its report: "go to p+1", "go to p+3+L"
abbrev pub span : List ℕ → Look → ℕ
span header Pass = 0
span header Wait = 0
span header (Bad command) = 1
span header (Good l) = length header + 1 + l

-- "report a bad check with the command byte"; "report an accepted frame with its command and data"; `body` is its L bytes
abbrev pub told : Bool → Look → List ℕ → Option Report
told checking Pass body = None
told checking Wait body = None
told checking (Bad command) body = Some (BadCheck command)
told checking (Good l) body = Some (Accepted (get_or body 0 0) (length (drop 1 (content_of checking body))))

-- "'Nothing' changes nothing." A head whose frame is not all held belongs to no reader that is reached, and hands nothing over.
unfoldable pub asked : Reader → Asked
asked reader =
    let header = header_bytes reader.line.header in
    let checking = reader.line.checking in
    let xs = (kept_of reader).bytes in
    let k = span header reader.head in
    let body = take (body_length reader.head) (drop (length header + 1) xs) in
    cond (eqb k 0 || ltb reader.len k || ltb longest_frame reader.len)
    (record { report = None; payload = padded most_payload []; reader = reader })
    (record {
      report = told checking reader.head body;
      payload = padded most_payload (drop 1 (content_of checking body));
      reader = settled_reader reader.line reader.closed (drop k xs);
    })
