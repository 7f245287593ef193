-- No public promise cites this file: what private functions of the code are held against.
use Rattle.std.specs.Prelude.{ℕ, ◌+◌, ◌-◌, ◌≤◌, ◌≡◌, Bool, false, cond, not, ◌&&◌, ◌==◌, List, ltb, length, get_or, take, drop, take_while}
use Rattle.frame.specs.Frame.{header_bytes, content_of, longest_frame, most_payload}
use Rattle.reading.specs.Moves.{settled}
use Rattle.place.specs.declared.Look.{Look}
use Rattle.line.specs.declared.Line.{Line}
use Rattle.line.specs.declared.Reader.{Reader}
use Rattle.line.specs.declared.Rest.{Rest}
use Rattle.line.specs.declared.Step.{Step}
use Rattle.line.specs.declared.Handover.{Handover}
use Rattle.line.specs.declared.Asked.{Asked}
use Rattle.line.specs.State.{rules_for, padded, settled_reader}
use Rattle.line.specs.Methods.{body_length, span, told}

-- `head`

-- how long the bytes must be before the frame that the first begins is whole; 0 where its length byte has not come
unfoldable pub decided_at : List ℕ → List ℕ → ℕ
decided_at header xs = cond (ltb (length header) (length xs)) (length header + 1 + get_or xs (length header) 0) 0

-- `settle` and `feed`

-- these many bytes stand at the front of an array as long as the longest frame, zeros behind them
abbrev pub Held : ℕ → List ℕ → Type 0
Held n held = (n ≤ longest_frame) × (length held ≡ longest_frame) × (held ≡ padded longest_frame (take n held))

-- what is left of the bytes of an open stretch once all that is passed over has been
abbrev pub left_of : Line → List ℕ → List ℕ
left_of line xs = (settled (rules_for line) false xs).bytes

-- how many are left, and what stands at the first
abbrev pub rest_of : Line → List ℕ → Rest
rest_of line xs = record { len = length (left_of line xs); head = (settled_reader line false xs).head }

-- the reader with these bytes left of a stretch: it is closed only while some are left
abbrev pub reader_with : Line → Bool → ℕ → Look → List ℕ → Reader
reader_with line closed n head held = record { line = line; held = held; len = n; closed = closed && ltb 0 n; head = head }

-- `feed`

-- a reader in an open stretch, as it stands between two bytes of a block
abbrev pub opened : Line → List ℕ → ℕ → Look → Reader
opened line held n head = record { line = line; held = held; len = n; closed = false; head = head }

-- how many are left, what stands at the first, and how many must be held before more is decided
abbrev pub step_of : Line → List ℕ → Step
step_of line xs =
    record { rest = rest_of line xs; need = decided_at (header_bytes line.header) (left_of line xs) }

-- how many bytes at the front are not the first header byte: with nothing held, each is passed over as it comes
unfoldable pub noise_length : ℕ → List ℕ → ℕ
noise_length h1 xs = length (take_while (λ x. not (x == h1)) xs)

-- `ask`

-- an answer with its two arrays
abbrev pub asked_with : Line → Handover → List ℕ → List ℕ → Asked
asked_with line t payload held =
    record { report = t.report; payload = payload; reader = record { line = line; held = held; len = t.rest.len; closed = t.closed; head = t.rest.head } }

-- what an ask answers where the report at the front is handed over
unfoldable pub answer_with_report : Reader → Asked
answer_with_report reader =
    let header = header_bytes reader.line.header in
    let checking = reader.line.checking in
    let body = take (body_length reader.head) (drop (length header + 1) reader.held) in
    record {
      report = told checking reader.head body;
      payload = padded most_payload (drop 1 (content_of checking body));
      reader = settled_reader reader.line reader.closed (take (reader.len - span header reader.head) (drop (span header reader.head) reader.held));
    }
