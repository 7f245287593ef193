-- The reader as a value, against what crate reading says a reader keeps between inputs.
use Rattle.std.specs.Prelude.{ℕ, ◌-◌, Bool, false, List, [], ◌++◌, length, take, replicate}
use Rattle.frame.specs.Frame.{longest_frame}
use Rattle.reading.specs.Place.{Rules, look}
use Rattle.reading.specs.Moves.{Kept, settled}
use Rattle.place.specs.Looks.{rules_of, shown}
use Rattle.place.specs.declared.Look.TheVariants.{Wait}
use Rattle.line.specs.declared.Line.{Line}
use Rattle.line.specs.declared.Reader.{Reader}

-- "Two header bytes H1 H2, fixed at setup", and the checking choice: the reader's own, as the reading takes them
abbrev pub rules_for : Line → Rules
rules_for line = rules_of line.header line.checking

-- these bytes at the front of an array of that size, zeros behind them
unfoldable pub padded : ℕ → List ℕ → List ℕ
padded size xs = xs ++ replicate (size - length xs) 0

-- the reader that keeps these bytes: all of it is a function of what is kept, the array past the bytes included
abbrev pub reader_of : Line → Kept → Reader
reader_of line kept =
    record {
      line = line;
      held = padded longest_frame kept.bytes;
      len = length kept.bytes;
      closed = kept.closed;
      head = shown (look (rules_for line) kept.closed kept.bytes);
    }

-- what any reader keeps: a count past the array means the whole array
abbrev pub kept_of : Reader → Kept
kept_of reader = record { closed = reader.closed; bytes = take reader.len reader.held }

-- the reader once all that is passed over of these bytes has been
abbrev pub settled_reader : Line → Bool → List ℕ → Reader
settled_reader line closed xs = reader_of line (settled (rules_for line) closed xs)

-- 01: "A refused start gives no panel." What stands in a reader's place there: full, and no report at its front, so that it takes nothing and hands nothing over.
unfoldable pub no_reader : Reader
no_reader =
    record {
      line = record { header = record { h1 = 0; h2 = 0 }; checking = false };
      held = padded longest_frame [];
      len = longest_frame;
      closed = false;
      head = Wait;
    }
