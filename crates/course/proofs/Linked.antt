-- The link from the reader to 01, for every reader that comes from a new one by calls.
use mathlib.Core.Path.{◌≡◌, refl, ap}
use mathlib.Core.Bool.{Bool, true, false, cond}
use mathlib.Core.List.{List, [], ◌∷◌}
use Rattle.std.specs.Prelude.{Ok, Err}
use Prim.Native.Nat.{ℕ, suc, ◌<◌}
use native.Mathlib.Omega.{arith}
use Rattle.wire.specs.Bytes.{Bytes}
use Rattle.reading.specs.Moves.{Kept, fresh, waiting, with_byte, with_mark, after_report}
use Rattle.line.specs.declared.Line.{Line}
use Rattle.line.specs.declared.Reader.{Reader}
use Rattle.line.specs.declared.Asked.{Asked}
use Rattle.line.specs.declared.Waiting.TheVariants.{ReportWaits}
use Rattle.line.specs.State.{rules_for, reader_of}
use Rattle.line.specs.Methods.{busy, gives, gave, plus, given_byte, given_bytes, given_mark, asked}
use Rattle.line.specs.Reached.{Reached}
use Rattle.line.proofs.Carried.{waiting_is, byte_carried, mark_carried, ask_carried, reached_new, reached_byte, reached_mark, reached_report}
use Rattle.course.specs.Link.{Arises, new, byte, bytes, mark, ask, Linked, Link}

-- a reader that keeps some bytes that are reached
abbrev Keeps : Line → Reader → Type 0
Keeps line reader = (kept : Kept) × Reached line kept × (reader ≡ reader_of line kept)

module _ (line : Line) where
  byte_keeps : (b : ℕ) → b < 256 → (kept : Kept) → Reached line kept → Keeps line ((given_byte (reader_of line kept) b).reader)
  byte_keeps b is kept reached = go (waiting (rules_for line) kept) refl
    where
      byte_leaves : (w : Bool) → waiting (rules_for line) kept ≡ w
          → (given_byte (reader_of line kept) b).reader ≡ (cond w (gives (Err ReportWaits) (reader_of line kept)) (gives (Ok tt) (reader_of line (with_byte (rules_for line) kept b)))).reader
      byte_leaves w is-w = rw (byte_carried line kept b reached, is-w)

      go : (w : Bool) → waiting (rules_for line) kept ≡ w → Keeps line ((given_byte (reader_of line kept) b).reader)
      go true waits = (kept, reached, byte_leaves true waits)
      go false quiet = (with_byte (rules_for line) kept b, reached_byte line kept b reached quiet is, byte_leaves false quiet)

  mark_keeps : (kept : Kept) → Reached line kept → Keeps line ((given_mark (reader_of line kept)).reader)
  mark_keeps kept reached = go (waiting (rules_for line) kept) refl
    where
      mark_leaves : (w : Bool) → waiting (rules_for line) kept ≡ w
          → (given_mark (reader_of line kept)).reader ≡ (cond w (gives (Err ReportWaits) (reader_of line kept)) (gives (Ok tt) (reader_of line (with_mark (rules_for line) kept)))).reader
      mark_leaves w is-w = rw (mark_carried line kept reached, is-w)

      go : (w : Bool) → waiting (rules_for line) kept ≡ w → Keeps line ((given_mark (reader_of line kept)).reader)
      go true waits = (kept, reached, mark_leaves true waits)
      go false quiet = (with_mark (rules_for line) kept, reached_mark line kept reached, mark_leaves false quiet)

  ask_keeps : (kept : Kept) → Reached line kept → Keeps line ((asked (reader_of line kept)).reader)
  ask_keeps kept reached = (after_report (rules_for line) kept, reached_report line kept reached, ap (λ (a : Asked). a.reader) (ask_carried line kept reached.few))

  bytes_keep : (these : List ℕ) → Bytes these → (reader : Reader) → Keeps line reader → Keeps line (given_bytes reader these).reader
  unfolding given_bytes
  bytes_keep [] are reader keeps = keeps
  bytes_keep (b ∷ these) are reader keeps = go (busy reader) (bytes_keep these (λ i. are (suc i)) (given_byte reader b).reader next)
    where
      next : Keeps line (given_byte reader b).reader
      next = rw keeps.2 (byte_keeps b (are 0) keeps.0 keeps.1)

      go : (w : Bool) → Keeps line ((given_bytes (given_byte reader b).reader these).reader)
          → Keeps line ((cond w (gave 0 reader) (plus 1 (given_bytes (given_byte reader b).reader these))).reader)
      go true rest = keeps
      go false rest = rest

  pub arises_keeps : (reader : Reader) → Arises line reader → Keeps line reader
  arises_keeps reader new = (fresh, reached_new line, refl)
  arises_keeps _ (byte {reader} b is from) = let keeps = arises_keeps reader from in rw keeps.2 (byte_keeps b is keeps.0 keeps.1)
  arises_keeps _ (bytes {reader} these are from) = bytes_keep these are reader (arises_keeps reader from)
  arises_keeps _ (mark {reader} from) = let keeps = arises_keeps reader from in rw keeps.2 (mark_keeps keeps.0 keeps.1)
  arises_keeps _ (ask {reader} from) = let keeps = arises_keeps reader from in rw keeps.2 (ask_keeps keeps.0 keeps.1)

pub linked : (line : Line) (kept : Kept) → Reached line kept → Linked line kept
linked line kept reached =
    record {
      waits = waiting_is line kept reached;
      byte = λ b. byte_carried line kept b reached;
      mark = mark_carried line kept reached;
      ask = ask_carried line kept reached.few;
    }

pub link : Link
link line reader arises =
    let keeps = arises_keeps line reader arises in
    (keeps.0, keeps.1, keeps.2, linked line keeps.0 keeps.1)

-- such a reader, which `link` speaks of: a new one that was given a byte and a mark and was then asked
pub comes_by_calls : (line : Line) → Arises line (asked (given_mark (given_byte (reader_of line fresh) 0x5A).reader).reader).reader
comes_by_calls line = ask (mark (byte 0x5A (omega arith) new))
