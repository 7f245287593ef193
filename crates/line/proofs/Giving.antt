-- Laws of giving a byte and a mark.
use mathlib.Core.Path.{◌≡◌, sym, ap, ◌∙◌}
use mathlib.Core.Bool.{Bool, true, false, not}
use mathlib.Core.List.{List, [], ◌∷◌, ◌++◌}
use Rattle.std.specs.Prelude.{Ok, Err}
use Prim.Native.Nat.{ℕ, ◌+◌, ◌≤◌, ◌<◌}
use native.Mathlib.Omega.{arith}
use native.Mathlib.Numerals.{add-one}
use mir.Val.{Fits}
use mir.Syntax.{w64}
use borrow.Author.Tests.{ltb-true}
use lib.Dec.{ltb}
use lib.ListN.{length, take, set, replicate, length-take, length-set}
use lib.Seq.{take-suc-set, length-take-le}
use Rattle.frame.specs.Frame.{longest_frame}
use Rattle.reading.specs.Moves.{fresh, with_byte, with_mark}
use Rattle.place.specs.declared.Look.{Look}
use Rattle.place.specs.declared.Look.TheVariants.{Wait}
use Rattle.place.proofs.Stops.{look_nothing}
use Rattle.line.specs.declared.Line.{Line}
use Rattle.line.specs.declared.Reader.{Reader}
use Rattle.line.specs.declared.Waiting.TheVariants.{ReportWaits}
use Rattle.line.specs.State.{rules_for, padded, reader_of, settled_reader, no_reader}
use Rattle.line.specs.Methods.{is_answer, takes, busy, gives, given_byte, given_mark}
use Rattle.line.specs.Inner.{opened}
use Rattle.line.proofs.Padding.{zeros_empty}
use Rattle.wire.proofs.Truths.{and_left}

-- an input that is taken finds room
module _ (n : ℕ) (head : Look) (r : Bool) (is : r ≡ takes n head) (free : r ≡ true) where
  pub below_full : n < longest_frame
  below_full = ltb-true n longest_frame (and_left (ltb n longest_frame) (not (is_answer head)) (sym is ∙ free))

  pub one_more_fits : Fits w64 (n + 1)
  one_more_fits = let h = below_full in omega arith

  pub prefix_inside : (held : List ℕ) → length held ≡ longest_frame → n ≤ length held
  prefix_inside held long = let h = below_full in omega arith

  pub prefix_counted : (held : List ℕ) → length held ≡ longest_frame → n ≡ length (take n held)
  prefix_counted held long = sym (length-take-le n held (prefix_inside held long))

  pub prefix_fits : (held : List ℕ) → length (take n held) ≤ longest_frame
  prefix_fits held = let h = below_full in simp length-take (omega arith)

  pub longer_inside : (held : List ℕ) (b : ℕ) → length held ≡ longest_frame → n + 1 ≤ length (set held n b)
  longer_inside held b long = let h = below_full in omega (arith, length-set held n b)

  pub longer_counted : (held : List ℕ) (b : ℕ) → length held ≡ longest_frame → n + 1 ≡ length (take (n + 1) (set held n b))
  longer_counted held b long = sym (length-take-le (n + 1) (set held n b) (longer_inside held b long))

  pub longer_fits : (held : List ℕ) (b : ℕ) → length (take (n + 1) (set held n b)) ≤ longest_frame
  longer_fits held b = let h = below_full in simp length-take (omega arith)

-- zeros in the array
pub empty_is : (line : Line) (held : List ℕ) (len : ℕ) → held ≡ replicate longest_frame 0
    → ◌≡◌ {A = Reader} (record { line = line; held = held; len = len; closed = false; head = Wait }) (opened line (padded longest_frame []) len Wait)
empty_is line held len zeros = rw (zeros_empty longest_frame held zeros)

-- a new reader keeps nothing
pub new_is : (line : Line) (reader : Reader) → reader ≡ opened line (padded longest_frame []) 0 Wait → reader ≡ reader_of line fresh
new_is line reader is = rw (is, look_nothing (rules_for line))

-- what stands where there is none
pub none_is : (reader : Reader) → reader ≡ opened (record { header = record { h1 = 0; h2 = 0 }; checking = false }) (padded longest_frame []) longest_frame Wait → reader ≡ no_reader
unfolding no_reader
none_is reader is = is

module _ (reader : Reader) (r : Bool) (is : r ≡ takes reader.len reader.head) where
  is_busy : busy reader ≡ not r
  is_busy = ap not (sym is)

  pub byte_taken : (b : ℕ) (next : Reader) → r ≡ true → length reader.held ≡ longest_frame
      → next ≡ settled_reader reader.line false (take (reader.len + 1) (set reader.held reader.len b))
      → gives (Ok tt) next ≡ given_byte reader b
  unfolding given_byte with_byte
  byte_taken b next free long is_next =
      let room : reader.len < longest_frame = below_full reader.len reader.head r is free in
      let inside : reader.len < length reader.held = omega arith in
      let more : take (reader.len + 1) (set reader.held reader.len b) ≡ take reader.len reader.held ++ (b ∷ []) =
      rw (add-one reader.len) (take-suc-set reader.held reader.len b inside) in
      rw (is_busy, free) (ap (gives (Ok tt)) (is_next ∙ ap (settled_reader reader.line false) more))

  pub byte_refused : (b : ℕ) → r ≡ false → gives (Err ReportWaits) reader ≡ given_byte reader b
  unfolding given_byte
  byte_refused b full = rw (is_busy, full)

  pub mark_taken : (next : Reader) → r ≡ true → next ≡ settled_reader reader.line true (take reader.len reader.held)
      → gives (Ok tt) next ≡ given_mark reader
  unfolding given_mark with_mark
  mark_taken next free is_next = rw (is_busy, free) (ap (gives (Ok tt)) is_next)

  pub mark_refused : r ≡ false → gives (Err ReportWaits) reader ≡ given_mark reader
  unfolding given_mark
  mark_refused full = rw (is_busy, full)
