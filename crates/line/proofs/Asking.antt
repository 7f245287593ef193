-- Laws of asking.
use mathlib.Core.Path.{◌≡◌, refl, sym}
use mathlib.Core.Bool.{Bool, true, false, cond, ◌||◌}
use mathlib.Core.List.{List, []}
use Rattle.std.specs.Prelude.{Option, None}
use Prim.Native.Nat.{ℕ, ◌+◌, ◌-◌, ◌≤◌}
use native.Mathlib.Omega.{arith}
use borrow.Author.Tests.{ltb-false}
use lib.Dec.{eqb, ltb}
use lib.ListN.{length, take, drop}
use lib.Seq.{take-take}
use Rattle.frame.specs.Frame.{header_bytes, content_of, longest_frame, most_payload}
use Rattle.place.specs.declared.Look.{Look}
use Rattle.place.specs.declared.Look.TheVariants.{Pass, Wait, Bad, Good}
use Rattle.line.specs.declared.Reader.{Reader}
use Rattle.line.specs.declared.Report.{Report}
use Rattle.line.specs.declared.Asked.{Asked}
use Rattle.line.specs.State.{padded, settled_reader}
use Rattle.line.specs.Methods.{body_length, span, told, asked}
use Rattle.line.proofs.Padding.{drop_take}
use Rattle.wire.proofs.Truths.{or_left, or_right}

-- an answer to an ask
abbrev pub ask_gives : Option Report → List ℕ → Reader → Asked
ask_gives report payload reader = record { report = report; payload = payload; reader = reader }

-- a head that is obeyed: its frame is all held
module _ (k n : ℕ) (obeyed : (eqb k 0 || ltb n k || ltb longest_frame n) ≡ false) where
  pub frame_held : k ≤ n
  frame_held = ltb-false n k (or_right (eqb k 0) (ltb n k) (or_left (eqb k 0 || ltb n k) (ltb longest_frame n) obeyed))

  pub held_fits : n ≤ longest_frame
  held_fits = ltb-false longest_frame n (or_right (eqb k 0 || ltb n k) (ltb longest_frame n) obeyed)

pub body_inside : (held : List ℕ) (h l : ℕ) → length held ≡ longest_frame → h ≤ 2 → l ≤ 255 → h + 1 + l ≤ length held
body_inside held h l long short byte = omega arith

-- the L bytes of a frame that is all held
body_held : (header : List ℕ) (head : Look) (n : ℕ) (held : List ℕ) → span header head ≤ n
    → take (body_length head) (drop (length header + 1) (take n held)) ≡ take (body_length head) (drop (length header + 1) held)
body_held header Pass n held fits = refl
body_held header Wait n held fits = refl
body_held header (Bad command) n held fits = refl
body_held header (Good l) n held fits =
    rw (drop_take (length header + 1) n held) (take-take l (n - (length header + 1)) (drop (length header + 1) held) (omega arith))

module _ (reader : Reader) (k : ℕ) (is-k : k ≡ span (header_bytes reader.line.header) reader.head) where
  pub nothing_asked : (payload : List ℕ) → (eqb k 0 || ltb reader.len k || ltb longest_frame reader.len) ≡ true → payload ≡ padded most_payload []
      → ask_gives None payload reader ≡ asked reader
  unfolding asked
  nothing_asked payload none empty = rw (← is-k, none, empty)

  pub report_asked : (h l : ℕ) (report : Option Report) (payload : List ℕ) (next : Reader)
      → (eqb k 0 || ltb reader.len k || ltb longest_frame reader.len) ≡ false → h ≡ length (header_bytes reader.line.header)
      → l ≡ body_length reader.head
      → report ≡ told reader.line.checking reader.head (take (h + 1 + l - (h + 1)) (drop (h + 1) reader.held))
      → payload ≡ padded most_payload (drop 1 (content_of reader.line.checking (take (h + 1 + l - (h + 1)) (drop (h + 1) reader.held))))
      → next ≡ settled_reader reader.line reader.closed (take (reader.len - k) (drop k reader.held))
      → ask_gives report payload next ≡ asked reader
  unfolding asked
  report_asked h l report payload next obeyed is-h is-l is-report is-payload is_next =
      let header = header_bytes reader.line.header in
      let there : span header reader.head ≤ reader.len = rw (← is-k) (frame_held k reader.len obeyed) in
      let z : h + 1 + l - (h + 1) ≡ l = omega arith in
      let body : take (h + 1 + l - (h + 1)) (drop (h + 1) reader.held)
      ≡ take (body_length reader.head) (drop (length header + 1) (take reader.len reader.held)) =
      rw (z, is-h, is-l) (sym (body_held header reader.head reader.len reader.held there)) in
      let rest : take (reader.len - k) (drop k reader.held) ≡ drop k (take reader.len reader.held) =
      sym (drop_take k reader.len reader.held) in
      rw (is-report, is-payload, is_next, body, rest, ← is-k, obeyed)

-- "'Nothing' changes nothing."
none_there : (header : List ℕ) (checking : Bool) (head : Look) (body : List ℕ) (n : ℕ) → told checking head body ≡ None
    → (eqb (span header head) 0 || ltb n (span header head) || ltb longest_frame n) ≡ true
none_there header checking Pass body n none = refl
none_there header checking Wait body n none = refl
none_there header checking (Bad command) body n none = cc
none_there header checking (Good l) body n none = cc

keeps_if : (none : Bool) (reader next : Reader) (report : Option Report) (payload empty : List ℕ) → (report ≡ None → none ≡ true)
    → (cond none (ask_gives None empty reader) (ask_gives report payload next)).report ≡ None
    → (cond none (ask_gives None empty reader) (ask_gives report payload next)).reader ≡ reader
keeps_if true reader next report payload empty only is = refl
keeps_if false reader next report payload empty only is =
    let e : false ≡ true = only is in
    cc

pub nothing_keeps : (reader : Reader) → (asked reader).report ≡ None → (asked reader).reader ≡ reader
unfolding asked
nothing_keeps reader is =
    let header : List ℕ = header_bytes reader.line.header in
    let body : List ℕ = take (body_length reader.head) (drop (length header + 1) (take reader.len reader.held)) in
    keeps_if (eqb (span header reader.head) 0 || ltb reader.len (span header reader.head) || ltb longest_frame reader.len) reader
    (settled_reader reader.line reader.closed (drop (span header reader.head) (take reader.len reader.held)))
    (told reader.line.checking reader.head body) (padded most_payload (drop 1 (content_of reader.line.checking body))) (padded most_payload [])
    (none_there header reader.line.checking reader.head body reader.len) is
