-- Laws of handing a report over into two empty arrays: its data, and what is left of the bytes held.
use mathlib.Core.Path.{◌≡◌, refl, sym, ap, ◌∙◌}
use mathlib.Core.Bool.{Bool, true, false, ◌&&◌, ◌||◌}
use mathlib.Core.List.{List, [], ◌∷◌, ◌++◌, append-nil}
use Rattle.std.specs.Prelude.{Option, None}
use Prim.Native.Nat.{ℕ, ◌+◌, ◌-◌, ◌≤◌, ◌<◌}
use native.Mathlib.Nat.{sub-zero}
use native.Mathlib.Omega.{arith}
use mir.Val.{Fits}
use mir.Syntax.{w64}
use lib.Dec.{eqb, ltb}
use lib.ListN.{length, get_or, take, drop, set, length-drop, length-set}
use lib.Seq.{length-take-le, take_all, drop-drop, take-take}
use Rattle.wire.specs.Room.{over}
use Rattle.frame.specs.Frame.{header_bytes, check_length, content_of, longest_frame, most_payload}
use Rattle.reading.specs.Moves.{passes, still_closed, settled}
use Rattle.place.specs.declared.Look.{Look}
use Rattle.place.specs.declared.Look.TheVariants.{Wait}
use Rattle.place.specs.declared.Stop.{Stop}
use Rattle.place.specs.Looks.{stop_of}
use Rattle.place.proofs.Stops.{look_nothing}
use Rattle.line.specs.declared.Line.{Line}
use Rattle.line.specs.declared.Reader.{Reader}
use Rattle.line.specs.declared.Report.{Report}
use Rattle.line.specs.declared.Rest.{Rest}
use Rattle.line.specs.declared.Handover.{Handover}
use Rattle.line.specs.declared.Asked.{Asked}
use Rattle.line.specs.declared.Fed.{Fed}
use Rattle.line.specs.Inner.{reader_with, opened, asked_with, answer_with_report}
use Rattle.line.specs.State.{rules_for, padded, settled_reader}
use Rattle.line.specs.Methods.{busy, gave, given_bytes, body_length, span, told, asked}
use Rattle.line.proofs.Padding.{drop_take, length_padded, copied_empty, set_behind}
use Rattle.line.proofs.Fronts.{content_part}
use Rattle.line.proofs.Settling.{stop_inside, settled_is}
use Rattle.line.proofs.Feeding.{old_few, old_fits, old_front, bytes_given}
use Rattle.line.proofs.Asking.{ask_gives, nothing_asked, report_asked}

-- bytes laid over the front of an array
pub copied_over : (n : ℕ) (xs out part : List ℕ) → length xs ≡ n → part ≡ xs → part ++ drop n out ≡ over xs out
unfolding over
copied_over n xs out part long is = rw (is, long)

pub nothing_over : (from to : ℕ) (held out : List ℕ) → to ≤ from → out ≡ over (take (to - from) (drop from held)) out
unfolding over
nothing_over from to held out none =
    let z : to - from ≡ 0 = omega arith in
    rw z

pub over_empty : (size : ℕ) (xs out out' : List ℕ) → out ≡ padded size [] → out' ≡ over xs out → out' ≡ padded size xs
unfolding over
over_empty size xs out out' empty is = copied_empty size xs out out' empty is

pub empty_room : (size n : ℕ) (out : List ℕ) → out ≡ padded size [] → n ≤ size → n ≤ length out
empty_room size n out empty fits =
    let long : length out ≡ size = rw empty (length_padded size [] (omega arith)) in
    omega arith

pub all_stays : (held left left' : List ℕ) → length held ≡ longest_frame → left ≡ padded longest_frame [] → left' ≡ over (take (longest_frame - 0) (drop 0 held)) left → left' ≡ held
unfolding padded
all_stays held left left' long empty is =
    let all : take (longest_frame - 0) (drop 0 held) ≡ held = take_all (longest_frame - 0) held (omega arith) in
    over_empty longest_frame (take (longest_frame - 0) (drop 0 held)) left left' empty is ∙ ap (padded longest_frame) all ∙ full
  where
    full : padded longest_frame held ≡ held
    full =
        let z : longest_frame - length held ≡ 0 = omega arith in
        rw (z, append-nil held)

-- data of up to three bytes, one by one
module _ (out : List ℕ) (empty : out ≡ padded most_payload []) where
  pub first_place : 0 < length out
  first_place = omega (arith, empty_room most_payload most_payload out empty (omega arith))

  pub second_place : (b : ℕ) → 1 < length (set out 0 b)
  second_place b = omega (arith, length-set out 0 b, empty_room most_payload most_payload out empty (omega arith))

  pub third_place : (b c : ℕ) → 2 < length (set (set out 0 b) 1 c)
  third_place b c = omega (arith, length-set (set out 0 b) 1 c, length-set out 0 b, empty_room most_payload most_payload out empty (omega arith))

  one : (b : ℕ) → set out 0 b ≡ padded most_payload (b ∷ [])
  one b = rw empty (set_behind most_payload 0 b [] refl (omega arith))

  two : (b c : ℕ) → set (set out 0 b) 1 c ≡ padded most_payload (b ∷ c ∷ [])
  two b c = rw (one b) (set_behind most_payload 1 c (b ∷ []) refl (omega arith))

  three : (b c d : ℕ) → set (set (set out 0 b) 1 c) 2 d ≡ padded most_payload (b ∷ c ∷ d ∷ [])
  three b c d = rw (two b c) (set_behind most_payload 2 d (b ∷ c ∷ []) refl (omega arith))

  pub short_none : (body : List ℕ) (end : ℕ) → end < 2 → out ≡ padded most_payload (take (end - 1) (drop 1 body))
  short_none body end few =
      let z : end - 1 ≡ 0 = omega arith in
      rw z empty

  pub short_one : (body : List ℕ) (end : ℕ) → 2 ≤ end → end < 3 → end ≤ length body
      → set out 0 (get_or body 1 0) ≡ padded most_payload (take (end - 1) (drop 1 body))
  short_one [] end least most inside = absurd (omega arith)
  short_one (x ∷ []) end least most inside = absurd (omega arith)
  short_one (x ∷ b ∷ body) end least most inside =
      let z : end - 1 ≡ 1 = omega arith in
      rw z (one b)

  pub short_two : (body : List ℕ) (end : ℕ) → 3 ≤ end → end < 4 → end ≤ length body
      → set (set out 0 (get_or body 1 0)) 1 (get_or body 2 0) ≡ padded most_payload (take (end - 1) (drop 1 body))
  short_two [] end least most inside = absurd (omega arith)
  short_two (x ∷ []) end least most inside = absurd (omega arith)
  short_two (x ∷ b ∷ []) end least most inside = absurd (omega arith)
  short_two (x ∷ b ∷ c ∷ body) end least most inside =
      let z : end - 1 ≡ 2 = omega arith in
      rw z (two b c)

  pub short_three : (body : List ℕ) (end : ℕ) → 4 ≤ end → end ≤ 4 → end ≤ length body
      → set (set (set out 0 (get_or body 1 0)) 1 (get_or body 2 0)) 2 (get_or body 3 0) ≡ padded most_payload (take (end - 1) (drop 1 body))
  short_three [] end least most inside = absurd (omega arith)
  short_three (x ∷ []) end least most inside = absurd (omega arith)
  short_three (x ∷ b ∷ []) end least most inside = absurd (omega arith)
  short_three (x ∷ b ∷ c ∷ []) end least most inside = absurd (omega arith)
  short_three (x ∷ b ∷ c ∷ d ∷ body) end least most inside =
      let z : end - 1 ≡ 3 = omega arith in
      rw z (three b c d)

-- the data of the frame at the front
module _ (checking : Bool) (header : List ℕ) (head : Look) (held : List ℕ) (h l c end : ℕ) (long : length held ≡ longest_frame) (is-h : h ≡ length header)
    (short : h ≤ 2) (is-l : l ≡ body_length head) (byte : l ≤ 255) (is_c : c ≡ check_length checking) (is-end : end ≡ l - c) where
  abbrev body : List ℕ
  body = take l (drop (h + 1) held)

  body_long : length body ≡ l
  body_long = length-take-le l (drop (h + 1) held) (simp length-drop (omega arith))

  content : drop 1 (content_of checking (take (body_length head) (drop (length header + 1) held))) ≡ take (end - 1) (drop 1 body)
  content = rw (← is-l, ← is-h) (content_part checking body c end is_c (rw body_long is-end))

  pub payload_short : (out' : List ℕ) → out' ≡ padded most_payload (take (end - 1) (drop 1 (take (h + 1 + l - (h + 1)) (drop (h + 1) held))))
      → out' ≡ padded most_payload (drop 1 (content_of checking (take (body_length head) (drop (length header + 1) held))))
  payload_short out' is =
      let z : h + 1 + l - (h + 1) ≡ l = omega arith in
      rw content (rw z at is)

  pub payload_long : (out out' : List ℕ) → 5 ≤ end → out ≡ padded most_payload [] → out' ≡ over (take (h + 1 + end - (h + 1 + 1)) (drop (h + 1 + 1) held)) out
      → out' ≡ padded most_payload (drop 1 (content_of checking (take (body_length head) (drop (length header + 1) held))))
  payload_long out out' much empty is =
      let z : h + 1 + end - (h + 1 + 1) ≡ end - 1 = omega arith in
      let part : take (end - 1) (drop (h + 1 + 1) held) ≡ take (end - 1) (drop 1 body) =
      sym (rw (drop_take 1 l (drop (h + 1) held), drop-drop 1 (h + 1) held) (take-take (end - 1) (l - 1) (drop (h + 1 + 1) held) (omega arith))) in
      rw content (over_empty most_payload (take (h + 1 + end - (h + 1 + 1)) (drop (h + 1 + 1) held)) out out' empty is ∙ rw z (ap (padded most_payload) part))

module _ (h l c end : ℕ) (short : h ≤ 2) (byte : l ≤ 255) (is-end : end ≡ l - c) (much : 5 ≤ end) where
  pub payload_within : h + 1 + end ≤ longest_frame
  payload_within = omega arith

  pub payload_room : (out : List ℕ) → out ≡ padded most_payload [] → h + 1 + end - (h + 1 + 1) ≤ length out
  payload_room out empty = empty_room most_payload (h + 1 + end - (h + 1 + 1)) out empty (omega arith)

-- what is left behind the first k bytes held
settled_none : (line : Line) (closed : Bool) → settled (rules_for line) closed [] ≡ record { closed = false; bytes = [] }
unfolding settled passes still_closed
settled_none line false = refl
settled_none line true = refl

pub left_none : (line : Line) (closed : Bool) (n k : ℕ) (held left : List ℕ) → k ≡ n → left ≡ padded longest_frame []
    → reader_with line closed 0 Wait left ≡ settled_reader line closed (take (n - k) (drop k held))
left_none line true n k held left same empty =
    let z : n - k ≡ 0 = omega arith in
    rw (z, empty, settled_none line true, look_nothing (rules_for line))
left_none line false n k held left same empty =
    let z : n - k ≡ 0 = omega arith in
    rw (z, empty, settled_none line false, look_nothing (rules_for line))

module _ (line : Line) (closed : Bool) (n k : ℕ) (held : List ℕ) (stop : Stop) (few : n ≤ longest_frame) (long : length held ≡ longest_frame) (inside : k ≤ n)
    (is : stop ≡ stop_of (rules_for line) closed (take (n - k) (drop k held))) where
  rest_long : length (take (n - k) (drop k held)) ≡ n - k
  rest_long = length-take-le (n - k) (drop k held) (simp length-drop (omega arith))

  left_at : stop.at ≤ n - k
  left_at = omega (arith, rest_long, stop_inside line closed (take (n - k) (drop k held)) stop is)

  pub left_from : k + stop.at ≤ n
  left_from = omega (arith, left_at)

  pub left_fits : Fits w64 (k + stop.at)
  left_fits = omega (arith, left_at)

  pub left_room : (left : List ℕ) → left ≡ padded longest_frame [] → n - (k + stop.at) ≤ length left
  left_room left empty = empty_room longest_frame (n - (k + stop.at)) left empty (omega arith)

  pub left_is : (left left' : List ℕ) → left ≡ padded longest_frame [] → left' ≡ over (take (n - (k + stop.at)) (drop (k + stop.at) held)) left
      → reader_with line closed (n - (k + stop.at)) stop.look left' ≡ settled_reader line closed (take (n - k) (drop k held))
  left_is left left' empty laid =
      let z : n - k - stop.at ≡ n - (k + stop.at) = omega arith in
      let same : take (length (take (n - k) (drop k held)) - stop.at) (drop stop.at (take (n - k) (drop k held)))
      ≡ take (n - (k + stop.at)) (drop (k + stop.at) held) =
      rw (rest_long, drop_take stop.at (n - k) (drop k held), drop-drop stop.at k held, z)
      (take-take (n - (k + stop.at)) (n - (k + stop.at)) (drop (k + stop.at) held) (omega arith)) in
      let front : left' ≡ padded longest_frame (take (length (take (n - k) (drop k held)) - stop.at) (drop stop.at (take (n - k) (drop k held)))) =
      over_empty longest_frame (take (n - (k + stop.at)) (drop (k + stop.at) held)) left left' empty laid ∙ ap (padded longest_frame) (sym same) in
      rw (rest_long, z) at (settled_is line closed (take (n - k) (drop k held)) stop is left' front)

-- the report, its data and what is left
pub report_handed : (reader : Reader) (h l k : ℕ) (rest : Rest) (report : Option Report) (payload left : List ℕ)
    → k ≡ span (header_bytes reader.line.header) reader.head → h ≡ length (header_bytes reader.line.header) → l ≡ body_length reader.head
    → report ≡ told reader.line.checking reader.head (take (h + 1 + l - (h + 1)) (drop (h + 1) reader.held))
    → payload
    ≡ padded most_payload (drop 1 (content_of reader.line.checking (take (body_length reader.head) (drop (length (header_bytes reader.line.header) + 1) reader.held))))
    → reader_with reader.line reader.closed rest.len rest.head left
    ≡ settled_reader reader.line reader.closed (take (reader.len - k) (drop k reader.held))
    → asked_with reader.line (record { report = report; closed = reader.closed && ltb 0 rest.len; rest = rest }) payload left ≡ answer_with_report reader
unfolding answer_with_report
report_handed reader h l k rest report payload left is-k is-h is-l is-report is-payload is-left =
    let z : h + 1 + l - (h + 1) ≡ l = omega arith in
    let body : List ℕ = take (body_length reader.head) (drop (length (header_bytes reader.line.header) + 1) reader.held) in
    let is-told : report ≡ told reader.line.checking reader.head body = is-report ∙ rw (z, is-h, is-l) in
    let next : reader_with reader.line reader.closed rest.len rest.head left
    ≡ settled_reader reader.line reader.closed
    (take (reader.len - span (header_bytes reader.line.header) reader.head) (drop (span (header_bytes reader.line.header) reader.head) reader.held)) =
    rw (← is-k) is-left in
    rw (is-told, is-payload) (ap (ask_gives (told reader.line.checking reader.head body) (padded most_payload (drop 1 (content_of reader.line.checking body)))) next)

module _ (reader : Reader) (k : ℕ) (is-k : k ≡ span (header_bytes reader.line.header) reader.head) where
  pub nothing_handed_asked : (t : Handover) (payload left : List ℕ) → (eqb k 0 || ltb reader.len k || ltb longest_frame reader.len) ≡ true → payload ≡ padded most_payload []
      → t ≡ record { report = None; closed = reader.closed; rest = record { len = reader.len; head = reader.head } } → left ≡ reader.held
      → asked_with reader.line t payload left ≡ asked reader
  nothing_handed_asked t payload left none empty is-t is-left = rw (is-t, is-left) (nothing_asked reader k is-k payload none empty)

  pub report_handed_asked : (a : Asked) → (eqb k 0 || ltb reader.len k || ltb longest_frame reader.len) ≡ false → a ≡ answer_with_report reader → a ≡ asked reader
  unfolding answer_with_report asked
  report_handed_asked a obeyed is =
      let h : ℕ = length (header_bytes reader.line.header) in
      let l : ℕ = body_length reader.head in
      let z : h + 1 + l - (h + 1) ≡ l = omega arith in
      is ∙ report_asked reader k is-k h l (answer_with_report reader).report (answer_with_report reader).payload (answer_with_report reader).reader obeyed refl refl (rw z) (rw z) (rw is-k)

-- the bytes of a reader that takes inputs, at the front of an empty array
pub front_packed : (n : ℕ) (old empty held : List ℕ) → empty ≡ padded longest_frame [] → held ≡ over (take (n - 0) (drop 0 old)) empty → held ≡ padded longest_frame (take n old)
front_packed n old empty held none is = over_empty longest_frame (take (n - 0) (drop 0 old)) empty held none is ∙ ap (λ (k : ℕ). padded longest_frame (take k old)) (sub-zero n)

pub front_room : (reader : Reader) (r : Bool) (empty : List ℕ) → r ≡ busy reader → r ≡ false → empty ≡ padded longest_frame [] → reader.len - 0 ≤ length empty
front_room reader r empty is free none = empty_room longest_frame (reader.len - 0) empty none (omega (arith, old_few reader r is free))

module _ (reader : Reader) (r : Bool) (is : r ≡ busy reader) (free : r ≡ false) (empty held : List ℕ) (none : empty ≡ padded longest_frame [])
    (laid : held ≡ over (take (reader.len - 0) (drop 0 reader.held)) empty) (long : length reader.held ≡ longest_frame) where
  packed : held ≡ padded longest_frame (take reader.len reader.held)
  packed = front_packed reader.len reader.held empty held none laid

  pub front_long : length held ≡ longest_frame
  front_long = rw packed (length_padded longest_frame (take reader.len reader.held) (old_fits reader r is free))

  pub front_held : held ≡ padded longest_frame (take reader.len held)
  front_held = old_front reader r is free long held packed

  pub all_given : (bytes held' : List ℕ) (fed : Fed) → (length bytes ≡ 0 → ⊥)
      → gave fed.used (opened reader.line held' fed.rest.len fed.rest.head) ≡ given_bytes (opened reader.line held reader.len Wait) bytes
      → gave fed.used (opened reader.line held' fed.rest.len fed.rest.head) ≡ given_bytes reader bytes
  all_given = bytes_given reader r is free long held packed
