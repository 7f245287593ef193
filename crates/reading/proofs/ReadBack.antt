-- 01, "Frame": "Its frame alone, under that header and choice, reads back as one accepted report."
use mathlib.Core.Path.{◌≡◌, refl, sym, ap, ◌∙◌}
use mathlib.Core.Bool.{Bool, true, false}
use mathlib.Core.List.{List, [], ◌∷◌, ◌++◌, map, append_assoc, append-nil}
use Prim.Native.Nat.{ℕ, suc, ◌+◌, ◌≤◌}
use native.Mathlib.Omega.{arith}
use lib.ListN.{length, drop, length-append}
use lib.Seq.{drop_at}
use Rattle.frame.specs.Frame.{check_bytes, length_byte, enclosed, framed, frame_of, most_data, GoodFrame}
use Rattle.frame.proofs.GoodFrames.{frame_of_good, content_of_body}
use Rattle.reading.specs.Place.{Rules, accepted, Report, accepted_frame, look, report_of, gone_by, is_wait}
use Rattle.reading.specs.Stretch.{reports, held_of}
use Rattle.reading.specs.Line.{byte, mark, line_reports}
use Rattle.reading.specs.Demand3.{report_of_frame}
use Rattle.reading.proofs.Accepting.{good_accepted}
use Rattle.reading.proofs.Course.{GoesOn, reports_nil, held_nil, place_goes_on}
use Rattle.reading.proofs.Lines.{open_line, closed_line}

module _ (rules : Rules) (closed : Bool) (frame ys : List ℕ) (good : GoodFrame rules.checking rules.header frame) where
  -- "go to p+3+L": right behind the frame
  gone_past : drop (suc (gone_by rules (accepted good.body))) (frame ++ ys) ≡ ys
  unfolding gone_by
  gone_past =
      let body = good.body in
      let long : length frame ≡ suc (length rules.header + length body) = ap length good.whole ∙ simp length-append (omega arith) in
      drop_at frame ys (suc (length rules.header + length body)) long

  -- a good frame is reported, and reading goes on right behind it
  pub good_goes_on : GoesOn rules closed (frame ++ ys) (report_of rules (accepted good.body)) ys
  unfolding is_wait
  good_goes_on =
      rw gone_past at (place_goes_on rules closed (frame ++ ys) (accepted good.body) (good_accepted rules closed frame ys good) refl)

-- the L bytes of a good frame are those behind its length byte
pub body_of : (checking : Bool) (header frame : List ℕ) (good : GoodFrame checking header frame) → good.body ≡ drop (suc (length header)) frame
body_of checking header frame good =
    let body = good.body in
    let prefix : length (header ++ (length body ∷ [])) ≡ suc (length header) = simp length-append (omega arith) in
    sym (
    ap (drop (suc (length header))) (good.whole ∙ sym (append_assoc header (length body ∷ []) body))
    ∙ drop_at (header ++ (length body ∷ [])) body (suc (length header)) prefix
    )

-- the rules of a header and a checking choice
abbrev pub rules_of : List ℕ → Bool → Rules
rules_of header checking = record { header = header; checking = checking }

-- the L bytes of the frame for a command and its data
abbrev pub body_for : Bool → ℕ → List ℕ → List ℕ
body_for checking command payload = (command ∷ payload) ++ check_bytes checking (command ∷ payload)

module _ (checking : Bool) (header : List ℕ) (command : ℕ) (payload : List ℕ) where
  body_behind : drop (suc (length header)) (frame_of checking header command payload) ≡ body_for checking command payload
  unfolding frame_of framed enclosed
  body_behind =
      let l = length_byte checking (command ∷ payload) in
      let prefix : length (header ++ (l ∷ [])) ≡ suc (length header) = simp length-append (omega arith) in
      drop_at (header ++ (l ∷ [])) (body_for checking command payload) (suc (length header)) prefix

  frame_report : report_of (rules_of header checking) (accepted (body_for checking command payload)) ≡ accepted_frame command payload ∷ []
  unfolding report_of
  frame_report = rw (content_of_body checking (command ∷ payload))

  -- the report of a frame, read off its bytes, is of its command and data
  pub report_of_frame_frame_of : report_of_frame (rules_of header checking) (frame_of checking header command payload) ≡ accepted_frame command payload
  unfolding report_of_frame
  report_of_frame_frame_of = rw (body_behind, content_of_body checking (command ∷ payload))

  module _ (within : length payload ≤ most_data checking) where
    body_is : (frame_of_good checking header command payload within).body ≡ body_for checking command payload
    body_is = body_of checking header (frame_of checking header command payload) (frame_of_good checking header command payload within) ∙ body_behind

    -- at the frame's first byte, whatever follows
    pub frame_accepted : (closed : Bool) (ys : List ℕ)
        → look (rules_of header checking) closed (frame_of checking header command payload ++ ys) ≡ accepted (body_for checking command payload)
    frame_accepted closed ys =
        good_accepted (rules_of header checking) closed (frame_of checking header command payload) ys (frame_of_good checking header command payload within)
        ∙ ap accepted body_is

    -- it is reported, and reading goes on right behind it
    pub frame_goes_on : (closed : Bool) (ys : List ℕ)
        → GoesOn (rules_of header checking) closed (frame_of checking header command payload ++ ys) (accepted_frame command payload ∷ []) ys
    frame_goes_on closed ys =
        let good = frame_of_good checking header command payload within in
        let report = ap (λ (b : List ℕ). report_of (rules_of header checking) (accepted b)) body_is ∙ frame_report in
        rw report at (good_goes_on (rules_of header checking) closed (frame_of checking header command payload) ys good)

    -- demand 2: "What our frame writer writes, our reader reads back as the same command and data", with the stretch open or closed
    pub read_back : (closed : Bool) → reports (rules_of header checking) closed (frame_of checking header command payload) ≡ accepted_frame command payload ∷ []
    read_back closed =
        ap (reports (rules_of header checking) closed) (sym (append-nil (frame_of checking header command payload)))
        ∙ (frame_goes_on closed []).reported
        ∙ ap (λ (r : List Report). accepted_frame command payload ∷ r) (reports_nil (rules_of header checking) closed)

    pub read_back_holds_nothing : held_of (rules_of header checking) (frame_of checking header command payload) ≡ []
    unfolding held_of
    read_back_holds_nothing =
        ap (held_of (rules_of header checking)) (sym (append-nil (frame_of checking header command payload)))
        ∙ (frame_goes_on false []).left
        ∙ held_nil (rules_of header checking) false

    -- "alone": on a line of its bytes and nothing else, and with a mark behind
    pub read_back_line : line_reports (rules_of header checking) (map byte (frame_of checking header command payload)) ≡ accepted_frame command payload ∷ []
    read_back_line = open_line (rules_of header checking) (frame_of checking header command payload) ∙ read_back false

    pub read_back_mark : line_reports (rules_of header checking) (map byte (frame_of checking header command payload) ++ (mark ∷ []))
        ≡ accepted_frame command payload ∷ []
    read_back_mark = closed_line (rules_of header checking) (frame_of checking header command payload) ∙ read_back true
