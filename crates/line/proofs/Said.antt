-- What an input is answered says the number that 01's list gives; what an ask is answered, the values.
use mathlib.Core.Path.{◌≡◌, refl, ap, ◌∙◌}
use mathlib.Core.Bool.{Bool, true, false, cond, not, ◌||◌}
use mathlib.Core.List.{List, [], ◌∷◌}
use Rattle.std.specs.Prelude.{Some, None, Ok, Err}
use Prim.Native.Nat.{ℕ, ◌+◌}
use native.Mathlib.Omega.{arith}
use borrow.Author.Tests.{ne_eqb}
use lib.Dec.{eqb, ltb}
use lib.ListN.{length, get_or, drop}
use Rattle.wire.specs.Numbers.{first_said}
use Rattle.frame.specs.Frame.{header_bytes, content_of, longest_frame, most_payload}
use Rattle.place.specs.declared.Look.{Look}
use Rattle.place.specs.declared.Look.TheVariants.{Pass, Wait, Bad, Good}
use Rattle.line.specs.declared.Reader.{Reader}
use Rattle.line.specs.declared.Given.{Given}
use Rattle.line.specs.declared.Waiting.TheVariants.{ReportWaits}
use Rattle.line.specs.declared.Report.TheVariants.{Accepted, BadCheck}
use Rattle.line.specs.declared.Asked.{Asked}
use Rattle.line.specs.State.{padded}
use Rattle.line.specs.Methods.{number_of_answer, busy, gives, answer_said, input_listed, input_said, given_byte, given_mark, is_answer, span, told, asked}
use Rattle.line.specs.Front.{report_said, hands_nothing, is_bad, bad_command, front_body, front_command, front_content, front_listed, front_said}
use Rattle.line.proofs.Asking.{ask_gives}

refused_or_done : (reader next : Reader) (w : Bool) → busy reader ≡ w
    → answer_said (cond w (gives (Err ReportWaits) reader) (gives (Ok tt) next)).answer ≡ input_said reader
unfolding answer_said number_of_answer input_listed first_said
refused_or_done reader next true is = rw is
refused_or_done reader next false is = rw is

pub byte_said : (r : Given) (reader : Reader) (b : ℕ) → r ≡ given_byte reader b → (r ≡ given_byte reader b) × (answer_said r.answer ≡ input_said reader)
unfolding given_byte
byte_said r reader b is = (is, ap (λ (g : Given). answer_said g.answer) is ∙ refused_or_done reader _ (busy reader) refl)

pub mark_said : (r : Given) (reader : Reader) → r ≡ given_mark reader → (r ≡ given_mark reader) × (answer_said r.answer ≡ input_said reader)
unfolding given_mark
mark_said r reader is = (is, ap (λ (g : Given). answer_said g.answer) is ∙ refused_or_done reader _ (busy reader) refl)

-- an ask
nothing_same : (header : List ℕ) (head : Look) → eqb (span header head) 0 ≡ not (is_answer head)
nothing_same header Pass = refl
nothing_same header Wait = refl
nothing_same header (Bad command) = refl
nothing_same header (Good l) = ne_eqb (length header + 1 + l) 0 (λ e. omega arith)

-- what is handed over, by what stands at the front
pub front_report : (reader : Reader) → (asked reader).report
    ≡ cond (hands_nothing reader) None
    (cond (is_bad reader.head) (Some (BadCheck (bad_command reader.head))) (Some (Accepted (front_command reader) (length (front_content reader)))))
unfolding asked hands_nothing front_command front_content
front_report reader =
    let header : List ℕ = header_bytes reader.line.header in
    rw (nothing_same header reader.head)
    (go reader.head (ltb reader.len (span header reader.head)) (ltb longest_frame reader.len) (front_body reader) _ _ _)
  where
    checking : Bool
    checking = reader.line.checking

    go : (head : Look) (a b : Bool) (body empty payload : List ℕ) (next : Reader)
        → (cond (not (is_answer head) || a || b) (ask_gives None empty reader) (ask_gives (told checking head body) payload next)).report
        ≡ cond (not (is_answer head) || a || b) None
        (cond (is_bad head) (Some (BadCheck (bad_command head))) (Some (Accepted (get_or body 0 0) (length (drop 1 (content_of checking body))))))
    go Pass a b body empty payload next = refl
    go Wait a b body empty payload next = refl
    go (Bad command) true b body empty payload next = refl
    go (Bad command) false true body empty payload next = refl
    go (Bad command) false false body empty payload next = refl
    go (Good l) true b body empty payload next = refl
    go (Good l) false true body empty payload next = refl
    go (Good l) false false body empty payload next = refl

-- the data that stands beside a report
pub front_payload : (reader : Reader) → hands_nothing reader ≡ false → (asked reader).payload ≡ padded most_payload (front_content reader)
unfolding asked hands_nothing front_content
front_payload reader hands = rw (nothing_same (header_bytes reader.line.header) reader.head, hands)

front_as_listed : (reader : Reader) → report_said (asked reader).report ≡ front_said reader
unfolding report_said front_listed first_said
front_as_listed reader = ap report_said (front_report reader) ∙ go (hands_nothing reader) (is_bad reader.head) _ _ _
  where
    go : (none bad : Bool) (c x y : ℕ)
        → report_said (cond none None (cond bad (Some (BadCheck c)) (Some (Accepted x y)))) ≡ cond none [] (cond bad (c ∷ []) (x ∷ y ∷ []))
    go true bad c x y = refl
    go false true c x y = refl
    go false false c x y = refl

pub ask_said : (r : Asked) (reader : Reader) → r ≡ asked reader → (r ≡ asked reader) × (report_said r.report ≡ front_said reader)
ask_said r reader is = (is, ap (λ (a : Asked). report_said a.report) is ∙ front_as_listed reader)
