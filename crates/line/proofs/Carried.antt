-- The methods on a reader that keeps something are the moves of crate reading: what is proved of the moves holds of the code.
use mathlib.Core.Path.{◌≡◌, refl, sym, ap, ◌∙◌}
use mathlib.Core.Bool.{Bool, true, false, cond, not, ◌&&◌}
use mathlib.Core.List.{List, [], ◌∷◌, ◌++◌, append_assoc}
use Rattle.std.specs.Prelude.{None, Ok, Err}
use Prim.Native.Nat.{ℕ, suc, ◌+◌, ◌-◌, ◌≤◌, ◌<◌}
use native.Mathlib.Omega.{arith}
use borrow.Author.Tests.{lt-ltb, le-ltb, ne_eqb}
use lib.Dec.{ltb}
use lib.ListN.{length, take, drop, length-append, length-drop}
use lib.Seq.{drop_at, take-append_seam, take-nil}
use Rattle.wire.specs.Bytes.{Bytes}
use Rattle.frame.specs.Frame.{header_bytes, check_length, content_of, longest_frame, most_payload}
use Rattle.reading.specs.Place.{Rules, Seen, pass, wait, bad, accepted, look, report_of, gone_by, is_wait}
use Rattle.reading.specs.Moves.{Kept, fresh, is_pass, is_report, passes, settled, waiting, with_byte, with_mark, handed, after_report}
use Rattle.reading.specs.Demand3.{one_less_than_longest}
use Rattle.reading.proofs.Stable.{true_is_not_false}
use Rattle.reading.proofs.Waiting.{closed_goes_on}
use Rattle.reading.proofs.Accepting.{accepted_begun}
use Rattle.reading.proofs.ByteLists.{bytes_nil, bytes_cons, bytes_append, bytes_drop}
use Rattle.reading.proofs.Settling.{Settled, neither}
use Rattle.reading.proofs.Moves.{some_kept, report_settles}
use Rattle.reading.proofs.Bounded.{quiet_bound}
use Rattle.reading.proofs.AfterMark.{from_closed_quiet}
use Rattle.place.specs.Looks.{shown}
use Rattle.place.proofs.Stops.{look_nothing}
use Rattle.line.specs.declared.Line.{Line}
use Rattle.line.specs.declared.Reader.{Reader}
use Rattle.line.specs.declared.Waiting.TheVariants.{ReportWaits}
use Rattle.line.specs.declared.Asked.{Asked}
use Rattle.line.specs.State.{rules_for, padded, reader_of, kept_of}
use Rattle.line.specs.Methods.{is_answer, busy, gives, given_byte, given_mark, asked}
use Rattle.line.specs.Reached.{Reached, report_as, payload_as}
use Rattle.line.proofs.Padding.{take_padded}
use Rattle.line.proofs.Settling.{left_stands}
use Rattle.line.proofs.Asking.{ask_gives}

-- a reader that keeps something keeps just that
pub kept_is : (line : Line) (kept : Kept) → kept_of (reader_of line kept) ≡ kept
kept_is line kept = ap (λ (xs : List ℕ). record { closed = kept.closed; bytes = xs }) (take_padded longest_frame (length kept.bytes) kept.bytes refl)

shown_report : (seen : Seen) → is_answer (shown seen) ≡ is_report seen
unfolding is_report
shown_report pass = refl
shown_report wait = refl
shown_report (bad body) = refl
shown_report (accepted body) = refl

-- what is reached is at rest: where no report waits, the stretch is open and its first place waits
open_wait : (rules : Rules) (closed : Bool) (xs : List ℕ) → is_wait (look rules closed xs) ≡ true → (closed ≡ false) × (is_wait (look rules false xs) ≡ true)
open_wait rules false xs waits = (refl, waits)
open_wait rules true xs waits = true_is_not_false (sym waits ∙ closed_goes_on rules xs)

at_rest : (line : Line) (kept : Kept) → Reached line kept → Settled (rules_for line) kept
unfolding waiting
at_rest line kept reached = record { is_open = λ quiet. (rest quiet).0; first_waits = λ quiet. (rest quiet).1 }
  where
    seen : Seen
    seen = look (rules_for line) kept.closed kept.bytes

    rest : is_report seen ≡ false → (kept.closed ≡ false) × (is_wait (look (rules_for line) false kept.bytes) ≡ true)
    rest quiet = open_wait (rules_for line) kept.closed kept.bytes (neither seen reached.stands quiet)

-- while no report waits, less than the longest frame is held
pub held_below_longest : (line : Line) (kept : Kept) → Reached line kept → waiting (rules_for line) kept ≡ false
    → length kept.bytes ≤ one_less_than_longest (header_bytes line.header)
held_below_longest line kept reached none = quiet_bound (rules_for line) kept (at_rest line kept reached) reached.are_bytes none

-- "at most 258": so at most 257, with two header bytes
pub held_waiting : (line : Line) (kept : Kept) → Reached line kept → waiting (rules_for line) kept ≡ false → length kept.bytes ≤ 257
unfolding header_bytes
held_waiting line kept reached none = held_below_longest line kept reached none

-- whether a report waits
head_waiting : (line : Line) (kept : Kept) → is_answer (reader_of line kept).head ≡ waiting (rules_for line) kept
unfolding waiting
head_waiting line kept = shown_report (look (rules_for line) kept.closed kept.bytes)

not_free : (a b : Bool) → b ≡ true → not (a && not b) ≡ true
not_free true b is = rw is
not_free false b is = refl

pub waiting_is : (line : Line) (kept : Kept) → Reached line kept → busy (reader_of line kept) ≡ waiting (rules_for line) kept
waiting_is line kept reached = go (waiting (rules_for line) kept) refl
  where
    go : (b : Bool) → waiting (rules_for line) kept ≡ b → busy (reader_of line kept) ≡ b
    go true is = not_free (ltb (length kept.bytes) longest_frame) (is_answer (reader_of line kept).head) (head_waiting line kept ∙ is)
    go false is =
        let room : length kept.bytes < longest_frame = omega (arith, held_waiting line kept reached is) in
        rw (head_waiting line kept ∙ is, lt-ltb (length kept.bytes) longest_frame room)

-- a byte and a mark
pub byte_carried : (line : Line) (kept : Kept) (b : ℕ) → Reached line kept → given_byte (reader_of line kept) b
    ≡ cond (waiting (rules_for line) kept) (gives (Err ReportWaits) (reader_of line kept)) (gives (Ok tt) (reader_of line (with_byte (rules_for line) kept b)))
unfolding given_byte
byte_carried line kept b reached = rw (waiting_is line kept reached, take_padded longest_frame (length kept.bytes) kept.bytes refl)

pub mark_carried : (line : Line) (kept : Kept) → Reached line kept → given_mark (reader_of line kept)
    ≡ cond (waiting (rules_for line) kept) (gives (Err ReportWaits) (reader_of line kept)) (gives (Ok tt) (reader_of line (with_mark (rules_for line) kept)))
unfolding given_mark
mark_carried line kept reached = rw (waiting_is line kept reached, take_padded longest_frame (length kept.bytes) kept.bytes refl)

-- what stands reached stays reached
reached_settled : (line : Line) (closed : Bool) (xs : List ℕ) → Bytes xs → length xs ≤ longest_frame → Reached line (settled (rules_for line) closed xs)
unfolding settled
reached_settled line closed xs are few =
    record {
      are_bytes = bytes_drop (passes (rules_for line) closed xs) xs are;
      few = simp length-drop (omega arith);
      stands = left_stands (rules_for line) closed xs;
    }

pub reached_new : (line : Line) → Reached line fresh
unfolding is_pass
reached_new line = record { are_bytes = λ i. omega arith; few = omega arith; stands = rw (look_nothing (rules_for line)) }

pub reached_byte : (line : Line) (kept : Kept) (b : ℕ) → Reached line kept → waiting (rules_for line) kept ≡ false → b < 256
    → Reached line (with_byte (rules_for line) kept b)
unfolding with_byte
reached_byte line kept b reached none byte =
    let few : length (kept.bytes ++ (b ∷ [])) ≤ longest_frame = simp length-append (omega (arith, held_waiting line kept reached none)) in
    reached_settled line false (kept.bytes ++ (b ∷ [])) (bytes_append kept.bytes (b ∷ []) reached.are_bytes (bytes_cons b [] byte bytes_nil)) few

pub reached_mark : (line : Line) (kept : Kept) → Reached line kept → Reached line (with_mark (rules_for line) kept)
unfolding with_mark
reached_mark line kept reached = reached_settled line true kept.bytes reached.are_bytes reached.few

pub reached_report : (line : Line) (kept : Kept) → Reached line kept → Reached line (after_report (rules_for line) kept)
unfolding after_report
reached_report line kept reached = go (is_report seen)
  where
    seen : Seen
    seen = look (rules_for line) kept.closed kept.bytes

    rest : List ℕ
    rest = drop (suc (gone_by (rules_for line) seen)) kept.bytes

    go : (b : Bool) → Reached line (cond b (settled (rules_for line) kept.closed rest) kept)
    go true =
        let most : length kept.bytes ≤ longest_frame = reached.few in
        let few : length rest ≤ longest_frame = simp length-drop (omega arith) in
        reached_settled line kept.closed rest (bytes_drop (suc (gone_by (rules_for line) seen)) kept.bytes reached.are_bytes) few
    go false = reached

-- an accepted frame's L bytes stand behind header and length byte
record Body (header xs body : List ℕ) : Type 0 where
  whole : length header + 1 + length body ≤ length xs
  body_is : take (length body) (drop (length header + 1) xs) ≡ body

accepted_there : (rules : Rules) (closed : Bool) (xs body : List ℕ) → look rules closed xs ≡ accepted body → Body rules.header xs body
accepted_there rules closed xs body is =
    let header = rules.header in
    let begun = accepted_begun rules closed xs body is in
    let front : length (header ++ (length body ∷ [])) ≡ length header + 1 = length-append header (length body ∷ []) in
    let parts : xs ≡ (header ++ (length body ∷ [])) ++ (body ++ begun.rest) =
    begun.parts ∙ sym (append_assoc header (length body ∷ []) (body ++ begun.rest)) in
    let behind-it : drop (length header + 1) xs ≡ body ++ begun.rest =
    ap (drop (length header + 1)) parts ∙ drop_at (header ++ (length body ∷ [])) (body ++ begun.rest) (length header + 1) front in
    let long : length xs ≡ length header + 1 + (length body + length begun.rest) = ap length parts ∙ simp length-append in
    record { whole = omega arith; body_is = rw behind-it (take-append_seam body begun.rest) }

-- an ask
abbrev headed : Line → Kept → Seen → Reader
headed line kept seen =
    record { line = line; held = padded longest_frame kept.bytes; len = length kept.bytes; closed = kept.closed; head = shown seen }

abbrev answered : Line → Kept → Seen → Asked
answered line kept seen =
    record {
      report = report_as (report_of (rules_for line) seen);
      payload = payload_as (report_of (rules_for line) seen);
      reader = reader_of line (cond (is_report seen) (settled (rules_for line) kept.closed (drop (suc (gone_by (rules_for line) seen)) kept.bytes)) kept);
    }

none_handed : (line : Line) (kept : Kept) (seen : Seen) → look (rules_for line) kept.closed kept.bytes ≡ seen
    → ask_gives None (padded most_payload []) (headed line kept seen) ≡ ask_gives None (padded most_payload []) (reader_of line kept)
none_handed line kept seen is = ap (λ (s : Seen). ask_gives None (padded most_payload []) (headed line kept s)) (sym is)

no_content : (checking : Bool) → content_of checking [] ≡ []
unfolding content_of
no_content checking = take-nil (length {A = ℕ} [] - check_length checking)

module _ (line : Line) (kept : Kept) (few : length kept.bytes ≤ longest_frame) where
  front : take (length kept.bytes) (padded longest_frame kept.bytes) ≡ kept.bytes
  front = take_padded longest_frame (length kept.bytes) kept.bytes refl

  bad_handed : (body : List ℕ) → 1 ≤ length kept.bytes → asked (headed line kept (bad body)) ≡ answered line kept (bad body)
  unfolding asked report_of report_as payload_as is_report gone_by
  bad_handed body some =
      rw (le-ltb (length kept.bytes) 1 some, le-ltb longest_frame (length kept.bytes) few, front, no_content line.checking)

  accepted_handed : (body : List ℕ) → Body (header_bytes line.header) kept.bytes body
      → asked (headed line kept (accepted body)) ≡ answered line kept (accepted body)
  unfolding asked report_of report_as payload_as is_report gone_by
  accepted_handed body there =
      let h : ℕ = length (header_bytes line.header) in
      let k : ℕ = h + 1 + length body in
      let fits : k ≤ length kept.bytes = there.whole in
      let some : k ≡ 0 → ⊥ = λ e. omega arith in
      let next : suc (h + length body) ≡ k = omega arith in
      rw (ne_eqb k 0 some, le-ltb (length kept.bytes) k fits, le-ltb longest_frame (length kept.bytes) few, front, there.body_is, next)

  asked_as : (seen : Seen) → look (rules_for line) kept.closed kept.bytes ≡ seen → asked (headed line kept seen) ≡ answered line kept seen
  unfolding asked look report_of report_as payload_as is_report
  asked_as pass is = none_handed line kept pass is
  asked_as wait is = none_handed line kept wait is
  asked_as (bad body) is = bad_handed body (some_kept (rules_for line) kept.closed kept.bytes (ap is_report is))
  asked_as (accepted body) is =
      accepted_handed body (accepted_there (rules_for line) kept.closed kept.bytes body is)

  pub ask_carried : asked (reader_of line kept) ≡ record {
    report = report_as (handed (rules_for line) kept);
    payload = payload_as (handed (rules_for line) kept);
    reader = reader_of line (after_report (rules_for line) kept);
  }
  unfolding handed after_report
  ask_carried = asked_as (look (rules_for line) kept.closed kept.bytes) refl

-- "After a quiet mark and its reports .. reading goes on as from a new panel": once nothing waits behind a mark, or behind a report of a stretch
-- that a mark closed, the reader equals a new one
pub mark_over : (line : Line) (kept : Kept) → waiting (rules_for line) (with_mark (rules_for line) kept) ≡ false
    → reader_of line (with_mark (rules_for line) kept) ≡ reader_of line fresh
unfolding with_mark
mark_over line kept none = ap (reader_of line) (from_closed_quiet (rules_for line) kept.bytes none)

pub report_over : (line : Line) (kept : Kept) → kept.closed ≡ true → waiting (rules_for line) kept ≡ true
    → waiting (rules_for line) (after_report (rules_for line) kept) ≡ false
    → reader_of line (after_report (rules_for line) kept) ≡ reader_of line fresh
report_over line kept closed waits none =
    let behind-it : List ℕ = drop (suc (gone_by (rules_for line) (look (rules_for line) kept.closed kept.bytes))) kept.bytes in
    let next : after_report (rules_for line) kept ≡ settled (rules_for line) true behind-it =
    report_settles (rules_for line) kept waits ∙ ap (λ (c : Bool). settled (rules_for line) c behind-it) closed in
    ap (reader_of line) (next ∙ from_closed_quiet (rules_for line) behind-it (rw next at none))
