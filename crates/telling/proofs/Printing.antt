-- Laws of text laid over a room: that it fits, and one text behind another.
use Rattle.std.specs.Prelude.{Option, None, Some, Ok, Err}
use mathlib.Core.Path.{◌≡◌, sym, ap, ◌∙◌}
use mathlib.Core.List.{List, [], ◌++◌}
use Prim.Native.Nat.{ℕ, ◌+◌, ◌-◌, ◌≤◌}
use native.Mathlib.Omega.{arith}
use borrow.Author.Tests.{le-leb}
use lib.Dec.{leb}
use lib.ListN.{length, take, drop, length-append, length-drop}
use lib.Seq.{length-take-le}
use Rattle.wire.specs.Room.{over, Laid, lays, laid}
use Rattle.wire.proofs.Over.{over_nil, over_part}
use Rattle.wire.proofs.Parts.{part_whole}
use Rattle.frame.specs.Frame.{longest_frame}
use Rattle.frame.specs.Writer.{least_room}
use Rattle.commands.specs.Outcome.{Outcome}
use Rattle.commands.specs.Outcome as Outcome
use Rattle.panel.specs.Answers.{AskAnswer}
use Rattle.panel.specs.declared.Handed.TheVariants as handed
use Rattle.panel.specs.declared.Handed.{Handed}
use Rattle.panel.specs.declared.LentError.{LentError}
use Rattle.panel.specs.declared.LentError.TheVariants as lent_error
use Rattle.text.specs.declared.Line.{Line}
use Rattle.text.specs.Text.{line_text, written_text}
use Rattle.text.specs.declared.Line.TheVariants as line
use Rattle.text.proofs.Lengths.{line_text_length_le, written_text_length_le}
use Rattle.telling.specs.Told.{least_text}
use Rattle.telling.specs.Inner.{written_bytes, longest_line, acknowledgement_bytes, prints, replied_by, acknowledged_by}
use Rattle.telling.specs.Lines.{frames_text, report_text}

-- what fits is laid whole
fitting : (s room : List ℕ) → length s ≤ length room → laid (leb (length s) (length room)) s room ≡ prints s room
unfolding laid
fitting s room fits = rw (le-leb (length s) (length room) fits)

pub line_printed : (line : Line) (room left : List ℕ) (k : ℕ) → least_text ≤ length room
    → lays k left ≡ laid (leb (length (line_text line)) (length room)) (line_text line) room → lays k left ≡ prints (line_text line) room
line_printed line room left k wide is = is ∙ fitting (line_text line) room (omega (arith, line_text_length_le line))

-- one text behind another
behind : (s t room left part : List ℕ) (k m : ℕ) → lays k left ≡ prints s room → lays m part ≡ prints t (take (length left - k) (drop k left))
    → lays (k + m) (take k left ++ (part ++ drop (length left - k) (drop k left))) ≡ prints (s ++ t) room
behind s t room left part k m first second =
    let k-is : k ≡ length s = ap (λ (l : Laid). l.count) first in
    let m-is : m ≡ length t = ap (λ (l : Laid). l.count) second in
    let left_is : left ≡ over s room = ap (λ (l : Laid). l.room) first in
    let part-is : part ≡ over t (take (length left - k) (drop k left)) = ap (λ (l : Laid). l.room) second in
    let sum : k + m ≡ length (s ++ t) = rw (length-append, k-is, m-is) in
    let room_is = over_part s t room left part k (sym k-is) left_is part-is in
    ap (λ (n : ℕ). lays n (take k left ++ (part ++ drop (length left - k) (drop k left)))) sum
    ∙ ap (λ (l : List ℕ). lays (length (s ++ t)) l) room_is

-- ---- An acknowledgement and a reply

module _ (a : ℕ) (reply room left : List ℕ) (k : ℕ) (short : a ≤ acknowledgement_bytes) (long : length reply ≡ least_room) where
  acknowledgement_short : length (written_text (take a reply)) ≤ written_bytes acknowledgement_bytes
  acknowledgement_short = omega (arith, written_text_length_le (take a reply), length-take-le a reply (omega arith))

  module _ (wide : written_bytes acknowledgement_bytes ≤ length room) (is : lays k left ≡ laid (leb (length (written_text (take a reply))) (length room)) (written_text (take a reply)) room) where
    pub acknowledgement_printed : lays k left ≡ prints (written_text (take a reply)) room
    acknowledgement_printed = is ∙ fitting (written_text (take a reply)) room (omega (arith, acknowledgement_short))

    pub acknowledgement_count : k ≤ written_bytes acknowledgement_bytes
    acknowledgement_count =
        let k-is : k ≡ length (written_text (take a reply)) = ap (λ (l : Laid). l.count) acknowledgement_printed in
        omega (arith, acknowledgement_short)

  module _ (r : ℕ) (brief : r ≤ longest_frame) where
    reply_is : take (a + r - a) (drop a reply) ≡ take r (drop a reply)
    reply_is =
        let r-is : a + r - a ≡ r = omega arith in
        ap (λ (n : ℕ). take n (drop a reply)) r-is

    reply_short : length (written_text (take r (drop a reply))) ≤ written_bytes longest_frame
    reply_short =
        let inside : r ≤ length (drop a reply) = rw length-drop (omega arith) in
        omega (arith, written_text_length_le (take r (drop a reply)), length-take-le r (drop a reply) inside)

    module _ (wide : written_bytes longest_frame ≤ length room)
        (is : lays k left ≡ laid (leb (length (written_text (take (a + r - a) (drop a reply)))) (length room)) (written_text (take (a + r - a) (drop a reply))) room)
      where
        pub reply_printed : lays k left ≡ prints (written_text (take r (drop a reply))) room
        reply_printed =
            is ∙ ap (λ (s : List ℕ). laid (leb (length (written_text s)) (length room)) (written_text s) room) reply_is
            ∙ fitting (written_text (take r (drop a reply))) room (omega (arith, reply_short))

        pub reply_count : k ≤ written_bytes longest_frame
        reply_count =
            let k-is : k ≡ length (written_text (take r (drop a reply))) = ap (λ (l : Laid). l.count) reply_printed in
            omega (arith, reply_short)

pub frames_printed : (a r k m : ℕ) (reply room left part : List ℕ) → lays k left ≡ prints (written_text (take a reply)) room
    → lays m part ≡ prints (written_text (take r (drop a reply))) (take (length left - k) (drop k left))
    → lays (k + m) (take k left ++ (part ++ drop (length left - k) (drop k left))) ≡ prints (frames_text a r reply) room
unfolding frames_text
frames_printed a r k m reply room left part first second = behind (written_text (take a reply)) (written_text (take r (drop a reply))) room left part k m first second

-- ---- A line, then what was written

pub line_count : (line : Line) (room left : List ℕ) (k : ℕ) → least_text ≤ length room
    → lays k left ≡ laid (leb (length (line_text line)) (length room)) (line_text line) room → k ≤ longest_line
line_count line room left k wide is =
    let k-is : k ≡ length (line_text line) = ap (λ (l : Laid). l.count) (line_printed line room left k wide is) in
    omega (arith, line_text_length_le line)

pub line_and_frames : (line : Line) (a r k m : ℕ) (reply room left part : List ℕ) → lays k left ≡ prints (line_text line) room
    → lays m part ≡ prints (frames_text a r reply) (take (length left - k) (drop k left))
    → lays (k + m) (take k left ++ (part ++ drop (length left - k) (drop k left))) ≡ prints (line_text line ++ frames_text a r reply) room
line_and_frames line a r k m reply room left part first second = behind (line_text line) (frames_text a r reply) room left part k m first second

-- the part behind a text is long enough for the next
pub part_long : (left : List ℕ) (n k : ℕ) → k + n ≤ length left → n ≤ length (take (length left - k) (drop k left))
part_long left n k fits = omega (arith, ap length (part_whole left k) ∙ length-drop k left)

-- ---- A report

empty_printed : (room : List ℕ) → lays 0 room ≡ prints [] room
empty_printed room = ap (λ (l : List ℕ). lays 0 l) (sym (over_nil room))

module _ (h : AskAnswer) (reply room : List ℕ) where
  pub refused_printed : (why : LentError) → h ≡ Err why → lays 0 room ≡ prints (report_text h reply) room
  unfolding report_text
  refused_printed lent_error.NotLent is = rw is (empty_printed room)
  refused_printed lent_error.WrongList is = rw is (empty_printed room)

  pub nothing_printed : (report : Option Handed) → h ≡ Ok report → report ≡ None → lays 0 room ≡ prints (report_text h reply) room
  unfolding report_text
  nothing_printed report is none = rw (is, none) (empty_printed room)

module _ (h : AskAnswer) (report : Option Handed) (one : Handed) (is : h ≡ Ok report) (some : report ≡ Some one) where
  module _ (command a : ℕ) (bad : one ≡ handed.BadCheck command a) where
    pub bad_short : acknowledged_by h ≤ acknowledgement_bytes → a ≤ acknowledgement_bytes
    unfolding acknowledged_by
    bad_short short = rw (is, some, bad) at short

    pub bad_printed : (k : ℕ) (reply room left : List ℕ) → lays k left ≡ prints (line_text (line.BadCheck command) ++ frames_text a 0 reply) room
        → lays k left ≡ prints (report_text h reply) room
    unfolding report_text
    bad_printed k reply room left e = rw (is, some, bad) e

  module _ (command count a r : ℕ) (outcome : Outcome) (good : one ≡ handed.Accepted command count outcome a r) where
    pub accepted_short : acknowledged_by h ≤ acknowledgement_bytes → a ≤ acknowledgement_bytes
    unfolding acknowledged_by
    accepted_short short = rw (is, some, good) at short

    pub accepted_brief : replied_by h ≤ longest_frame → r ≤ longest_frame
    unfolding replied_by
    accepted_brief brief = rw (is, some, good) at brief

    pub accepted_printed : (n k : ℕ) (reply room left : List ℕ) → n ≡ Outcome.number_of_outcome outcome
        → lays k left ≡ prints (line_text (line.Frame command n) ++ frames_text a r reply) room → lays k left ≡ prints (report_text h reply) room
    unfolding report_text
    accepted_printed n k reply room left number e = rw (is, some, good) (rw number at e)
