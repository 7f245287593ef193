-- Laws of `all_reports`: each report leaves fewer of the bytes kept, at most as many as the longest frame has, so asking more often changes nothing.
use mathlib.Core.Path.{◌≡◌, refl, sym, ap, ◌∙◌}
use mathlib.Core.Bool.{Bool, true, false}
use mathlib.Core.List.{[]}
use Prim.Native.Nat.{ℕ, zero, suc, ◌-◌, ◌≤◌, ◌<◌}
use native.Mathlib.Omega.{arith}
use borrow.Author.Tests.{eq-eqb}
use lib.ListN.{length}
use Rattle.wire.specs.Addresses.{word_count}
use Rattle.curves.specs.Area.{curve_words}
use Rattle.frame.specs.Frame.{longest_frame}
use Rattle.reading.specs.Moves.{Kept, waiting, after_report}
use Rattle.reading.proofs.Moves.{report_shorter}
use Rattle.line.specs.declared.Line.{Line}
use Rattle.line.specs.declared.Reader.{Reader}
use Rattle.line.specs.declared.Asked.{Asked}
use Rattle.line.specs.State.{rules_for, reader_of}
use Rattle.line.specs.Methods.{busy, asked}
use Rattle.line.proofs.Carried.{waiting_is, ask_carried}
use Rattle.wire.proofs.Truths.{and_right}
use Rattle.watch.proofs.Judged.{none_watched_good}
use Rattle.panel.specs.declared.Panel.{Panel}
use Rattle.panel.specs.Reporting.{enough as lengths_lent, well_lent, handing, reporting}
use Rattle.panel.specs.Sound.{line_of, Sound}
use Rattle.telling.specs.Memory.{Memory, lent_from, Whole}
use Rattle.telling.specs.Events.{reply_room, asked_once}
use Rattle.items.specs.Stages.{is_started}
use Rattle.trace.specs.State.{Held, Shown, shows, following, waits}
use Rattle.trace.specs.Events.{report_shown}
use Rattle.trace.specs.Output.{all_reports}
use Rattle.printing.specs.Reached.{HeldSound, kept_by}
use Rattle.printing.proofs.ByTest.{by_test}
use Rattle.printing.proofs.HeldSound.{waits_started, report_held_sound}

-- ---- A report that waits is handed over, and leaves fewer bytes

-- with all of the memory and no watched words lent, the reader is left as asking it leaves it
all_lent : (memory : Memory) → Whole memory → well_lent (lent_from memory reply_room) ≡ true
unfolding lengths_lent reply_room
all_lent memory whole =
    rw (eq-eqb (length memory.words) word_count whole.words, eq-eqb (length memory.curves) curve_words whole.curves, none_watched_good)

module _ (panel : Panel) (memory : Memory) (sound : Sound panel) (is_busy : busy panel.reader ≡ true) where
  abbrev line_is : Line
  line_is = line_of panel.setup

  abbrev kept_is : Kept
  kept_is = sound.reads.kept

  is_waiting : waiting (rules_for line_is) kept_is ≡ true
  is_waiting = sym (waiting_is line_is kept_is sound.reads.reached) ∙ ap (λ (r : Reader). busy r) (sym sound.reads.is) ∙ is_busy

  asked_is : asked panel.reader ≡ asked (reader_of line_is kept_is)
  asked_is = ap (λ (r : Reader). asked r) sound.reads.is

  reader_left : Whole memory → (asked_once panel memory).panel.reader ≡ (asked panel.reader).reader
  unfolding asked_once reporting handing
  reader_left whole = rw (all_lent memory whole)

  pub report_less : Whole memory → (asked_once panel memory).panel.reader.len < panel.reader.len
  report_less whole =
      let before : panel.reader.len ≡ length kept_is.bytes = ap (λ (r : Reader). r.len) sound.reads.is in
      let left : (asked_once panel memory).panel.reader ≡ reader_of line_is (after_report (rules_for line_is) kept_is) =
      reader_left whole ∙ ap (λ (a : Asked). a.reader) (asked_is ∙ ask_carried line_is kept_is sound.reads.reached.few) in
      let after : (asked_once panel memory).panel.reader.len ≡ length (after_report (rules_for line_is) kept_is).bytes = ap (λ (r : Reader). r.len) left in
      omega (arith, report_shorter (rules_for line_is) kept_is is_waiting)

-- ---- Asking again and again

pub report_fewer : (held : Held) → HeldSound held → waits held.trace ≡ true → kept_by (report_shown held).held < kept_by held
unfolding is_started
report_fewer held sound is =
    let begun : is_started held.trace.stage ≡ true = waits_started held sound is in
    let full : busy held.trace.panel.reader ≡ true = and_right (is_started held.trace.stage) (busy held.trace.panel.reader) is in
    rw begun (report_less held.trace.panel held.memory (sound.panel begun) full sound.memory)

-- never more bytes are kept than the longest frame has
pub kept_at_most : (held : Held) → HeldSound held → kept_by held ≤ longest_frame
kept_at_most held sound =
    by_test (λ (n : ℕ). n ≤ longest_frame) (is_started held.trace.stage) _ _
    (λ is.
    let reads = (sound.panel is).reads in
    let long : held.trace.panel.reader.len ≡ length reads.kept.bytes = ap (λ (r : Reader). r.len) reads.is in
    omega (arith, reads.reached.few))
    (λ none. omega arith)

pub none_reported : (n : ℕ) (held : Held) → waits held.trace ≡ false → all_reports n held ≡ shows held []
unfolding all_reports
none_reported zero held quiet = refl
none_reported (suc n) held quiet = rw quiet

one_reported : (n : ℕ) (held : Held) → waits held.trace ≡ true
    → all_reports (suc n) held ≡ following (report_shown held).text (all_reports n (report_shown held).held)
unfolding all_reports
one_reported n held is = rw is

enough : (n : ℕ) (held : Held) → HeldSound held → kept_by held ≤ n → all_reports (suc n) held ≡ all_reports n held
enough zero held sound few = go (waits held.trace) refl
  where
    go : (b : Bool) → waits held.trace ≡ b → all_reports 1 held ≡ all_reports 0 held
    go true is = absurd (omega (arith, report_fewer held sound is))
    go false is = none_reported 1 held is ∙ sym (none_reported 0 held is)
enough (suc n) held sound few = go (waits held.trace) refl (enough n (report_shown held).held)
  where
    go : (b : Bool) → waits held.trace ≡ b
        → (HeldSound (report_shown held).held → kept_by (report_shown held).held ≤ n → all_reports (suc n) (report_shown held).held ≡ all_reports n (report_shown held).held)
        → all_reports (suc (suc n)) held ≡ all_reports (suc n) held
    go true is rest =
        one_reported (suc n) held is
        ∙ ap (λ (s : Shown). following (report_shown held).text s) (rest (report_held_sound held sound is) (omega (arith, report_fewer held sound is)))
        ∙ sym (one_reported n held is)
    go false is rest = none_reported (suc (suc n)) held is ∙ sym (none_reported (suc n) held is)

-- a report that waits is the first of all
pub first_reported : (held : Held) → HeldSound held → waits held.trace ≡ true
    → all_reports longest_frame held ≡ following (report_shown held).text (all_reports longest_frame (report_shown held).held)
first_reported held sound is =
    one_reported (longest_frame - 1) held is
    ∙ ap (λ (s : Shown). following (report_shown held).text s)
    (sym (enough (longest_frame - 1) (report_shown held).held (report_held_sound held sound is) (omega (arith, report_fewer held sound is, kept_at_most held sound))))
