-- Laws of the end of the input, and of a new trace.
use Rattle.std.specs.Prelude.{Option, None, Some, Ok, Err}
use mathlib.Core.Path.{◌≡◌, refl, sym, ap, ◌∙◌}
use mathlib.Core.Bool.{Bool, true, false, cond, ◌&&◌}
use mathlib.Core.List.{List, []}
use Prim.Native.Nat.{ℕ, ◌*◌, ◌-◌, ◌≤◌, ◌<◌, min}
use native.Mathlib.Omega.{arith}
use borrow.Author.Tests.{eq-eqb, ne_eqb, leb-true}
use lib.Dec.{eqb, leb}
use lib.ListN.{length, take}
use Rattle.wire.specs.Room.{Laid, lays, laid}
use Rattle.wire.proofs.Over.{over_nil}
use Rattle.wire.proofs.Truths.{and_left, and_right}
use Rattle.touch.specs.Table.{record_bytes}
use Rattle.registers.specs.Touched.{page_of}
use Rattle.panel.specs.declared.Panel.{Panel}
use Rattle.panel.specs.declared.Start.{Start}
use Rattle.panel.specs.Answers.{StartAnswer}
use Rattle.panel.specs.declared.StartError.TheVariants as start_error
use Rattle.panel.specs.Numbers.{start_number}
use Rattle.panel.specs.Start.{started}
use Rattle.text.specs.declared.Line.{Line}
use Rattle.text.specs.declared.Line.TheVariants as line
use Rattle.text.specs.Text.{line_text}
use Rattle.telling.specs.Inner.{prints}
use Rattle.telling.specs.Told.{least_text}
use Rattle.telling.proofs.Printing.{line_printed}
use Rattle.items.specs.declared.Stage.{Stage}
use Rattle.items.specs.declared.Stage.TheVariants.{Bare, Ready, Started, Over}
use Rattle.trace.specs.declared.Trace.{Trace}
use Rattle.trace.specs.declared.LentError.TheVariants.{NotLent}
use Rattle.items.specs.Items.{no_item}
use Rattle.items.specs.Records.{kept_records, table_bytes, table_of}
use Rattle.trace.specs.State.{new_trace}
use Rattle.trace.specs.Inner.{named, last_line, page_or_refusal, last_at, last_of}
use Rattle.trace.specs.Lines.{refusal_text, wrong_text}
use Rattle.trace.specs.Events.{started_by}
use Rattle.trace.specs.Output.{end_answered, end_started, end_at, end_text, ends, ending}
use Rattle.trace.proofs.Items.{table_part}

-- ---- The last line of a trace that had a setup

module _ (answer : StartAnswer) (panel : Panel) where
  pub started_line : (page : ℕ) → answer ≡ Ok tt → page ≡ page_of panel.registers → line.End page ≡ last_line answer panel
  unfolding last_line
  started_line page is is-page = ap line.End is-page ∙ ap (λ (a : StartAnswer). last_line a panel) (sym is)

  pub setup_line : answer ≡ Err start_error.WrongSetup → line.Failed 11 ≡ last_line answer panel
  unfolding last_line
  setup_line is = ap (λ (a : StartAnswer). last_line a panel) (sym is)

  pub table_line : answer ≡ Err start_error.NotRecords → line.Failed 12 ≡ last_line answer panel
  unfolding last_line
  table_line is = ap (λ (a : StartAnswer). last_line a panel) (sym is)

  pub wrong_record_line : (i : ℕ) → answer ≡ Err (start_error.WrongRecord i) → line.WrongRecord i ≡ last_line answer panel
  unfolding last_line
  wrong_record_line i is = ap (λ (a : StartAnswer). last_line a panel) (sym is)

pub number_below : (answer : StartAnswer) (i : ℕ) → named answer < 256 → answer ≡ Err (start_error.WrongRecord i) → i < 256
unfolding named
number_below answer i few is = let same : named answer ≡ i = ap named is in omega arith

answered_line : (answer : StartAnswer) (panel : Panel) → end_answered answer panel ≡ line_text (last_line answer panel)
unfolding end_answered refusal_text start_number last_line
answered_line (Ok tt) panel = refl
answered_line (Err start_error.WrongSetup) panel = refl
answered_line (Err start_error.NotRecords) panel = refl
answered_line (Err (start_error.WrongRecord i)) panel = refl

module _ (trace : Trace) (table : List ℕ) (long : ℕ) (is_long : long ≡ min trace.records kept_records * record_bytes) (begun : Start)
    (is-begun : begun ≡ started_by trace (take long table)) where
  the_part : take long table ≡ table_of trace.records table
  the_part = table_part trace.records table long is_long

  pub page_said : (l : Line) → l ≡ last_line begun.answer begun.panel → l ≡ page_or_refusal trace table
  unfolding page_or_refusal
  page_said l is-l = is-l ∙ ap (λ (s : Start). last_line s.answer s.panel) (is-begun ∙ ap (λ (l : List ℕ). started_by trace l) the_part)

module _ (trace : Trace) (table : List ℕ) where
  pub cut_item : (trace.have ≡ 0 → ⊥) → Some (line.Failed 15) ≡ last_of trace table
  unfolding last_of
  cut_item some = rw (ne_eqb trace.have 0 some)

  module _ (whole : trace.have ≡ 0) where
    at_stage : (stage : Stage) → trace.stage ≡ stage → last_at stage trace table ≡ last_of trace table
    unfolding last_of
    at_stage stage is = rw (eq-eqb trace.have 0 whole) (ap (λ (s : Stage). last_at s trace table) (sym is))

    pub no_setup : trace.stage ≡ Bare → Some (line.Failed 15) ≡ last_of trace table
    unfolding last_at
    no_setup is = at_stage Bare is

    pub last_page : (l : Line) → (trace.stage ≡ Bare → ⊥) → (trace.stage ≡ Over → ⊥) → l ≡ page_or_refusal trace table → Some l ≡ last_of trace table
    unfolding last_at
    last_page l some going is-l = ap Some is-l ∙ go trace.stage refl
      where
        go : (stage : Stage) → trace.stage ≡ stage → Some (page_or_refusal trace table) ≡ last_of trace table
        go Bare is = absurd (some is)
        go Ready is = at_stage Ready is
        go Started is = at_stage Started is
        go Over is = absurd (going is)

    pub after_failure : trace.stage ≡ Over → None ≡ last_of trace table
    unfolding last_at
    after_failure is = at_stage Over is

-- ---- What it prints

unfoldable closing_text : Option Line → List ℕ
closing_text None = []
closing_text (Some l) = line_text l

page_text : (trace : Trace) (table : List ℕ) → line_text (page_or_refusal trace table) ≡ end_started trace table
unfolding page_or_refusal end_started
page_text trace table =
    let begun = started_by trace (table_of trace.records table) in
    sym (answered_line begun.answer begun.panel)

stage_text : (stage : Stage) (trace : Trace) (table : List ℕ) → closing_text (last_at stage trace table) ≡ end_at stage trace table
unfolding closing_text last_at end_at wrong_text
stage_text Bare trace table = refl
stage_text Ready trace table = page_text trace table
stage_text Started trace table = page_text trace table
stage_text Over trace table = refl

last_text : (trace : Trace) (table : List ℕ) → closing_text (last_of trace table) ≡ end_text trace table
unfolding closing_text last_of end_text wrong_text
last_text trace table = go (eqb trace.have 0)
  where
    go : (b : Bool) → closing_text (cond b (last_at trace.stage trace table) (Some (line.Failed 15))) ≡ cond b (end_at trace.stage trace table) (line_text (line.Failed 15))
    go true = stage_text trace.stage trace table
    go false = refl

module _ (trace : Trace) (table room : List ℕ) (c : Option Line) (is_c : c ≡ last_of trace table) where
  so : (d : Option Line) → c ≡ d → prints (closing_text d) room ≡ prints (end_text trace table) room
  so d is = ap (λ (l : List ℕ). prints l room) (ap closing_text (sym is ∙ is_c) ∙ last_text trace table)

  pub nothing_printed : c ≡ None → lays 0 room ≡ prints (end_text trace table) room
  unfolding closing_text
  nothing_printed is = ap (λ (l : List ℕ). lays 0 l) (sym (over_nil room)) ∙ so None is

  pub last_printed : (l : Line) (n : ℕ) (left : List ℕ) → c ≡ Some l → least_text ≤ length room
      → lays n left ≡ laid (leb (length (line_text l)) (length room)) (line_text l) room → lays n left ≡ prints (end_text trace table) room
  unfolding closing_text
  last_printed l n left is wide e = line_printed l room left n wide e ∙ so (Some l) is

module _ (trace : Trace) (table room : List ℕ) where
  pub lent_ends : (n : ℕ) (left : List ℕ) → (leb table_bytes (length table) && leb least_text (length room)) ≡ true → lays n left ≡ prints (end_text trace table) room
      → ends (record { answer = Ok tt; count = n }) left ≡ ending trace table room
  unfolding ending
  lent_ends n left is e = rw is (ap (λ (l : Laid). ends (record { answer = Ok tt; count = l.count }) l.room) e)

  pub not_lent_ends : (leb table_bytes (length table) && leb least_text (length room)) ≡ false → ends (record { answer = Err NotLent; count = 0 }) room ≡ ending trace table room
  unfolding ending
  not_lent_ends is = rw is

module _ (table room : ℕ) (is : (leb table_bytes table && leb least_text room) ≡ true) where
  pub table_long : table_bytes ≤ table
  table_long = leb-true table_bytes table (and_left (leb table_bytes table) (leb least_text room) is)

  pub room_long : least_text ≤ room
  room_long = leb-true least_text room (and_right (leb table_bytes table) (leb least_text room) is)

pub new_made : (none : Start) (item : List ℕ) (table : List ℕ)
    → none ≡ started (record { h1 = 0; h2 = 0; flags = 0; pages = 0; width = 0; height = 0 }) table → item ≡ no_item
    → record {
      stage = Bare;
      item = item;
      have = 0;
      setup = record { h1 = 0; h2 = 0; flags = 0; pages = 0; width = 0; height = 0 };
      records = 0;
      panel = none.panel;
    } ≡ new_trace
unfolding new_trace started
new_made none item table is is-item = rw is-item (ap (λ (s : Start). record { stage = Bare; item = no_item; have = 0; setup = record { h1 = 0; h2 = 0; flags = 0; pages = 0; width = 0; height = 0 }; records = 0; panel = s.panel }) is)
