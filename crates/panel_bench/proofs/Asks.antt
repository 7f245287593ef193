-- Laws of asking for reports: what is lent wrong stays as it is; otherwise each report leaves fewer bytes, so asking more often changes nothing.
use Rattle.std.specs.Prelude.{Err}
use Rattle.std.proofs.Common.{◌≡◌, ℕ, zero, suc, ◌-◌, ◌<◌, ◌≤◌, Bool, true, false, cond, not, ◌&&◌, List, [], ◌∷◌, length, sym, refl, ap, ◌∙◌, arith}
use borrow.Author.Tests.{not-true}
use Rattle.frame.specs.Frame.{longest_frame}
use Rattle.reading.specs.Moves.{waiting, after_report}
use Rattle.reading.proofs.Moves.{report_shorter}
use Rattle.line.specs.declared.Reader.{Reader}
use Rattle.line.specs.declared.Asked.{Asked}
use Rattle.line.specs.State.{rules_for, reader_of}
use Rattle.line.specs.Methods.{busy, asked}
use Rattle.line.proofs.Carried.{waiting_is, ask_carried}
use Rattle.watch.specs.declared.WatchList.{WatchList}
use Rattle.watch.specs.Watched.{Watched, watching, list_of, none_watched}
use Rattle.watch.specs.Judge.{wrong_list}
use Rattle.watch.proofs.Judged.{good_lengths, none_watched_good}
use Rattle.commands.specs.Lent.{Lent, lending}
use Rattle.panel.specs.declared.Panel.{Panel}
use Rattle.panel.specs.declared.LentError.TheVariants as lent_error
use Rattle.panel.specs.declared.Reported.{Reported}
use Rattle.panel.specs.Start.{started}
use Rattle.panel.specs.Inputs.{fed_byte}
use Rattle.panel.specs.Reporting.{enough, enough_lent, well_lent, Reporting, reports, handing, reporting}
use Rattle.panel.specs.Sound.{line_of}
use Rattle.panel.proofs.Soundness.{report_sound}
use Rattle.panel.proofs.Lengths.{reported_words_long, reported_area_long, reported_room_long, reported_list_judged}
use Rattle.panel_bench.specs.Inner.{Ready}
use Rattle.panel_bench.specs.Stream.{weight_of, Running, runs, asked_for, asked_all, streaming, bench_setup, sums, end_of, streamed}

-- ---- What is lent wrong: nothing is handed over, and all stays

-- a refusal, with 14 or with 16, adds nothing
refused_weighs : (b : Bool) → weight_of (cond b (Err lent_error.WrongList) (Err lent_error.NotLent)) ≡ 0
unfolding weight_of
refused_weighs true = refl
refused_weighs false = refl

module _ (lent : Lent) (badly : well_lent lent ≡ false) where
  stuck_asked : (panel : Panel) → asked_for (runs panel lent 0) ≡ runs panel lent 0
  unfolding asked_for reporting
  stuck_asked panel = rw (badly, refused_weighs (enough_lent lent))

  stuck_all : (n : ℕ) (panel : Panel) → asked_all n (runs panel lent 0) ≡ runs panel lent 0
  unfolding asked_all
  stuck_all zero panel = refl
  stuck_all (suc n) panel = go (busy panel.reader) (stuck_all n panel)
    where
      go : (b : Bool) → asked_all n (runs panel lent 0) ≡ runs panel lent 0 → cond b (asked_all n (asked_for (runs panel lent 0))) (runs panel lent 0) ≡ runs panel lent 0
      go true rest = ap (asked_all n) (stuck_asked panel) ∙ rest
      go false rest = refl

  stuck_stream : (panel : Panel) (bytes : List ℕ) → end_of (streaming (runs panel lent 0) bytes) ≡ sums 0 lent
  unfolding streaming
  stuck_stream panel [] = refl
  stuck_stream panel (b ∷ bytes) =
      ap (λ (now : Running). end_of (streaming now bytes)) (stuck_all longest_frame (fed_byte panel b).panel) ∙ stuck_stream (fed_byte panel b).panel bytes

-- with no words watched only the lengths are judged
pub no_list_judged : (words curves room : List ℕ) → well_lent (lending words curves room none_watched) ≡ enough (length words) (length curves) (length room)
no_list_judged words curves room = go (enough (length words) (length curves) (length room))
  where
    go : (b : Bool) → (b && not (wrong_list none_watched)) ≡ b
    go true = rw none_watched_good
    go false = refl

pub none_streamed : (bytes words curves room : List ℕ) (b : Bool) → b ≡ enough (length words) (length curves) (length room) → not b ≡ true
    → sums 0 (lending words curves room none_watched) ≡ streamed bytes (lending words curves room none_watched)
unfolding streamed
none_streamed bytes words curves room b is badly =
    sym (stuck_stream (lending words curves room none_watched) (no_list_judged words curves room ∙ sym is ∙ not-true b badly) (started bench_setup []).panel bytes)

-- ---- A report is asked for with no words watched, and none are left

-- a list with no addresses that is not refused has no values either
no_values : (values : List ℕ) → wrong_list (watching [] [] values) ≡ false → values ≡ []
no_values [] good = refl
no_values (v ∷ values) good = absurd (omega (arith, (good_lengths (watching [] [] (v ∷ values)) good).2))

module _ (panel : Panel) (words curves room words' curves' room' : List ℕ) (r : Reported) where
  none_in_values : (values : List ℕ) → reports r (lending words' curves' room' (watching [] [] values)) ≡ reporting panel (lending words curves room none_watched)
      → reports r (lending words' curves' room' none_watched) ≡ reporting panel (lending words curves room none_watched)
  none_in_values values is =
      let good : wrong_list (watching [] [] values) ≡ false =
      ap (λ (d : Reporting). wrong_list d.lent.watched) is
      ∙ reported_list_judged panel (lending words curves room none_watched)
      ∙ none_watched_good in
      ap (λ (v : List ℕ). reports r (lending words' curves' room' (watching [] [] v))) (sym (no_values values good)) ∙ is

  -- of the list that was lent only the values can be others
  pub none_left : (after : WatchList) → list_of after ≡ watching [] [] after.values.now
      → reports r (lending words' curves' room' (list_of after)) ≡ reporting panel (lending words curves room none_watched)
      → reports r (lending words' curves' room' none_watched) ≡ reporting panel (lending words curves room none_watched)
  none_left after kept is =
      none_in_values after.values.now (ap (λ (w : Watched). reports r (lending words' curves' room' w)) (sym kept) ∙ is)

-- ---- A report that waits is handed over, and leaves fewer bytes

-- how many bytes the reader keeps
abbrev pub kept_by : Running → ℕ
kept_by now = now.panel.reader.len

pub kept_at_most : (now : Running) → Ready now → kept_by now ≤ longest_frame
kept_at_most now ready =
    let reads = ready.sound.reads in
    let long : kept_by now ≡ length reads.kept.bytes = ap (λ (r : Reader). r.len) reads.is in
    omega (arith, reads.reached.few)

pub asked_ready : (now : Running) → Ready now → Ready (asked_for now)
unfolding asked_for
asked_ready now ready =
    record {
      sound = report_sound now.panel ready.sound now.lent;
      lent = rw (reported_words_long now.panel now.lent, reported_area_long now.panel now.lent, reported_room_long now.panel now.lent, reported_list_judged now.panel now.lent) ready.lent;
    }

pub asked_fewer : (now : Running) → Ready now → busy now.panel.reader ≡ true → kept_by (asked_for now) < kept_by now
unfolding asked_for reporting handing
asked_fewer now ready is_busy =
    let line = line_of now.panel.setup in
    let kept = ready.sound.reads.kept in
    let reached = ready.sound.reads.reached in
    let same : now.panel.reader ≡ reader_of line kept = ready.sound.reads.is in
    let waits : waiting (rules_for line) kept ≡ true = sym (waiting_is line kept reached) ∙ ap (λ (r : Reader). busy r) (sym same) ∙ is_busy in
    let before : now.panel.reader.len ≡ length kept.bytes = ap (λ (r : Reader). r.len) same in
    let after : (asked now.panel.reader).reader.len ≡ length (after_report (rules_for line) kept).bytes =
    ap (λ (r : Reader). (asked r).reader.len) same ∙ ap (λ (a : Asked). a.reader.len) (ask_carried line kept reached.few) in
    rw ready.lent (omega (arith, report_shorter (rules_for line) kept waits))

-- ---- Asking again and again

pub none_asked : (n : ℕ) (now : Running) → busy now.panel.reader ≡ false → asked_all n now ≡ now
unfolding asked_all
none_asked zero now quiet = refl
none_asked (suc n) now quiet = rw quiet

one_asked : (n : ℕ) (now : Running) → busy now.panel.reader ≡ true → asked_all (suc n) now ≡ asked_all n (asked_for now)
unfolding asked_all
one_asked n now is = rw is

enough_asked : (n : ℕ) (now : Running) → Ready now → kept_by now ≤ n → asked_all (suc n) now ≡ asked_all n now
enough_asked zero now ready few = go (busy now.panel.reader) refl
  where
    go : (b : Bool) → busy now.panel.reader ≡ b → asked_all 1 now ≡ asked_all 0 now
    go true is = absurd (omega (arith, asked_fewer now ready is))
    go false is = none_asked 1 now is ∙ sym (none_asked 0 now is)
enough_asked (suc n) now ready few = go (busy now.panel.reader) refl (enough_asked n (asked_for now) (asked_ready now ready))
  where
    go : (b : Bool) → busy now.panel.reader ≡ b → (kept_by (asked_for now) ≤ n → asked_all (suc n) (asked_for now) ≡ asked_all n (asked_for now))
        → asked_all (suc (suc n)) now ≡ asked_all (suc n) now
    go true is rest = one_asked (suc n) now is ∙ rest (omega (arith, asked_fewer now ready is)) ∙ sym (one_asked n now is)
    go false is rest = none_asked (suc (suc n)) now is ∙ sym (none_asked (suc n) now is)

-- a report that waits is the first of all
pub first_asked : (now : Running) → Ready now → busy now.panel.reader ≡ true → asked_all longest_frame now ≡ asked_all longest_frame (asked_for now)
first_asked now ready is =
    one_asked (longest_frame - 1) now is
    ∙ sym (enough_asked (longest_frame - 1) (asked_for now) (asked_ready now ready) (omega (arith, asked_fewer now ready is, kept_at_most now ready)))
