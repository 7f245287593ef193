-- Laws of a stream: bytes that are given and reports that are handed over lead nearer to its end.
use Rattle.std.specs.Prelude.{Ok}
use Rattle.std.proofs.Common.{◌≡◌, ℕ, suc, ◌+◌, ◌-◌, ◌*◌, ◌^◌, ◌<◌, ◌≤◌, min, Bool, true, false, List, [], ◌∷◌, ◌++◌, length, take, drop, sym, refl, ap, ◌∙◌, subst, arith, length-drop, take-append-drop, drop_of_length-le, take_all, length-take}
use Rattle.std.proofs.lemmas.Bool.Decides.{nat_tests}
use Rattle.std.specs.Bool.{◌==◌}
use native.Mathlib.Nat.{add-mod-mod}
use lib.Seq.{drop-append-le}
use Rattle.wire.specs.Bytes.{Bytes}
use Rattle.frame.specs.Frame.{longest_frame}
use Rattle.reading.specs.Moves.{fresh}
use Rattle.reading.proofs.Stable.{true_is_not_false}
use Rattle.reading.proofs.Settling.{quiet_nil}
use Rattle.reading.proofs.ByteLists.{bytes_drop, bytes_take}
use Rattle.line.specs.State.{rules_for}
use Rattle.line.specs.Methods.{busy, given_bytes}
use Rattle.line.proofs.Carried.{waiting_is, reached_new}
use Rattle.touch.specs.declared.Setup.{Setup}
use Rattle.touch.specs.Table.{records_from, first_of}
use Rattle.touch.specs.Judge.{judged}
use Rattle.watch.specs.Watched.{none_watched}
use Rattle.commands.specs.Lent.{Lent, lending}
use Rattle.panel.specs.declared.Panel.{Panel}
use Rattle.panel.specs.declared.FedBytes.{FedBytes}
use Rattle.panel.specs.declared.Reported.{Reported}
use Rattle.panel.specs.declared.Start.{Start}
use Rattle.panel.specs.Start.{new_panel, started, start_judged}
use Rattle.panel.specs.Inputs.{fed_byte, fed_bytes}
use Rattle.panel.specs.Reporting.{enough, Reporting, reports, reporting}
use Rattle.panel.specs.Sound.{line_of, Sound}
use Rattle.panel.proofs.Soundness.{new_sound, bytes_sound}
use Rattle.panel_bench.specs.Inner.{Ready, flow}
use Rattle.panel_bench.specs.Stream.{wrapped, weight_of, Running, runs, asked_for, asked_all, streaming, bench_setup, Streamed, sums, end_of, streamed}
use Rattle.panel_bench.proofs.Asks.{kept_by, kept_at_most, no_list_judged, asked_ready, asked_fewer, none_asked, first_asked}

-- ---- Bytes

abbrev with_panel : Running → Panel → Running
with_panel now panel = runs panel now.lent now.sum

byte_flows : (now : Running) (b : ℕ) (bytes : List ℕ) → busy now.panel.reader ≡ false → flow now (b ∷ bytes) ≡ flow (with_panel now (fed_byte now.panel b).panel) bytes
unfolding flow streaming
byte_flows now b bytes quiet = ap (λ (n : Running). streaming n (b ∷ bytes)) (none_asked longest_frame now quiet)

-- what is given at once is given byte by byte
pub record Took (now : Running) (bs : List ℕ) (fed : FedBytes) : Type 0 where
  pub within : fed.used ≤ length bs
  pub some : busy now.panel.reader ≡ false → 0 < length bs → 0 < fed.used
  pub flows : (more : List ℕ) → flow now (bs ++ more) ≡ flow (with_panel now fed.panel) (drop fed.used bs ++ more)

took : (now : Running) (bs : List ℕ) → Took now bs (fed_bytes now.panel bs)
unfolding fed_bytes given_bytes fed_byte
took now [] = record { within = omega arith; some = λ quiet some. some; flows = λ more. refl }
took now (b ∷ bs) = go (busy now.panel.reader) refl (took (with_panel now (fed_byte now.panel b).panel) bs)
  where
    go : (w : Bool) → busy now.panel.reader ≡ w → Took (with_panel now (fed_byte now.panel b).panel) bs (fed_bytes (fed_byte now.panel b).panel bs)
        → Took now (b ∷ bs) (fed_bytes now.panel (b ∷ bs))
    go true waits rest = rw waits
        (record { within = omega arith; some = λ quiet long. true_is_not_false (sym waits ∙ quiet); flows = λ more. refl })
    go false quiet rest =
        let used = (fed_bytes (fed_byte now.panel b).panel bs).used in
        let one_more : 1 + used ≡ suc used = omega arith in
        rw (quiet, one_more)
        (record {
          within = omega (arith, rest.within);
          some = λ is long. omega arith;
          flows = λ more. byte_flows now b (bs ++ more) quiet ∙ rest.flows more;
        })

-- ---- On the way through the input

-- what is still to flow leads to the end of the whole
pub record Flowing (whole : Streamed) (panel : Panel) (lent : Lent) (sum : ℕ) (rest : List ℕ) : Type 0 where
  pub ready : Ready (runs panel lent sum)
  pub are_bytes : Bytes rest
  pub left : end_of (flow (runs panel lent sum) rest) ≡ whole

-- how many turns there can be still: each byte is given once, and leaves no more than the longest frame to be asked for
abbrev pub turns_left : List ℕ → Panel → ℕ
turns_left rest panel = length rest * (longest_frame + 1) + panel.reader.len

begins : started bench_setup [] ≡ record { answer = Ok tt; panel = new_panel bench_setup }
unfolding started start_judged judged records_from first_of new_panel
begins = refl

starts_sound : Sound (started bench_setup []).panel
starts_sound = subst (λ (s : Start). Sound s.panel) (sym begins) (new_sound bench_setup refl)

starts_quiet : busy (started bench_setup []).panel.reader ≡ false
unfolding new_panel
starts_quiet =
    ap (λ (s : Start). busy s.panel.reader) begins
    ∙ waiting_is (line_of bench_setup) fresh (reached_new (line_of bench_setup))
    ∙ quiet_nil (rules_for (line_of bench_setup)) false

module _ (input words curves room : List ℕ) (setup : Setup) (begun : Start) (is-setup : setup ≡ bench_setup) (is-begun : begun ≡ started setup []) where
  panel_is : begun.panel ≡ (started bench_setup []).panel
  panel_is = ap (λ (s : Start). s.panel) is-begun ∙ ap (λ (s : Setup). (started s []).panel) is-setup

  pub ready_new : (b : Bool) → b ≡ enough (length words) (length curves) (length room) → b ≡ true
      → Ready (runs begun.panel (lending words curves room none_watched) 0)
  ready_new b is well =
      record { sound = subst Sound (sym panel_is) starts_sound; lent = no_list_judged words curves room ∙ sym is ∙ well }

  pub all_streamed : (r : ℕ) (left : Lent) → sums r left ≡ end_of (flow (runs begun.panel (lending words curves room none_watched) 0) input)
      → sums r left ≡ streamed input (lending words curves room none_watched)
  unfolding flow streamed
  all_streamed r left is =
      let lent = lending words curves room none_watched in
      is
      ∙ ap (λ (panel : Panel). end_of (flow (runs panel lent 0) input)) panel_is
      ∙ ap (λ (now : Running). end_of (streaming now input)) (none_asked longest_frame (runs (started bench_setup []).panel lent 0) starts_quiet)

pub flowing_new : (input : List ℕ) (panel : Panel) (lent : Lent) → Ready (runs panel lent 0) → Bytes input → Flowing (end_of (flow (runs panel lent 0) input)) panel lent 0 input
flowing_new input panel lent ready are = record { ready = ready; are_bytes = are; left = refl }

module _ (whole : Streamed) (panel : Panel) (lent : Lent) (sum : ℕ) (rest : List ℕ) (so_far : Flowing whole panel lent sum rest)
    (w : Bool) (is-w : w ≡ busy panel.reader) where
  abbrev now : Running
  now = runs panel lent sum

  -- a report is asked for
  module _ (r : Reported) (left : Lent) (is-r : reports r left ≡ reporting panel lent) (waits : w ≡ true) where
    pub flowing_asked : (v s : ℕ) → v ≡ wrapped (weight_of r.handed) → s ≡ wrapped (sum + v) → Flowing whole r.panel left s rest
    unfolding asked_for flow
    flowing_asked v s is-v is-s =
        let added : s ≡ wrapped (sum + weight_of r.handed) = is-s ∙ ap (λ (n : ℕ). wrapped (sum + n)) is-v ∙ add-mod-mod sum (weight_of r.handed) (2 ^ 64) in
        let next : asked_for now ≡ runs r.panel left s =
        ap (λ (d : Reporting). runs d.reported.panel d.lent (wrapped (sum + weight_of d.reported.handed))) (sym is-r)
        ∙ ap (runs r.panel left) (sym added) in
        record {
          ready = subst Ready next (asked_ready now so_far.ready);
          are_bytes = so_far.are_bytes;
          left = ap (λ (n : Running). end_of (streaming (asked_all longest_frame n) rest)) (sym next)
              ∙ ap (λ (n : Running). end_of (streaming n rest)) (sym (first_asked now so_far.ready (sym is-w ∙ waits)))
              ∙ so_far.left;
        }

    pub fewer_turns_asked : turns_left rest r.panel < turns_left rest panel
    unfolding asked_for
    fewer_turns_asked =
        let next : kept_by (asked_for now) ≡ r.panel.reader.len = ap (λ (d : Reporting). d.reported.panel.reader.len) (sym is-r) in
        omega (arith, next, asked_fewer now so_far.ready (sym is-w ∙ waits))

  -- where nothing waits and no byte is left
  pub flowed : (e : Bool) → e ≡ (length rest == 0) → w ≡ false → e ≡ true → sums sum lent ≡ whole
  unfolding flow streaming
  flowed e is-e quiet none =
      let past : length rest ≤ 0 = grind (arith, nat_tests) in
      ap end_of (sym (none_asked longest_frame now (sym is-w ∙ quiet)))
      ∙ ap (λ (bs : List ℕ). end_of (flow now bs)) (sym (drop_of_length-le rest past))
      ∙ so_far.left

  -- up to k of the bytes left are given
  module _ (fed : FedBytes) (k : ℕ) (is-fed : fed ≡ fed_bytes panel (take k rest)) where
    gone : Took now (take k rest) fed
    gone = subst (λ (f : FedBytes). Took now (take k rest) f) (sym is-fed) (took now (take k rest))

    part_long : length (take k rest) ≤ length rest
    part_long = simp length-take (omega arith)

    pub given_inside : fed.used ≤ length rest
    given_inside = omega (arith, gone.within, part_long)

    -- what is left behind the bytes that were taken, as the code cuts it out
    abbrev onward : List ℕ
    onward = take (length rest - fed.used) (drop fed.used rest)

    all_onward : onward ≡ drop fed.used rest
    all_onward = take_all (length rest - fed.used) (drop fed.used rest) (simp length-drop (omega arith))

    pub flowing_given : Flowing whole fed.panel lent sum onward
    flowing_given =
        let part = take k rest in
        let split : part ++ drop k rest ≡ rest = take-append-drop k rest in
        let behind : drop fed.used part ++ drop k rest ≡ drop fed.used rest =
        sym (drop-append-le fed.used part (drop k rest) gone.within) ∙ ap (drop fed.used) split in
        let flows : flow now rest ≡ flow (runs fed.panel lent sum) (drop fed.used rest) =
        ap (flow now) (sym split) ∙ gone.flows (drop k rest) ∙ ap (flow (runs fed.panel lent sum)) behind in
        rw all_onward
        (record {
          ready = record {
            sound = subst (λ (f : FedBytes). Sound f.panel) (sym is-fed) (bytes_sound panel so_far.ready.sound part (bytes_take k rest so_far.are_bytes));
            lent = so_far.ready.lent;
          };
          are_bytes = bytes_drop fed.used rest so_far.are_bytes;
          left = ap end_of (sym flows) ∙ so_far.left;
        })

    pub fewer_turns_given : (e : Bool) → e ≡ (length rest == 0) → k ≡ min (length rest) 4096 → w ≡ false → e ≡ false
        → turns_left onward fed.panel < turns_left rest panel
    fewer_turns_given e is-e is-k quiet more =
        let some : 0 < length rest = grind (arith, nat_tests) in
        let long : 0 < length (take k rest) = simp length-take (omega arith) in
        let fewer : length onward ≡ length rest - fed.used = ap length all_onward ∙ length-drop fed.used rest in
        omega (arith, fewer, kept_at_most (runs fed.panel lent sum) flowing_given.ready, gone.within, part_long, gone.some (sym is-w ∙ quiet) long)
