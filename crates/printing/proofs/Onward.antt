-- Laws of `step`: what is printed from before a step is its text and what is printed from behind it.
use mathlib.Core.Path.{◌≡◌, refl, sym, ap, ◌∙◌}
use mathlib.Core.Logic.{◌⊎◌, inl, inr}
use mathlib.Core.Bool.{Bool, true, false, ◌&&◌}
use mathlib.Core.List.{List, [], ◌∷◌, ◌++◌}
use Prim.Native.Nat.{ℕ, zero, suc, ◌+◌, ◌*◌, ◌≤◌, ◌<◌}
use native.Mathlib.Omega.{arith}
use borrow.Author.Tests.{eqb-true, eqb-false}
use lib.Dec.{eqb}
use lib.ListN.{length, drop, length-drop}
use Rattle.wire.specs.Bytes.{Bytes}
use Rattle.frame.specs.Frame.{longest_frame}
use Rattle.reading.proofs.ByteLists.{bytes_nil, bytes_cons}
use Rattle.line.specs.Methods.{busy, given_bytes}
use Rattle.wire.proofs.Truths.{never, and_left, and_right}
use Rattle.panel.specs.declared.Panel.{Panel}
use Rattle.panel.specs.Inputs.{fed_byte, fed_bytes}
use Rattle.telling.specs.Memory.{Memory}
use Rattle.items.specs.declared.Stage.{Stage}
use Rattle.items.specs.declared.Stage.TheVariants.{Bare, Ready, Started, Over}
use Rattle.trace.specs.declared.Trace.{Trace}
use Rattle.items.specs.Items.{no_item}
use Rattle.items.specs.Stages.{is_started}
use Rattle.items.specs.Runs.{line_run}
use Rattle.trace.specs.State.{Held, holds, shows, with_panel, with_trace, waits}
use Rattle.trace.specs.Steps.{Step, takes, ran_bytes, took_one, longest_run, took_lines, took_input, step}
use Rattle.printing.specs.Reached.{HeldSound, kept_by, output_from}
use Rattle.printing.specs.Feeding.{calls_each}
use Rattle.printing.proofs.ByTest.{by_test}
use Rattle.printing.proofs.HeldSound.{byte_held_sound, report_held_sound, run_held_sound}
use Rattle.printing.proofs.AllReports.{report_fewer, kept_at_most}
use Rattle.printing.proofs.Outputs.{report_output, byte_output, fed_none, fed_more, between, run_output}

-- a step leaves what is sound, what is printed before it is its text and what is printed behind it, and one that has something to do comes nearer to the end
pub record Onward (held : Held) (chunk rest : List ℕ) (s : Step) : Type 0 where
  pub sound : HeldSound s.shown.held
  pub within : s.used ≤ length chunk
  pub prints : output_from held (chunk ++ rest) ≡ s.shown.text ++ output_from s.shown.held (drop s.used chunk ++ rest)
  pub nearer : (waits held.trace ≡ true) ⊎ (0 < length chunk)
      → length (drop s.used chunk) * calls_each + kept_by s.shown.held < length chunk * calls_each + kept_by held

one_onward : (held : Held) (chunk rest : List ℕ) → HeldSound held → Bytes chunk → waits held.trace ≡ false
    → Onward held chunk rest (took_one held chunk)
unfolding took_one
one_onward held [] rest sound are quiet = record { sound = sound; within = omega arith; prints = refl; nearer = some }
  where
    some : (waits held.trace ≡ true) ⊎ (0 < length {A = ℕ} []) → 0 + kept_by held < 0 + kept_by held
    some (inl is) = let z : ◌≡◌ {A = Bool} true false = sym is ∙ quiet in never (cc)
    some (inr less) = absurd (omega arith)
one_onward held (b ∷ chunk) rest sound are quiet =
    let next = byte_held_sound held b (are 0) sound in
    record { sound = next; within = omega arith; prints = byte_output held b (chunk ++ rest) quiet; nearer = λ some. omega (arith, kept_at_most _ next) }

-- a run is given one byte at least
some_used : (panel : Panel) (bytes : List ℕ) → busy panel.reader ≡ false → (length bytes ≡ 0 → ⊥) → 1 ≤ (fed_bytes panel bytes).used
some_used panel [] quiet some = absurd (some refl)
some_used panel (b ∷ bytes) quiet some = rw (fed_more panel b bytes quiet) (omega arith)

-- and none that has not come
none_fed : (panel : Panel) → (fed_bytes panel []).used ≡ 0
unfolding fed_bytes given_bytes
none_fed panel = refl

fed_within : (panel : Panel) (bytes : List ℕ) → (fed_bytes panel bytes).used ≤ length bytes
fed_within panel [] = omega (arith, none_fed panel)
fed_within panel (b ∷ bytes) = go (busy panel.reader) refl (fed_within (fed_byte panel b).panel bytes)
  where
    go : (w : Bool) → busy panel.reader ≡ w → (fed_bytes (fed_byte panel b).panel bytes).used ≤ length bytes → (fed_bytes panel (b ∷ bytes)).used ≤ suc (length bytes)
    go true is later = rw (fed_none panel b bytes is) (omega arith)
    go false is later = rw (fed_more panel b bytes is) (omega arith)

run_short : (n : ℕ) (chunk : List ℕ) → length (line_run n chunk) * 2 ≤ length chunk
unfolding line_run
run_short zero chunk = omega arith
run_short (suc n) [] = omega arith
run_short (suc n) (kind ∷ []) = omega arith
run_short (suc n) (kind ∷ b ∷ chunk) =
    by_test (λ (l : List ℕ). length l * 2 ≤ suc (suc (length chunk))) (eqb kind 1) _ _ (λ is. omega (arith, run_short n chunk)) (λ other. omega arith)

run_within : (panel : Panel) (n : ℕ) (chunk : List ℕ) → (fed_bytes panel (line_run n chunk)).used * 2 ≤ length chunk
run_within panel n chunk = omega (arith, fed_within panel (line_run n chunk), run_short n chunk)

bytes_run : (n : ℕ) (chunk : List ℕ) → Bytes chunk → Bytes (line_run n chunk)
unfolding line_run
bytes_run zero chunk are = bytes_nil
bytes_run (suc n) [] are = bytes_nil
bytes_run (suc n) (kind ∷ []) are = bytes_nil
bytes_run (suc n) (kind ∷ b ∷ chunk) are =
    let later = bytes_run n chunk (λ i. are (suc (suc i))) in
    by_test Bytes (eqb kind 1) _ _ (λ is. bytes_cons b (line_run n chunk) (are 1) later) (λ other. bytes_nil)

started_is : (stage : Stage) → is_started stage ≡ true → stage ≡ Started
unfolding is_started
started_is Bare is = never (cc)
started_is Ready is = never (cc)
started_is Started is = refl
started_is Over is = never (cc)

module _ (trace : Trace) (table : List ℕ) (memory : Memory) (is_started : is_started trace.stage ≡ true) (is_none : trace.have ≡ 0) (is-item : trace.item ≡ no_item) where
  with_panel_is : (panel : Panel) → with_panel trace panel ≡ between trace.setup trace.records panel
  with_panel_is panel = rw (is_none, is-item)

  trace_is : trace ≡ between trace.setup trace.records trace.panel
  trace_is =
      ap (λ (stage : Stage). record { stage = stage; item = trace.item; have = trace.have; setup = trace.setup; records = trace.records; panel = trace.panel })
      (started_is trace.stage is_started)
      ∙ with_panel_is trace.panel

  ran_output : (n : ℕ) (chunk rest : List ℕ) → output_from (holds trace table memory) (chunk ++ rest)
      ≡ output_from (holds (with_panel trace (fed_bytes trace.panel (line_run n chunk)).panel) table memory)
      (drop ((fed_bytes trace.panel (line_run n chunk)).used * 2) chunk ++ rest)
  ran_output n chunk rest =
      let fed = fed_bytes trace.panel (line_run n chunk) in
      ap (λ (t : Trace). output_from (holds t table memory) (chunk ++ rest)) trace_is
      ∙ run_output trace.setup trace.records table memory rest n trace.panel chunk
      ∙ ap (λ (t : Trace). output_from (holds t table memory) (drop (fed.used * 2) chunk ++ rest)) (sym (with_panel_is fed.panel))

run_onward : (held : Held) (chunk rest : List ℕ) (n : ℕ) → HeldSound held → Bytes chunk → waits held.trace ≡ false → is_started held.trace.stage ≡ true
    → held.trace.have ≡ 0 → (length (line_run n chunk) ≡ 0 → ⊥)
    → Onward held chunk rest
    (takes (ran_bytes held.trace (line_run n chunk)).used (shows (with_trace held (ran_bytes held.trace (line_run n chunk)).trace) []))
unfolding ran_bytes
run_onward held chunk rest n sound are quiet is_started is_none some =
    let next = run_held_sound held sound (line_run n chunk) is_started (bytes_run n chunk are) in
    let free : busy held.trace.panel.reader ≡ false = rw is_started at quiet in
    record {
      sound = next;
      within = run_within held.trace.panel n chunk;
      prints = ran_output held.trace held.table held.memory is_started is_none (sound.item.none is_none) n chunk rest;
      nearer = λ more. nearer more (kept_at_most _ next) (some_used held.trace.panel (line_run n chunk) free some);
    }
  where
    nearer : (waits held.trace ≡ true) ⊎ (0 < length chunk) → {k u : ℕ} → k ≤ longest_frame → 1 ≤ u → length (drop (u * 2) chunk) * calls_each + k < length chunk * calls_each + kept_by held
    nearer (inl is) few used = let z : ◌≡◌ {A = Bool} true false = sym is ∙ quiet in never (cc)
    nearer (inr long) few used = simp length-drop (omega arith)

pub step_onward : (held : Held) (chunk rest : List ℕ) → HeldSound held → Bytes chunk → Onward held chunk rest (step held chunk)
unfolding step took_input took_lines
step_onward held chunk rest sound are =
    by_test (Onward held chunk rest) (waits held.trace) _ _
    (λ is. record {
      sound = report_held_sound held sound is;
      within = omega arith;
      prints = report_output held (chunk ++ rest) sound is;
      nearer = λ some. omega (arith, report_fewer held sound is);
    })
    (λ quiet. by_test (Onward held chunk rest) (is_started held.trace.stage && eqb held.trace.have 0) _ _
    (λ is. by_test (Onward held chunk rest) (eqb (length (line_run longest_run chunk)) 0) _ _ (λ none. one_onward held chunk rest sound are quiet)
    (λ some. run_onward held chunk rest longest_run sound are quiet (and_left (is_started held.trace.stage) (eqb held.trace.have 0) is)
    (eqb-true held.trace.have 0 (and_right (is_started held.trace.stage) (eqb held.trace.have 0) is))
    (eqb-false (length (line_run longest_run chunk)) 0 some)))
    (λ within. one_onward held chunk rest sound are quiet))
