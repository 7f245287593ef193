-- Laws of a step: what it finds at the front of the input, and what that leaves.
use Rattle.std.specs.Prelude.{Ok, Err, replicate}
use mathlib.Core.Path.{◌≡◌, refl, sym, ap, ◌∙◌}
use mathlib.Core.Bool.{Bool, true, false, cond, ◌&&◌}
use mathlib.Core.List.{List, [], ◌∷◌}
use Prim.Native.Nat.{ℕ, ◌≤◌}
use native.Mathlib.Omega.{arith}
use borrow.Author.Tests.{ne_eqb, leb-true}
use lib.Dec.{eqb, leb}
use lib.ListN.{length, take, get_or}
use lib.Seq.{length-take-le}
use Rattle.wire.specs.Addresses.{word_count}
use Rattle.curves.specs.Area.{curve_words}
use Rattle.wire.specs.Room.{lays}
use Rattle.wire.proofs.Over.{over_nil}
use Rattle.line.specs.Methods.{busy}
use Rattle.wire.proofs.Truths.{and_left, and_right}
use Rattle.telling.specs.Memory.{Memory, remembering}
use Rattle.telling.specs.Told.{least_text}
use Rattle.telling.specs.Events.{asked_once}
use Rattle.trace.specs.declared.Trace.{Trace}
use Rattle.trace.specs.declared.TracePrinted.{TracePrinted}
use Rattle.trace.specs.declared.Took.{Took}
use Rattle.trace.specs.declared.LentError.TheVariants.{NotLent}
use Rattle.trace.specs.declared.AtFront.{AtFront}
use Rattle.trace.specs.declared.AtFront.TheVariants.{Waits, Ran, First}
use Rattle.trace.specs.declared.Found.{Found}
use Rattle.trace.specs.Inner.{step_printing, leaves_step, StepLeft, byte_printing, leaves_byte, ByteLeft, event_printing, leaves_event, EventLeft, taking_so}
use Rattle.trace.specs.Inner.{goes_in_runs, finds, ran_found, first_byte, first_lines, found, front_step, found_step}
use Rattle.items.specs.Stages.{is_started}
use Rattle.items.specs.Records.{table_bytes}
use Rattle.items.specs.Runs.{line_run, gathered}
use Rattle.items.proofs.Gathering.{gathered_run, gathered_long}
use Rattle.trace.specs.State.{waits, lent_to, is_lent, holds}
use Rattle.trace.specs.Events.{took_byte}
use Rattle.trace.specs.Steps.{Step, longest_run, ran_bytes, took_one, took_lines, took_input, step, steps, stepping}

-- ---- What stands at the front of the input

module _ (trace : Trace) (w : Bool) (is-w : w ≡ busy trace.panel.reader) where
  pub waits_once_started : (b : Bool) → w ≡ true → b ≡ is_started trace.stage → b ≡ waits trace
  waits_once_started b is is_b = is_b ∙ sym (go (is_started trace.stage) (busy trace.panel.reader) (sym is-w ∙ is))
    where
      go : (a c : Bool) → c ≡ true → (a && c) ≡ a
      go true c so = so
      go false c so = refl

  pub none_waits : w ≡ false → false ≡ waits trace
  none_waits is = sym (go (is_started trace.stage) (busy trace.panel.reader) (sym is-w ∙ is))
    where
      go : (a c : Bool) → c ≡ false → (a && c) ≡ false
      go true c so = so
      go false c so = refl

module _ (trace : Trace) where
  pub no_input : (input : List ℕ) (f : Found) → length input ≡ 0 → f ≡ ran_found 0 trace → f ≡ first_byte trace input
  unfolding first_byte
  no_input [] f is is_f = is_f
  no_input (b ∷ input) f is is_f = absurd (omega arith)

  pub one_byte : (input : List ℕ) → (length input ≡ 0 → ⊥) → finds (First (get_or input 0 0)) trace ≡ first_byte trace input
  unfolding first_byte
  one_byte [] some = absurd (some refl)
  one_byte (b ∷ input) some = refl

module _ (trace : Trace) (input empty run : List ℕ) (n : ℕ) (is : lays n run ≡ gathered input empty) (nothing : empty ≡ replicate longest_run 0) where
  long : length empty ≡ longest_run
  long = ap length nothing

  is_run : take n run ≡ line_run longest_run input
  is_run = gathered_run input empty run n longest_run is long

  module _ (f : Found) where
    pub no_lines : n ≡ 0 → f ≡ first_byte trace input → f ≡ first_lines trace input
    unfolding first_lines
    no_lines none is_f =
        let no_run : eqb (length (line_run longest_run input)) 0 ≡ true = ap (λ (l : List ℕ). eqb (length l) 0) (sym is_run ∙ ap (λ (k : ℕ). take k run) none) in
        rw no_run is_f

    pub some_lines : (took : Took) → (n ≡ 0 → ⊥) → n ≤ length empty → took ≡ ran_bytes trace (take n run)
        → f ≡ ran_found took.used took.trace → f ≡ first_lines trace input
    unfolding first_lines
    some_lines took some few is-took is_f =
        let long-run : length (line_run longest_run input) ≡ n = ap length (sym is_run) ∙ length-take-le n run (omega (arith, few, gathered_long input empty run n is few)) in
        let some-run : eqb (length (line_run longest_run input)) 0 ≡ false = ne_eqb (length (line_run longest_run input)) 0 (λ z. some (sym long-run ∙ z)) in
        let same : took ≡ ran_bytes trace (line_run longest_run input) = is-took ∙ ap (ran_bytes trace) is_run in
        rw some-run (is_f ∙ ap (λ (t : Took). ran_found t.used t.trace) same)

pub in_runs : (trace : Trace) (b : Bool) → b ≡ is_started trace.stage → (b && eqb trace.have 0) ≡ goes_in_runs trace
in_runs trace b is = ap (λ (c : Bool). c && eqb trace.have 0) is

module _ (trace : Trace) (input : List ℕ) (w : Bool) (is-w : w ≡ waits trace) where
  pub finds_report : w ≡ true → finds Waits trace ≡ found trace input
  unfolding found
  finds_report is = rw (sym is-w ∙ is)

  module _ (none : w ≡ false) (f : Found) (b : Bool) (is_b : b ≡ goes_in_runs trace) where
    pub finds_lines : b ≡ true → f ≡ first_lines trace input → f ≡ found trace input
    unfolding found
    finds_lines is e = rw (sym is-w ∙ none, sym is_b ∙ is) e

    pub finds_byte : b ≡ false → f ≡ first_byte trace input → f ≡ found trace input
    unfolding found
    finds_byte is e = rw (sym is-w ∙ none, sym is_b ∙ is) e

-- ---- A step

module _ (table : List ℕ) (memory : Memory) where
  module _ (room : List ℕ) (f : Found) where
    so : (front : AtFront) → f.front ≡ front
        → step_printing (front_step table memory front f.trace) room ≡ step_printing (found_step table memory f) room
    so front is = ap (λ (a : AtFront). step_printing (front_step table memory a f.trace) room) (sym is)

    pub ran_lines : (used : ℕ) → f.front ≡ Ran used
        → leaves_step (record { trace = f.trace; used = used; count = 0 }) table memory room ≡ step_printing (found_step table memory f) room
    unfolding front_step
    ran_lines used is = ap (λ (l : List ℕ). leaves_step (record { trace = f.trace; used = used; count = 0 }) table memory l) (sym (over_nil room)) ∙ so (Ran used) is

    module _ (done : TracePrinted) (memory' : Memory) (left : List ℕ) (took : Took) where
      pub hands_one : f.front ≡ Waits → leaves_event done memory' left ≡ event_printing f.trace (asked_once f.trace.panel memory) room → took ≡ taking_so done 0
          → leaves_step took table memory' left ≡ step_printing (found_step table memory f) room
      unfolding front_step
      hands_one is e is-took =
          ap (λ (t : Took). leaves_step t table memory' left) is-took
          ∙ ap (λ (l : EventLeft). leaves_step (taking_so l.printed 0) table l.memory l.room) e
          ∙ so Waits is

  either : (b : Bool) (f g : Found) (s t : Step) → s ≡ found_step table memory f → t ≡ found_step table memory g → cond b s t ≡ found_step table memory (cond b f g)
  either true f g s t is-s is-t = is-s
  either false f g s t is-s is-t = is-t

  module _ (trace : Trace) where
    one_taken : (input : List ℕ) → took_one (holds trace table memory) input ≡ found_step table memory (first_byte trace input)
    unfolding took_one first_byte front_step
    one_taken [] = refl
    one_taken (b ∷ input) = refl

    -- what is found and then done is the step
    step_taken : (input : List ℕ) → step (holds trace table memory) input ≡ found_step table memory (found trace input)
    unfolding step took_input took_lines found first_lines front_step
    step_taken input =
        let lines = either (eqb (length (line_run longest_run input)) 0) _ _ _ _ (one_taken input) refl in
        either (waits trace) _ _ _ _ refl (either (goes_in_runs trace) _ _ _ _ lines (one_taken input))

-- a byte, of which what is said holds whatever the curve area holds
module _ (table words curves room : List ℕ) (f : Found) (done : TracePrinted) (table' words' left : List ℕ) (took : Took) where
  pub takes_byte : (b : ℕ) → f.front ≡ First b
      → ((area : List ℕ) → leaves_byte done table' (remembering words' area) left ≡ byte_printing (took_byte (holds f.trace table (remembering words area)) b) room)
      → took ≡ taking_so done 1 → leaves_step took table' (remembering words' curves) left ≡ step_printing (found_step table (remembering words curves) f) room
  unfolding front_step
  takes_byte b is e is-took =
      ap (λ (t : Took). leaves_step t table' (remembering words' curves) left) is-took
      ∙ ap (λ (l : ByteLeft). leaves_step (taking_so l.printed 1) l.table l.memory l.room) (e curves)
      ∙ so table (remembering words curves) room f (First b) is

pub lent_judged : (table words curves room : ℕ)
    → (leb table_bytes table && eqb words word_count && eqb curves curve_words && leb least_text room) ≡ lent_to table words curves room
unfolding lent_to
lent_judged table words curves room = refl

module _ (trace : Trace) (table : List ℕ) (memory : Memory) (room input : List ℕ) (l : Bool) (is-l : l ≡ is_lent (holds trace table memory) room) where
  pub lent_steps : (f : Found) (took : Took) (table' : List ℕ) (memory' : Memory) (left : List ℕ) → l ≡ true → f ≡ found trace input
      → leaves_step took table' memory' left ≡ step_printing (found_step table memory f) room
      → steps (record { answer = Ok tt; used = took.used; count = took.count; trace = took.trace }) table' memory' left
      ≡ stepping (holds trace table memory) input room
  unfolding stepping
  lent_steps f took table' memory' left is is_f e =
      let is_step : found_step table memory f ≡ step (holds trace table memory) input = ap (λ (g : Found). found_step table memory g) is_f ∙ sym (step_taken table memory trace input) in
      rw (sym is-l ∙ is)
      (ap (λ (s : StepLeft). steps (record { answer = Ok tt; used = s.took.used; count = s.took.count; trace = s.took.trace }) s.table s.memory s.room)
      (e ∙ ap (λ (s : Step). step_printing s room) is_step))

  pub not_lent_steps : l ≡ false
      → steps (record { answer = Err NotLent; used = 0; count = 0; trace = trace }) table memory room ≡ stepping (holds trace table memory) input room
  unfolding stepping
  not_lent_steps is = rw (sym is-l ∙ is)

-- what lent says, in numbers
module _ (table words curves room : ℕ) (l : Bool) (is-l : l ≡ lent_to table words curves room) (is : l ≡ true) where
  whole : (leb table_bytes table && eqb words word_count && eqb curves curve_words && leb least_text room) ≡ true
  whole = lent_judged table words curves room ∙ sym is-l ∙ is

  pub table_lent : table_bytes ≤ table
  table_lent = leb-true table_bytes table (and_left _ (eqb words word_count) (and_left _ (eqb curves curve_words) (and_left _ (leb least_text room) whole)))

  pub room_lent : least_text ≤ room
  room_lent = leb-true least_text room (and_right (leb table_bytes table && eqb words word_count && eqb curves curve_words) (leb least_text room) whole)
