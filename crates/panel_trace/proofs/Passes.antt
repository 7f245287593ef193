-- Laws of the loops that take an input and read all of it: what holds at each turn, and what it comes to.
use mathlib.Core.Path.{◌≡◌, refl, sym, ap, subst, ◌∙◌}
use mathlib.Core.Logic.{◌⊎◌, inl, inr}
use mathlib.Core.Bool.{Bool, true, false, ◌||◌}
use mathlib.Core.List.{List, [], ◌++◌, append_assoc}
use Prim.Native.Nat.{ℕ, ◌+◌, ◌-◌, ◌≤◌, ◌<◌}
use native.Mathlib.Omega.{arith}
use borrow.Author.Tests.{ltb-true, ltb-false}
use lib.Dec.{ltb}
use lib.ListN.{length, take, drop, replicate, length-drop, drop_of_length-le}
use lib.Seq.{drop-drop}
use Rattle.std.specs.Result.{OnOk}
use Rattle.std.proofs.Common.{Result, Ok, Err, is_ok}
use Rattle.wire.specs.Addresses.{word_count}
use Rattle.curves.specs.Area.{curve_words}
use Rattle.wire.proofs.Parts.{part_whole}
use Rattle.wire.proofs.Truths.{or_left, or_right}
use Rattle.telling.specs.Memory.{Memory, remembering, new_memory}
use Rattle.trace.specs.declared.Trace.{Trace}
use Rattle.items.specs.Records.{table_bytes}
use Rattle.trace.specs.State.{Held, holds, new_trace, waits}
use Rattle.trace.specs.Output.{new_held, trace_output}
use Rattle.printing.specs.Reached.{HeldSound, output_from}
use Rattle.printing.proofs.HeldSound.{new_quiet, new_held_sound}
use Rattle.printing.proofs.Outputs.{quiet_output}
use Rattle.panel_trace.specs.Inner.{calls_left, Filling, Passing}
use Rattle.panel_trace.specs.Program.{ReadSoFar}
use Rattle.panel_trace.proofs.Going.{or_some}

-- so much of the input is taken, and the texts that stood in the room one after the other are this text
pub record Passes (before : Held) (input : List ℕ) (after : Held) (at : ℕ) : Type 0 where
  pub sound : HeldSound after
  pub within : at ≤ length input
  pub text : List ℕ
  pub prints : (rest : List ℕ) → output_from before (input ++ rest) ≡ text ++ output_from after (drop at input ++ rest)

pub passes_first : (before : Held) (input : List ℕ) → HeldSound before → Passes before input before 0
passes_first before input sound = record { sound = sound; within = omega arith; text = []; prints = λ rest. refl }

pub passes_sound : (before : Held) (input : List ℕ) (after : Held) (at : ℕ) → Passes before input after at → HeldSound after
passes_sound before input after at so_far = so_far.sound

module _ (before : Held) (input : List ℕ) (trace : Trace) (table : List ℕ) (memory : Memory) (at : ℕ) (so_far : Passes before input (holds trace table memory) at) where
  abbrev held : Held
  held = holds trace table memory

  module _ (after : Held) (used : ℕ) (text : List ℕ) (filling : Filling held (take (length input - at) (drop at input)) after used text) where
    chunk_is : take (length input - at) (drop at input) ≡ drop at input
    chunk_is = part_whole input at

    filled : Filling held (drop at input) after used text
    filled = rw chunk_is at filling

    left_is : drop used (drop at input) ≡ drop (at + used) input
    left_is = drop-drop used at input

    pub passed_within : at + used ≤ length input
    passed_within = omega (arith, filled.within, length-drop at input, so_far.within)

    prints_on : (rest : List ℕ) → output_from before (input ++ rest) ≡ (so_far.text ++ text) ++ output_from after (drop (at + used) input ++ rest)
    prints_on rest =
        so_far.prints rest
        ∙ ap (λ (l : List ℕ). so_far.text ++ l) (filled.prints rest)
        ∙ sym (append_assoc so_far.text text (output_from after (drop used (drop at input) ++ rest)))
        ∙ ap (λ (l : List ℕ). (so_far.text ++ text) ++ output_from after (l ++ rest)) left_is

    pub passes_on : Passes before input after (at + used)
    passes_on = record { sound = filled.sound; within = passed_within; text = so_far.text ++ text; prints = prints_on }

    pub passes_nearer : (waiting : Bool) → waiting ≡ waits trace → (ltb at (length input) || waiting) ≡ true
        → calls_left after (drop (at + used) input) < calls_left (holds trace table memory) (drop at input)
    passes_nearer waiting is_waiting so = rw (sym left_is) (filled.nearer (go (or_some (ltb at (length input)) waiting (waits trace) is_waiting so)))
      where
        go : (waits trace ≡ true) ⊎ (ltb at (length input) ≡ true) → (waits trace ≡ true) ⊎ (0 < length (drop at input))
        go (inl is) = inl is
        go (inr is) = inr (simp length-drop (omega (arith, ltb-true at (length input) is)))

  pub passes_all : (waiting : Bool) → waiting ≡ waits trace → (ltb at (length input) || waiting) ≡ false → Passing before input (holds trace table memory)
  passes_all waiting is_waiting nothing =
      let past : length input ≤ at = omega (arith, ltb-false at (length input) (or_left (ltb at (length input)) waiting nothing)) in
      let all : drop at input ≡ [] = drop_of_length-le input past in
      record {
        text = so_far.text;
        prints = λ rest. so_far.prints rest ∙ ap (λ (l : List ℕ). so_far.text ++ output_from held (l ++ rest)) all;
        quiet = sym is_waiting ∙ or_right (ltb at (length input)) waiting nothing;
      }

-- ---- Reading

pub reads_new : ReadSoFar new_held
unfolding trace_output new_held
reads_new = record { input = []; text = []; prints = λ rest. sym (quiet_output new_held rest new_quiet); quiet = new_quiet }

module _ (trace : Trace) (table words curves : List ℕ) (is-trace : trace ≡ new_trace) (is-table : table ≡ replicate table_bytes 0) (is-words : words ≡ replicate word_count 0)
    (is-curves : curves ≡ replicate curve_words 0) where
  is_new : holds trace table (remembering words curves) ≡ new_held
  unfolding new_held new_memory
  is_new = rw (is-trace, is-table, is-words, is-curves)

  pub begins_sound : HeldSound (holds trace table (remembering words curves))
  begins_sound = subst (λ (h : Held). HeldSound h) (sym is_new) new_held_sound

  pub reads_first : ReadSoFar (holds trace table (remembering words curves))
  reads_first = subst (λ (h : Held). ReadSoFar h) (sym is_new) reads_new

pub reads_on : (before : Held) (chunk : List ℕ) (after : Held) → ReadSoFar before → Passing before chunk after → ReadSoFar after
reads_on before chunk after so_far passing =
    record {
      input = so_far.input ++ chunk;
      text = so_far.text ++ passing.text;
      prints = λ rest.
          ap trace_output (append_assoc so_far.input chunk rest)
          ∙ so_far.prints (chunk ++ rest)
          ∙ ap (λ (l : List ℕ). so_far.text ++ l) (passing.prints rest)
          ∙ sym (append_assoc so_far.text passing.text (output_from after rest));
      quiet = passing.quiet;
    }

-- what stands on Ok, where there is Ok
pub ok_gives : {T E P : Type 0} (r : Result T E) → true ≡ is_ok r → OnOk r P → P
ok_gives (Ok value) is p = p
ok_gives (Err error) is p = cc
