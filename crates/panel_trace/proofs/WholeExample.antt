-- What the theorems of Whole suppose is met: by nothing read yet (`reads_new` in Passes), and by a trace that an unknown kind has stopped.
use mathlib.Core.Path.{◌≡◌, refl, sym, ◌∙◌}
use mathlib.Core.Bool.{true, false}
use mathlib.Core.List.{List, [], ◌∷◌}
use Prim.Native.Nat.{ℕ}
use native.Mathlib.Omega.{arith}
use Rattle.items.specs.Stages.{is_started, is_over, may_come}
use Rattle.trace.specs.State.{new_trace, waits}
use Rattle.trace.specs.Lines.{wrong_text}
use Rattle.trace.specs.Events.{took_byte}
use Rattle.trace.specs.Output.{new_held, trace_output}
use Rattle.printing.proofs.HeldSound.{new_quiet, new_held_sound, byte_held_sound}
use Rattle.printing.proofs.Outputs.{quiet_output, byte_output}
use Rattle.panel_trace.specs.Program.{ReadSoFar}
use Rattle.panel_trace.proofs.Whole.{stopped_whole}

-- a kind that there is not, the first byte of an input
abbrev pub unknown_kind : ℕ
unknown_kind = 9

pub new_held_quiet : waits new_held.trace ≡ false
unfolding new_held
new_held_quiet = new_quiet

pub unknown_quiet : waits (took_byte new_held unknown_kind).held.trace ≡ false
unfolding took_byte new_held new_trace may_come is_started is_over
unknown_quiet = refl

unknown_stops : is_over (took_byte new_held unknown_kind).held.trace.stage ≡ true
unfolding took_byte new_held new_trace may_come is_over
unknown_stops = refl

unknown_said : (took_byte new_held unknown_kind).text ≡ wrong_text
unfolding took_byte new_held new_trace may_come is_over
unknown_said = refl

unfoldable pub reads_unknown : ReadSoFar (took_byte new_held unknown_kind).held
unfolding trace_output
reads_unknown =
    record {
      input = unknown_kind ∷ [];
      text = (took_byte new_held unknown_kind).text;
      prints = λ rest. sym (quiet_output new_held (unknown_kind ∷ rest) new_held_quiet) ∙ byte_output new_held unknown_kind rest new_held_quiet;
      quiet = unknown_quiet;
    }

-- "else 15, as for .. an unknown kind": whatever comes behind it, that is all that is printed
pub unknown_whole : (rest : List ℕ) → trace_output (unknown_kind ∷ rest) ≡ wrong_text
unfolding reads_unknown
unknown_whole rest =
    stopped_whole (took_byte new_held unknown_kind).held reads_unknown rest (byte_held_sound new_held unknown_kind (omega arith) new_held_sound) unknown_stops ∙ unknown_said
