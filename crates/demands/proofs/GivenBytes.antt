-- The inputs that calls give are bytes and marks.
use Rattle.std.specs.Prelude.{Result, Ok, Err}
use Rattle.line.specs.declared.Waiting.{Waiting}
use mathlib.Core.Path.{◌≡◌}
use mathlib.Core.List.{List, [], ◌∷◌, ◌++◌, map, append-nil}
use Prim.Native.Nat.{ℕ, zero, suc, ◌<◌}
use lib.ListN.{take}
use Rattle.wire.specs.Bytes.{Bytes}
use Rattle.reading.specs.Line as Line
use Rattle.reading.specs.Line.{Input}
use Rattle.reading.proofs.ByteLists.{bytes_nil, bytes_cons}
use Rattle.line.specs.declared.Waiting.TheVariants.{ReportWaits}
use Rattle.panel.specs.Inputs.{fed_byte, fed_mark, fed_bytes}
use Rattle.demands.specs.Calls.{Moment, Call, lend, byte, bytes, mark, second, ask, contact, lift, after, Typed, AllTyped}
use Rattle.demands.specs.Given.{unless_refused, given, given_all}

-- what typed calls give are bytes
unfoldable pub AreBytes : List Input → Type 0
AreBytes [] = Unit {0}
AreBytes (Line.byte b ∷ inputs) = (b < 256) × AreBytes inputs
AreBytes (Line.mark ∷ inputs) = AreBytes inputs

are_append : (these more : List Input) → AreBytes these → AreBytes more → AreBytes (these ++ more)
unfolding AreBytes
are_append [] more are those = those
are_append (Line.byte b ∷ these) more are those = (are.0, are_append these more are.1 those)
are_append (Line.mark ∷ these) more are those = are_append these more are those

are_mapped : (n : ℕ) (bs : List ℕ) → Bytes bs → AreBytes (map Line.byte (take n bs))
unfolding AreBytes
are_mapped zero bs are = tt
are_mapped (suc n) [] are = tt
are_mapped (suc n) (b ∷ bs) are = (are 0, are_mapped n bs (λ i. are (suc i)))

unless_byte : (answer : Result Unit Waiting) (b : ℕ) → b < 256 → AreBytes (unless_refused answer (Line.byte b))
unfolding AreBytes unless_refused
unless_byte (Ok tt) b is = (is, tt)
unless_byte (Err ReportWaits) b is = tt

unless_mark : (answer : Result Unit Waiting) → AreBytes (unless_refused answer Line.mark)
unfolding AreBytes unless_refused
unless_mark (Ok tt) = tt
unless_mark (Err ReportWaits) = tt

given_bytes : (now : Moment) (call : Call) → Typed call → AreBytes (given now call)
unfolding AreBytes given Typed
given_bytes now (lend lent) typed = tt
given_bytes now (byte b) typed = unless_byte (fed_byte now.panel b).answer b typed
given_bytes now (bytes bs) typed = are_mapped (fed_bytes now.panel bs).used bs typed
given_bytes now mark typed = unless_mark (fed_mark now.panel).answer
given_bytes now second typed = tt
given_bytes now ask typed = tt
given_bytes now (contact c) typed = tt
given_bytes now lift typed = tt

all_given_bytes : (now : Moment) (calls : List Call) → AllTyped calls → AreBytes (given_all now calls)
unfolding AreBytes given_all AllTyped
all_given_bytes now [] typed = tt
all_given_bytes now (call ∷ calls) typed =
    are_append (given now call) (given_all (after now call) calls) (given_bytes now call typed.0) (all_given_bytes (after now call) calls typed.1)

bytes_of : (xs : List ℕ) (more : List Input) → AreBytes (map Line.byte xs ++ more) → Bytes xs
unfolding AreBytes
bytes_of [] more are = bytes_nil
bytes_of (x ∷ xs) more are = bytes_cons x xs are.0 (bytes_of xs more are.1)

-- all that has come, as on a line still open
pub came_bytes : (now : Moment) (calls : List Call) → AllTyped calls → (xs : List ℕ) → given_all now calls ≡ map Line.byte xs → Bytes xs
came_bytes now calls typed xs came = bytes_of xs [] (rw (append-nil (map Line.byte xs)) (rw came at (all_given_bytes now calls typed)))

-- and in front of a mark
pub came_bytes_closed : (now : Moment) (calls : List Call) → AllTyped calls → (xs : List ℕ) → given_all now calls ≡ map Line.byte xs ++ (Line.mark ∷ [])
    → Bytes xs
came_bytes_closed now calls typed xs came = bytes_of xs (Line.mark ∷ []) (rw came at (all_given_bytes now calls typed))
