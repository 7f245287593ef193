-- 02, §6: a second is no mark. With the seconds left out, the same is given to the line and the same reports are handed over.
use mathlib.Core.Path.{refl, sym, ap, ◌∙◌}
use mathlib.Core.List.{List, [], ◌∷◌, ◌++◌}
use Rattle.reading.specs.Place.{Report}
use Rattle.reading.specs.Line.{Input}
use Rattle.demands.specs.Calls.{Moment, Call, lend, byte, bytes, mark, second, ask, contact, lift, after, handed_over, handed_over_all}
use Rattle.demands.specs.Given.{given, given_all}
use Rattle.demands.specs.Clock.{without_seconds, ReadsOn}
use Rattle.demands.proofs.Alike.{read_alike}
use Rattle.demands.proofs.Reading.{second_keeps_reader}

-- a call that stays among them
stays : (now : Moment) (call : Call) (fewer calls : List Call) → ReadsOn (after now call) fewer calls → ReadsOn now (call ∷ fewer) (call ∷ calls)
unfolding given_all handed_over_all
stays now call fewer calls rest =
    record {
      given_same = ap (λ (l : List Input). given now call ++ l) rest.given_same;
      handed_same = ap (λ (l : List Report). handed_over now call ++ l) rest.handed_same;
    }

pub seconds_left_out : (now : Moment) (calls : List Call) → ReadsOn now (without_seconds calls) calls
unfolding without_seconds given_all handed_over_all given handed_over after
seconds_left_out now [] = record { given_same = refl; handed_same = refl }
seconds_left_out now (lend lent ∷ calls) = stays now (lend lent) (without_seconds calls) calls (seconds_left_out (after now (lend lent)) calls)
seconds_left_out now (byte b ∷ calls) = stays now (byte b) (without_seconds calls) calls (seconds_left_out (after now (byte b)) calls)
seconds_left_out now (bytes bs ∷ calls) = stays now (bytes bs) (without_seconds calls) calls (seconds_left_out (after now (bytes bs)) calls)
seconds_left_out now (mark ∷ calls) = stays now mark (without_seconds calls) calls (seconds_left_out (after now mark) calls)
seconds_left_out now (second ∷ calls) =
    let rest = seconds_left_out (after now second) calls in
    let alike = read_alike now (after now second) (sym (second_keeps_reader now.panel)) refl refl refl refl in
    record {
      given_same = alike.give_same (without_seconds calls) ∙ rest.given_same;
      handed_same = alike.hand_same (without_seconds calls) ∙ rest.handed_same;
    }
seconds_left_out now (ask ∷ calls) = stays now ask (without_seconds calls) calls (seconds_left_out (after now ask) calls)
seconds_left_out now (contact c ∷ calls) = stays now (contact c) (without_seconds calls) calls (seconds_left_out (after now (contact c)) calls)
seconds_left_out now (lift ∷ calls) = stays now lift (without_seconds calls) calls (seconds_left_out (after now lift) calls)
