-- Demand 3, sentence by sentence as specs/Demand3 states it, and what 01 says of asking, as specs/AsRead states it.
use mathlib.Core.Path.{◌≡◌, refl, sym, ap, ◌∙◌}
use mathlib.Core.Bool.{false}
use mathlib.Core.List.{List, [], ◌++◌}
use Prim.Native.Nat.{ℕ}
use Rattle.frame.specs.Frame.{header_bytes}
use Rattle.reading.specs.Place.{Rules}
use Rattle.reading.specs.Moves.{Kept, fresh, waiting}
use Rattle.reading.specs.Run.{run}
use Rattle.reading.specs.Demand3.{joined, accepted_of, one_less_than_longest}
use Rattle.reading.proofs.Settling.{quiet_nil}
use Rattle.reading.proofs.Demand3.{accepted_open, accepted_closed}
use Rattle.reading.proofs.AfterMark.{after_mark}
use Rattle.line.specs.declared.Reader.{Reader}
use Rattle.line.specs.State.{rules_for, reader_of, kept_of}
use Rattle.line.proofs.Carried.{kept_is}
use Rattle.touch.specs.Setup.{checking_of}
use Rattle.panel.specs.Start.{new_panel}
use Rattle.panel.specs.Sound.{line_of}
use Rattle.panel.specs.Reachable.{by_start}
use Rattle.panel.proofs.Invariant.{reachable_sound}
use Rattle.demands.specs.Calls.{Moment, begun, after_all}
use Rattle.demands.specs.Reports.{report_waits, rules_of}
use Rattle.demands.specs.Demand3.{Ready, OnAnOpenLine, BehindAMark, AfterAMark, ReadyAgain}
use Rattle.demands.proofs.Calls.{calls_arise, arises_reachable}
use Rattle.demands.proofs.Waits.{kept_same}
use Rattle.demands.proofs.Alike.{read_alike}
use Rattle.demands.specs.AsRead.{AlwaysAsRead, AlwaysUntilNothing}
use Rattle.demands.proofs.GivenBytes.{came_bytes, came_bytes_closed}
use Rattle.demands.proofs.FromNew.{no_bytes_new, carried, waits_same, new_reader, all_setup_stays, begun_setup}
use Rattle.demands.proofs.AsRead.{always_as_read}
use Rattle.demands.proofs.Nothing.{always_until_nothing}

ready_new : (now : Moment) → Ready now → now.panel.reader ≡ reader_of (line_of now.panel.setup) fresh
ready_new now ready =
    let line = line_of now.panel.setup in
    let sound = reachable_sound now.panel (arises_reachable now ready.arises) in
    let reads = sound.reads in
    let none : reads.kept.bytes ≡ [] = ap (λ (k : Kept). k.bytes) (sym (kept_same now.panel sound)) ∙ ready.nothing.0 in
    reads.is ∙ ap (reader_of line) (no_bytes_new line reads.kept reads.reached none)

idle_new : (rules : Rules) → (◌≡◌ {A = List ℕ} [] []) × (waiting rules fresh ≡ false)
idle_new rules = (refl, quiet_nil rules false)

-- "once 257 bytes have followed the damage": with the two header bytes that every setup has, the figure is that
pub figure_is_257 : (now : Moment) → one_less_than_longest (rules_of now.panel).header ≡ 257
unfolding header_bytes
figure_is_257 now = refl

pub demand3_open : OnAnOpenLine
unfolding run header_bytes
demand3_open now calls frames come =
    let line = line_of now.panel.setup in
    let rules = rules_for line in
    let reachable = arises_reachable now come.ready.arises in
    let new = ready_new now come.ready in
    let c = carried line now reachable new calls come.typed in
    let whole = come.damage ++ (joined frames ++ come.tail) in
    let are = came_bytes now calls come.typed whole come.came in
    ap accepted_of (sym c.hands)
    ∙ accepted_open rules [] c.events (idle_new rules) (sym (waits_same line now reachable new calls come.typed) ∙ come.all_asked) come.damage frames come.good
    come.tail come.cut are come.begins_none (c.gives ∙ come.came) come.followed

pub demand3_closed : BehindAMark
unfolding run
demand3_closed now calls frames come =
    let line = line_of now.panel.setup in
    let rules = rules_for line in
    let reachable = arises_reachable now come.ready.arises in
    let new = ready_new now come.ready in
    let c = carried line now reachable new calls come.typed in
    let whole = come.damage ++ joined frames in
    let are = came_bytes_closed now calls come.typed whole come.came in
    ap accepted_of (sym c.hands)
    ∙ accepted_closed rules [] c.events (idle_new rules) (sym (waits_same line now reachable new calls come.typed) ∙ come.all_asked) come.damage frames come.good
    are come.begins_none (c.gives ∙ come.came)

pub demand3_after_mark : AfterAMark
unfolding new_panel
demand3_after_mark setup table lent is calls typed before came none_waits =
    let line = line_of setup in
    let new = new_reader setup table lent is in
    let now = begun setup table lent in
    let reachable = by_start setup table is in
    let c = carried line now reachable new calls typed in
    let last = after_all now calls in
    let as_new : last.panel.reader ≡ reader_of line fresh =
    c.reads ∙ ap (reader_of line) (after_mark (rules_for line) c.events before (c.gives ∙ came) (sym (waits_same line now reachable new calls typed) ∙ none_waits)) in
    record {
      new_reader = as_new;
      reads_as_new = read_alike last (begun setup table last.lent) (as_new ∙ sym new) refl refl refl refl;
    }

pub demand3_ready_again : ReadyAgain
unfolding new_panel report_waits
demand3_ready_again setup table lent arises is calls typed before came none_waits checking =
    let now = begun setup table lent in
    let new = (demand3_after_mark setup table lent is calls typed before came none_waits).new_reader in
    record {
      arises = calls_arise now calls typed arises;
      checking_on = ap checking_of (all_setup_stays now calls ∙ begun_setup setup table lent is) ∙ checking;
      nothing = (ap (λ (r : Reader). (kept_of r).bytes) new ∙ ap (λ (k : Kept). k.bytes) (kept_is (line_of setup) fresh), none_waits);
    }

-- "The reports asked for, in order, are those of the reading of all that was given. While one of them is left, a report waits; otherwise the bytes from
-- the waiting place on are held."
pub reports_as_read : AlwaysAsRead
reports_as_read = always_as_read

-- ".. until the answer is 'nothing'"
pub asked_until_nothing : AlwaysUntilNothing
asked_until_nothing = always_until_nothing
