-- A panel with a new reader: what calls make of it is a run of the reading from a new one.
use Rattle.std.specs.Prelude.{Ok}
use mathlib.Core.Path.{◌≡◌, refl, sym, ap, ◌∙◌}
use mathlib.Core.Bool.{Bool, true, false}
use mathlib.Core.List.{List, [], ◌∷◌}
use Prim.Native.Nat.{ℕ}
use Rattle.frame.specs.Frame.{header_bytes}
use Rattle.reading.specs.Place.{look, behind, cut_short}
use Rattle.reading.specs.Moves.{Kept, fresh, waiting, is_pass}
use Rattle.reading.specs.Run.{run}
use Rattle.reading.proofs.Stable.{never, true_is_not_false}
use Rattle.line.specs.declared.Line as Declared
use Rattle.line.specs.declared.Reader.{Reader}
use Rattle.line.specs.State.{rules_for, reader_of}
use Rattle.line.specs.Methods.{busy}
use Rattle.line.specs.Reached.{Reached}
use Rattle.line.proofs.Carried.{waiting_is, reached_new}
use Rattle.touch.specs.declared.Setup.{Setup}
use Rattle.panel.specs.declared.Panel.{Panel}
use Rattle.panel.specs.Start.{new_panel, started}
use Rattle.panel.specs.Inputs.{fed_byte, fed_mark, fed_bytes}
use Rattle.panel.specs.Reporting.{handing, handing_over}
use Rattle.panel.specs.Sound.{line_of}
use Rattle.panel.specs.Reachable.{Reachable}
use Rattle.panel.proofs.Ways.{contact_ways, lift_ways, second_ways, report_ways}
use Rattle.panel.proofs.Invariant.{reachable_sound}
use Rattle.demands.specs.Calls.{Moment, Call, lend, byte, bytes, mark, second, ask, contact, lift, begun, after, after_all, handed_over_all, AllTyped}
use Rattle.demands.specs.Reports.{report_waits}
use Rattle.demands.specs.Given.{given_all}
use Rattle.demands.proofs.Calls.{calls_reached}
use Rattle.demands.proofs.Waits.{busy_waits}
use Rattle.demands.proofs.Reading.{Carries, carries_all}
use Rattle.commands.specs.Lent.{Lent}
use Rattle.demands.proofs.Sizes.{started_new}

-- a reader that is reached and holds nothing is a new one
pub no_bytes_new : (line : Declared.Line) (kept : Kept) → Reached line kept → kept.bytes ≡ [] → kept ≡ fresh
unfolding look behind cut_short is_pass header_bytes
no_bytes_new line kept reached none = go kept.closed kept.bytes none reached.stands
  where
    go : (c : Bool) (xs : List ℕ) → xs ≡ [] → is_pass (look (rules_for line) c xs) ≡ false → record { closed = c; bytes = xs } ≡ fresh
    go c (x ∷ xs) none stands = never cc
    go false [] none stands = refl
    go true [] none stands = true_is_not_false stands

-- what a sequence of calls from a new reader does is a run of the reading from a new one, and its reports are asked for when none waits there
module _ (line : Declared.Line) (now : Moment) (reachable : Reachable now.panel) (new : now.panel.reader ≡ reader_of line fresh) (calls : List Call)
    (typed : AllTyped calls) where
  pub carried : Carries line fresh (given_all now calls) (handed_over_all now calls) (after_all now calls).panel.reader
  carried = carries_all line fresh now calls typed (reached_new line) new

  pub waits_same : report_waits (after_all now calls).panel ≡ waiting (rules_for line) (run (rules_for line) fresh carried.events).kept
  waits_same =
      let panel = (after_all now calls).panel in
      sym (busy_waits panel (reachable_sound panel (calls_reached now calls typed reachable)))
      ∙ ap (λ (r : Reader). busy r) carried.reads
      ∙ waiting_is line (run (rules_for line) fresh carried.events).kept carried.reached

-- a start that is done
pub new_reader : (setup : Setup) (table : List ℕ) (lent : Lent) → (started setup table).answer ≡ Ok tt
    → (begun setup table lent).panel.reader ≡ reader_of (line_of setup) fresh
unfolding new_panel
new_reader setup table lent is = ap (λ (p : Panel). p.reader) (started_new setup table is)

-- no call changes the setup
setup_stays : (now : Moment) (call : Call) → (after now call).panel.setup ≡ now.panel.setup
unfolding after fed_byte fed_mark fed_bytes handing handing_over
setup_stays now (lend lent) = refl
setup_stays now (byte b) = refl
setup_stays now (bytes bs) = refl
setup_stays now mark = refl
setup_stays now second = second_ways now.panel (λ f. f.panel.setup ≡ now.panel.setup) refl (λ quiet. refl)
setup_stays now ask =
    report_ways now.panel now.lent (λ r. r.reported.panel.setup ≡ now.panel.setup) (λ h payload. refl) (λ command is. refl)
    (λ list command count is. refl)
setup_stays now (contact c) =
    contact_ways now.panel c now.lent (λ r. r.contacted.panel.setup ≡ now.panel.setup) (λ answer. refl) (λ good. refl)
setup_stays now lift = lift_ways now.panel (λ l. l.panel.setup ≡ now.panel.setup) refl refl refl

pub all_setup_stays : (now : Moment) (calls : List Call) → (after_all now calls).panel.setup ≡ now.panel.setup
unfolding after_all
all_setup_stays now [] = refl
all_setup_stays now (call ∷ calls) = all_setup_stays (after now call) calls ∙ setup_stays now call

pub begun_setup : (setup : Setup) (table : List ℕ) (lent : Lent) → (started setup table).answer ≡ Ok tt → (begun setup table lent).panel.setup ≡ setup
unfolding new_panel
begun_setup setup table lent is = ap (λ (p : Panel). p.setup) (started_new setup table is)
