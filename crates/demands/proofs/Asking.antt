-- All that asking can leave: the cases of specs/Demand2's AskLeaves are all there are.
use Rattle.std.specs.Prelude.{None, Some, Ok, Err}
use mathlib.Core.Path.{◌≡◌, refl, ap, ◌∙◌}
use mathlib.Core.Logic.{◌⊎◌, inl, inr}
use mathlib.Core.Bool.{Bool, true, false, cond}
use mathlib.Core.List.{List, [], ◌∷◌}
use Prim.Native.Nat.{ℕ, ◌≤◌}
use native.Mathlib.Omega.{arith}
use borrow.Author.Tests.{eqb-true, eqb-false, ltb-true, ltb-false}
use lib.Dec.{eqb, ltb}
use Rattle.wire.specs.Addresses.{word_count}
use Rattle.reading.specs.Place as Place
use Rattle.reading.specs.Place.{bad_check, accepted_frame}
use Rattle.wire.proofs.Truths.{never}
use Rattle.commands.specs.Outcome as Outcome
use Rattle.commands.specs.Outcome.{outcome}
use Rattle.panel.specs.State.{fixed_for}
use Rattle.panel.specs.Answers.{AskAnswer}
use Rattle.panel.specs.declared.Handed.TheVariants as handed
use Rattle.panel.specs.declared.LentError.TheVariants as lent_error
use Rattle.panel.specs.Numbers.{report_number}
use Rattle.panel.specs.Reporting.{Reporting, reporting}
use Rattle.panel.specs.Reachable.{Reachable}
use Rattle.panel.proofs.Invariant.{reachable_sound}
use Rattle.demands.specs.Calls.{Moment, ask, after, number_given, report_handed, handed_over}
use Rattle.demands.specs.Demand2.{after_write, after_read, after_store, after_fetch, after_add, after_command, AskLeaves, hands_nothing, hands_bad_check, refuses_command, does_command}
use Rattle.demands.proofs.FrameAsked.{handed_asks, done_number}
use Rattle.demands.proofs.Access.{writes_registers, reads_registers, writes_words, reads_words, adds_numbers, answers_bad_check, nothing_changes_nothing}
use Rattle.demands.proofs.Refusals.{command_refused}

-- one report at most, and its number where it is none or a bad check
one_report : (h : AskAnswer) (payload : List ℕ) (r : Place.Report) (rest : List Place.Report) → report_handed h payload ≡ r ∷ rest → rest ≡ []
unfolding report_handed
one_report (Err why) payload r rest is = never (cc)
one_report (Ok None) payload r rest is = never (cc)
one_report (Ok (Some (handed.BadCheck command acknowledged))) payload r rest is = cc
one_report (Ok (Some (handed.Accepted command count o acknowledged replied))) payload r rest is = cc

none_number : (h : AskAnswer) (payload : List ℕ) → report_handed h payload ≡ [] → (report_number h ≡ 0) ⊎ ((report_number h ≡ 14) ⊎ (report_number h ≡ 16))
unfolding report_handed report_number
none_number (Err lent_error.NotLent) payload is = inr (inl refl)
none_number (Err lent_error.WrongList) payload is = inr (inr refl)
none_number (Ok None) payload is = inl refl
none_number (Ok (Some (handed.BadCheck command acknowledged))) payload is = never (cc)
none_number (Ok (Some (handed.Accepted command count o acknowledged replied))) payload is = never (cc)

bad_number : (h : AskAnswer) (payload : List ℕ) (command : ℕ) → report_handed h payload ≡ bad_check command ∷ [] → report_number h ≡ 0
unfolding report_handed report_number
bad_number (Err why) payload command is = never (cc)
bad_number (Ok None) payload command is = never (cc)
bad_number (Ok (Some (handed.BadCheck c acknowledged))) payload command is = refl
bad_number (Ok (Some (handed.Accepted c count o acknowledged replied))) payload command is = never (cc)

-- a command by its number
pub as_command : (now : Moment) (command : ℕ) (content : List ℕ) → handed_over now ask ≡ accepted_frame command content ∷ [] → (known : ℕ) → command ≡ known
    → handed_over now ask ≡ accepted_frame known content ∷ []
as_command now command content hands known is = hands ∙ ap (λ (k : ℕ). accepted_frame k content ∷ []) is

-- what holds of what each of the five commands leaves holds of what is left, where it is one of them
pub by_command_lem : (P : Moment → Type 0) (now : Moment) (command : ℕ) (content : List ℕ)
    → (eqb command 0x80 ≡ false → eqb command 0x81 ≡ false → eqb command 0x82 ≡ false → eqb command 0x83 ≡ false → eqb command 0x84 ≡ false → ⊥)
    → (command ≡ 0x80 → P (after_write now content)) → (command ≡ 0x81 → P (after_read now content)) → (command ≡ 0x82 → P (after_store now content))
    → (command ≡ 0x83 → P (after_fetch now content)) → (command ≡ 0x84 → P (after_add now content)) → P (after_command now command content)
unfolding after_command
by_command_lem P now command content one write read store fetch add =
    go (eqb command 0x80) refl (eqb command 0x81) refl (eqb command 0x82) refl (eqb command 0x83) refl (eqb command 0x84) refl
  where
    go : (a : Bool) → eqb command 0x80 ≡ a → (b : Bool) → eqb command 0x81 ≡ b → (c : Bool) → eqb command 0x82 ≡ c → (d : Bool) → eqb command 0x83 ≡ d
        → (e : Bool) → eqb command 0x84 ≡ e
        → P (cond a (after_write now content) (cond b (after_read now content) (cond c (after_store now content) (cond d (after_fetch now content) (after_add now content)))))
    go true p b q c r d s e t = write (eqb-true command 0x80 p)
    go false p true q c r d s e t = read (eqb-true command 0x81 q)
    go false p false q true r d s e t = store (eqb-true command 0x82 r)
    go false p false q false r true s e t = fetch (eqb-true command 0x83 s)
    go false p false q false r false s true t = add (eqb-true command 0x84 t)
    go false p false q false r false s false t = absurd (one p q r s t)

pub one_of_five : (command : ℕ) → 0x80 ≤ command → command ≤ 0x84
    → eqb command 0x80 ≡ false → eqb command 0x81 ≡ false → eqb command 0x82 ≡ false → eqb command 0x83 ≡ false → eqb command 0x84 ≡ false → ⊥
one_of_five command from to p q r s t =
    let not-80 = eqb-false command 0x80 p in
    let not-81 = eqb-false command 0x81 q in
    let not-82 = eqb-false command 0x82 r in
    let not-83 = eqb-false command 0x83 s in
    let not-84 = eqb-false command 0x84 t in
    omega arith

-- an accepted frame that is done is one of the five commands
module _ (now : Moment) (reached : Reachable now.panel) (command : ℕ) (content : List ℕ) (hands : handed_over now ask ≡ accepted_frame command content ∷ [])
    (zero : number_given now ask ≡ 0) where
  known : (eqb command 0x80 ≡ false) → (eqb command 0x81 ≡ false) → (eqb command 0x82 ≡ false) → (eqb command 0x83 ≡ false) → (eqb command 0x84 ≡ false) → ⊥
  unfolding outcome Outcome.number_of_outcome
  known a b c d e =
      let setup = now.panel.setup in
      let number = done_number now (reachable_sound now.panel reached) command content (handed_asks now command content hands) in
      let unknown : Outcome.number_of_outcome (outcome (fixed_for setup) word_count command content) ≡ 2 = rw (a, b, c, d, e) in
      omega arith

  command_done : AskLeaves now
  command_done =
      let leaves = by_command_lem (λ then. (0x80 ≤ command) × (command ≤ 0x84) × (after now ask ≡ then)) now command content known
      (λ is. (omega (arith, is), omega (arith, is), writes_registers now reached content zero (as_command now command content hands 0x80 is)))
      (λ is. (omega (arith, is), omega (arith, is), reads_registers now reached content zero (as_command now command content hands 0x81 is)))
      (λ is. (omega (arith, is), omega (arith, is), writes_words now reached content zero (as_command now command content hands 0x82 is)))
      (λ is. (omega (arith, is), omega (arith, is), reads_words now reached content zero (as_command now command content hands 0x83 is)))
      (λ is. (omega (arith, is), omega (arith, is), adds_numbers now reached content zero (as_command now command content hands 0x84 is))) in
      does_command command content hands zero leaves.0 leaves.1 leaves.2

pub asking_leaves : (now : Moment) → Reachable now.panel → AskLeaves now
unfolding number_given handed_over
asking_leaves now reached = go (handed_over now ask) refl
  where
    by : Reporting
    by = reporting now.panel now.lent

    frame : (command : ℕ) (content : List ℕ) → handed_over now ask ≡ accepted_frame command content ∷ [] → (b : Bool) → ltb 0 (number_given now ask) ≡ b → AskLeaves now
    frame command content hands true above =
        let only =
        command_refused now (reachable_sound now.panel reached) command content (handed_asks now command content hands) (ltb-true 0 (number_given now ask) above) in
        refuses_command command content hands only.at_least only.at_most only.left
    frame command content hands false none =
        let most = ltb-false 0 (number_given now ask) none in
        command_done now reached command content hands (omega arith)

    go : (reports : List Place.Report) → handed_over now ask ≡ reports → AskLeaves now
    go [] hands = hands_nothing hands (none_number by.reported.handed by.reported.payload hands) (nothing_changes_nothing now hands)
    go (bad_check command ∷ rest) hands =
        let alone = one_report by.reported.handed by.reported.payload (bad_check command) rest hands in
        let bad : handed_over now ask ≡ bad_check command ∷ [] = hands ∙ ap (λ (l : List Place.Report). bad_check command ∷ l) alone in
        hands_bad_check command bad (bad_number by.reported.handed by.reported.payload command bad) (answers_bad_check now reached command bad)
    go (accepted_frame command content ∷ rest) hands =
        let alone = one_report by.reported.handed by.reported.payload (accepted_frame command content) rest hands in
        frame command content (hands ∙ ap (λ (l : List Place.Report). accepted_frame command content ∷ l) alone) (ltb 0 (number_given now ask)) refl
