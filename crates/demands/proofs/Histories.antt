-- A channel holds the latest 1,024 numbers of its history, as long as each report is lent the curve area as the one before left it.
use Rattle.std.specs.Prelude.{Ok, Err}
use mathlib.Core.Path.{◌≡◌, refl, ◌∙◌}
use mathlib.Core.Bool.{Bool, true, false, cond, not, ◌&&◌}
use mathlib.Core.List.{List, [], ◌∷◌}
use Prim.Native.Nat.{ℕ, ◌<◌}
use lib.ListN.{drop}
use Rattle.wire.specs.ByteOrder.{byte_at}
use Rattle.registers.specs.Run.{clear_value}
use Rattle.curves.specs.Area.{channel_count, held_by}
use Rattle.curves.specs.Rounds.{wrong_rounds}
use Rattle.curves.specs.Clearing.{cleared, clears}
use Rattle.curves.specs.History.{Holds}
use Rattle.curves.proofs.Latest.{length_latest}
use Rattle.curves.proofs.ByHistory.{holds_none, holds_added, holds_cleared, holds_left}
use Rattle.commands.specs.Lent.{Lent}
use Rattle.touch.specs.declared.Setup.{Setup}
use Rattle.panel.specs.Start.{new_panel, started}
use Rattle.panel.specs.Reachable.{Reachable, by_start}
use Rattle.panel.proofs.Lengths.{contacted_area_stands}
use Rattle.panel.proofs.Invariant.{reachable_sound}
use Rattle.demands.specs.Calls.{Moment, Call, lend, byte, bytes, mark, second, ask, contact, lift, begun, after, after_all, handed_over, AllTyped}
use Rattle.demands.specs.History.{recorded, history_by, history_over, left_by, area_left, AskedWith, LentAsLeft, lends_anew, none_lends_anew, Keeps}
use Rattle.wire.proofs.Truths.{never}
use Rattle.commands.specs.declared.Refusal.TheVariants.{WrongData}
use Rattle.commands.specs.Outcome.{is_done, outcome, add_curves_outcome}
use Rattle.panel.specs.Inputs.{fed_byte, fed_mark, fed_bytes}
use Rattle.demands.proofs.Access.{is_done_lem}
use Rattle.demands.proofs.Calls.{call_reached}
use Rattle.demands.proofs.Curved.{Curving, stays, clearing, adding, ask_curves, history_done, history_nothing, lifted_counts, second_counts, contacted_counts}
use Rattle.demands.proofs.FrameAsked.{handed_asks}
use Rattle.demands.proofs.Sizes.{started_new}

-- numbers that are done are whole rounds
done_rounds : (content : List ℕ) → is_done (add_curves_outcome content) ≡ true → wrong_rounds content ≡ false
unfolding add_curves_outcome
done_rounds content = go (wrong_rounds content)
  where
    go : (b : Bool) → is_done (cond b (Err WrongData) (Ok tt)) ≡ true → b ≡ false
    go true done = never (cc)
    go false done = refl

module _ (n : ℕ) (inside : n < channel_count) where
  -- over an ask that is lent the area as it was left
  asked_holds : (now : Moment) → Reachable now.panel → (history : List ℕ) → Holds now.panel.counts now.lent.curves n history → Curving now
      → Holds (after now ask).panel.counts (after now ask).lent.curves n (history_by n now ask history)
  unfolding recorded
  asked_holds now reached history holds (stays counts area quiet) = rw (counts, area, quiet n history) holds
  asked_holds now reached history holds (clearing content hands done counts area) =
      rw (counts, area, history_done now 0x80 content hands done n history) (go (clears value n) refl)
    where
      value : ℕ
      value = clear_value (byte_at content 0) (drop 1 content)

      go : (b : Bool) → clears value n ≡ b → Holds (cleared value now.panel.counts) now.lent.curves n (cond b [] history)
      go true is = holds_cleared value now.panel.counts now.lent.curves n is (reachable_sound now.panel reached).channels inside
      go false is = holds_left value now.panel.counts now.lent.curves n history is holds
  asked_holds now reached history holds (adding content hands done counts area) =
      let asks = handed_asks now 0x84 content hands in
      let good : is_done (add_curves_outcome content) ≡ true = unfold outcome in is_done_lem now reached content done 0x84 asks in
      rw (counts, area, history_done now 0x84 content hands done n history)
      (holds_added content now.panel.counts now.lent.curves n history asks.well.curves (reachable_sound now.panel reached).channels inside
      (done_rounds content good) holds)

  -- over any call
  call_holds : (now : Moment) → Reachable now.panel → (call : Call) (left history : List ℕ) → AskedWith left now call → Holds now.panel.counts left n history
      → Holds (after now call).panel.counts (left_by now call left) n (history_by n now call history)
  unfolding AskedWith left_by after handed_over fed_byte fed_mark fed_bytes
  call_holds now reached (lend lent) left history with holds = rw (history_nothing now (lend lent) refl n history) holds
  call_holds now reached (byte b) left history with holds = rw (history_nothing now (byte b) refl n history) holds
  call_holds now reached (bytes bs) left history with holds = rw (history_nothing now (bytes bs) refl n history) holds
  call_holds now reached mark left history with holds = rw (history_nothing now mark refl n history) holds
  call_holds now reached second left history with holds = rw (second_counts now, history_nothing now second refl n history) holds
  call_holds now reached ask left history with holds = asked_holds now reached history (rw with holds) (ask_curves now reached)
  call_holds now reached (contact c) left history with holds = rw (contacted_counts now c, history_nothing now (contact c) refl n history) holds
  call_holds now reached lift left history with holds = rw (lifted_counts now, history_nothing now lift refl n history) holds

  calls_hold : (now : Moment) → Reachable now.panel → (calls : List Call) → AllTyped calls → (left history : List ℕ) → LentAsLeft left now calls
      → Holds now.panel.counts left n history
      → Holds (after_all now calls).panel.counts (area_left now calls left) n (history_over n now calls history)
  unfolding after_all AllTyped area_left LentAsLeft history_over
  calls_hold now reached [] typed left history as_left holds = holds
  calls_hold now reached (call ∷ calls) typed left history as_left holds =
      calls_hold (after now call) (call_reached now call typed.0 reached) calls typed.1 (left_by now call left) (history_by n now call history) as_left.1
      (call_holds now reached call left history as_left.0 holds)

  -- what it holds, in 02's words
  keeps : (later : Moment) (area history : List ℕ) → Holds later.panel.counts area n history → Keeps n later area history
  unfolding held_by
  keeps later area history holds = record { count = holds.count ∙ length_latest history; numbers = holds.held }

  -- from a start
  pub history_kept : (setup : Setup) (table : List ℕ) (lent : Lent) → (started setup table).answer ≡ Ok tt → (calls : List Call) → AllTyped calls
      → (left : List ℕ) → LentAsLeft left (begun setup table lent) calls
      → Keeps n (after_all (begun setup table lent) calls) (area_left (begun setup table lent) calls left) (history_over n (begun setup table lent) calls [])
  unfolding new_panel
  history_kept setup table lent is calls typed left as_left =
      let new : Holds (started setup table).panel.counts left n [] = rw (started_new setup table is) (holds_none left n) in
      keeps (after_all (begun setup table lent) calls) (area_left (begun setup table lent) calls left) (history_over n (begun setup table lent) calls [])
      (calls_hold (begun setup table lent) (by_start setup table is) calls typed left [] as_left new)

-- where the caller lends nothing anew, each report is lent the area as the one before left it
area_carried : (now : Moment) (call : Call) → lends_anew call ≡ false → (AskedWith now.lent.curves now call)
    × ((after now call).lent.curves ≡ left_by now call now.lent.curves)
unfolding lends_anew AskedWith left_by after
area_carried now (lend lent) kept = never (cc)
area_carried now (byte b) kept = (tt, refl)
area_carried now (bytes bs) kept = (tt, refl)
area_carried now mark kept = (tt, refl)
area_carried now second kept = (tt, refl)
area_carried now ask kept = (refl, refl)
area_carried now (contact c) kept = (tt, contacted_area_stands now.panel c now.lent)
area_carried now lift kept = (tt, refl)

same_left : (one other : List ℕ) (now : Moment) (calls : List Call) → one ≡ other → LentAsLeft one now calls → LentAsLeft other now calls
same_left one other now calls is holds = rw is at holds

pub lent_as_left : (now : Moment) (calls : List Call) → none_lends_anew calls ≡ true → LentAsLeft now.lent.curves now calls
unfolding none_lends_anew LentAsLeft
lent_as_left now [] none = tt
lent_as_left now (call ∷ calls) none = go (lends_anew call) refl none (lent_as_left (after now call) calls)
  where
    go : (b : Bool) → lends_anew call ≡ b → (not b && none_lends_anew calls) ≡ true
        → (none_lends_anew calls ≡ true → LentAsLeft (after now call).lent.curves (after now call) calls)
        → AskedWith now.lent.curves now call × LentAsLeft (left_by now call now.lent.curves) (after now call) calls
    go true is none next = never (cc)
    go false is none next =
        let both = area_carried now call is in
        (both.0, same_left _ _ (after now call) calls both.1 (next none))
