-- 02, §5, of a panel of each sheet, by computation: the same touches of the slider of TouchInstances, the high byte of word 0001, across from 100 to 300, 255 to 0.
use mathlib.Core.Path.{◌≡◌, refl}
use Rattle.std.proofs.lemmas.Option.{some_pair_parts}
use mathlib.Core.Logic.{inl, inr}
use Prim.Native.Nat.{ℕ, ◌%◌}
use native.Mathlib.Omega.{arith}
use Rattle.wire.proofs.Truths.{never}
use Rattle.stores.specs.declared.Sheet.TheVariants.{Old, Revised}
use Rattle.words.specs.Words.{word_at_address}
use Rattle.touch.specs.Record.{slider_fields, record_of}
use Rattle.touch.specs.Scale.{GoodSliderRecord}
use Rattle.touch.specs.Rounding.{sheet_of}
use Rattle.panel.specs.Contacts.{Contact}
use Rattle.demands.specs.Calls.{Moment, contact, begun, after}
use Rattle.demands.specs.Sheets.{with_flags, flagged_moment, while_up, while_down, EdgesOnly}
use Rattle.demands.proofs.Computed.{computing_contacts}
use Rattle.demands.proofs.TouchInstances.{step_bytes, slider_bytes, table, are_bytes, setup, lent, up, down, down_arises, on_step, past_slider}
use Rattle.demands.proofs.Caught.{caught_slider_good}
use Rattle.demands.proofs.Sheets.{sheets_agree_at_the_edges, found_slider_good}

-- a contact at a place along the slider
abbrev at : (x : ℕ) → Contact
at x = record { table = table; x = x; y = 70 }

-- started with flag bit 2
abbrev revised : Moment
revised = begun (with_flags 4 setup) table lent

-- what stands in word 0001 after a contact there
abbrev pressed_at : Moment → (x : ℕ) → ℕ
pressed_at now x = word_at_address (after now (contact (at x))).lent.words 0x0001

-- and after a drag from 150 to it
abbrev dragged_to : Moment → (x : ℕ) → ℕ
dragged_to now x = word_at_address (after (after now (contact (at 150))) (contact (at x))).lent.words 0x0001

-- three of 200 of the way from 255 to 0 are 3.825; at the edges both stand at 255 and 0
pub record WordsBySheet : Type 0 where
  pub old_sheet : sheet_of up.panel.setup ≡ Old
  pub revised_sheet : sheet_of revised.panel.setup ≡ Revised
  pub old_inside : pressed_at up 103 ≡ 0xFCFD
  pub revised_inside : pressed_at revised 103 ≡ 0xFBFD
  pub old_dragged : dragged_to up 103 ≡ 0xFCFD
  pub revised_dragged : dragged_to revised 103 ≡ 0xFBFD
  pub old_first : pressed_at up 100 ≡ 0xFFFD
  pub revised_first : pressed_at revised 100 ≡ 0xFFFD
  pub old_last : pressed_at up 300 ≡ 0x00FD
  pub revised_last : pressed_at revised 300 ≡ 0x00FD
  pub old_beyond : dragged_to up 301 ≡ 0x00FD
  pub revised_beyond : dragged_to revised 301 ≡ 0x00FD

pub words_by_sheet : WordsBySheet
unfolding computing_contacts
words_by_sheet =
    record {
      old_sheet = refl;
      revised_sheet = refl;
      old_inside = refl;
      revised_inside = refl;
      old_dragged = refl;
      revised_dragged = refl;
      old_first = refl;
      revised_first = refl;
      old_last = refl;
      revised_last = refl;
      old_beyond = refl;
      revised_beyond = refl;
    }

-- the slider is a good record: a contact finds it in a table that is judged good
pub slider_is_good : GoodSliderRecord (record_of slider_bytes) (slider_fields slider_bytes)
unfolding computing_contacts
slider_is_good = found_slider_good setup table are_bytes refl 0 150 70 1 (record_of slider_bytes) refl (slider_fields slider_bytes) refl

-- and so it is while it is caught
pub caught_is_good : GoodSliderRecord (record_of slider_bytes) (slider_fields slider_bytes)
unfolding computing_contacts
caught_is_good = caught_slider_good down down_arises (record_of slider_bytes) refl (slider_fields slider_bytes) refl

-- what `sheets_agree_at_the_edges` asks of a contact is met by one on the step, which is no slider, and by one at the slider's last edge
pub on_the_step : EdgesOnly up on_step
unfolding computing_contacts
on_the_step r (while_up i is_up acts) = let same = some_pair_parts 0 i (record_of step_bytes) r acts in rw (← same.1) (inl refl)
on_the_step r (while_down is_down caught) = never (cc)

at_the_last_edge : EdgesOnly up (at 300)
unfolding computing_contacts
at_the_last_edge r (while_up i is_up acts) = let same = some_pair_parts 1 i (record_of slider_bytes) r acts in rw (← same.1) (inr (inr (omega arith)))
at_the_last_edge r (while_down is_down caught) = never (cc)

-- and, while it is caught, by one past that edge
pub caught_past_the_edge : EdgesOnly down past_slider
unfolding computing_contacts
caught_past_the_edge r (while_up i is_up acts) = never (cc)
caught_past_the_edge r (while_down is_down caught) = let same : record_of slider_bytes ≡ r = cc in rw (← same) (inr (inr (omega arith)))

same_but_the_sheet : 4 % 4 ≡ up.panel.setup.flags % 4
unfolding computing_contacts
same_but_the_sheet = refl

pub edge_agrees : after (flagged_moment 4 up) (contact (at 300)) ≡ flagged_moment 4 (after up (contact (at 300)))
edge_agrees = (sheets_agree_at_the_edges up (at 300) at_the_last_edge 4 same_but_the_sheet).1
