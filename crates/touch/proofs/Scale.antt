-- Of every slider record, by either scale sheet: it stands between begin and end and never turns back; the sheets agree at the two edges and never differ by
-- more than one; the revised one is within half a unit of the exact quotient. Of every other record: the sheet does not matter.
use mathlib.Core.Path.{◌≡◌, refl, sym, ap, ◌∙◌}
use mathlib.Core.Bool.{true, false, cond}
use Prim.Native.Nat.{ℕ, ◌-◌, ◌*◌, ◌≤◌, ◌<◌}
use lib.IntN.{ℤ, nat_abs, ◌-ℤ◌}
use Rattle.wire.proofs.Truths.{never}
use Rattle.stores.specs.declared.Sheet.TheVariants.{Revised}
use Rattle.stores.specs.Store.{signed, placed, word_of}
use Rattle.stores.specs.Slider.{rounded_by, nearest, slid_to, slider_stores}
use Rattle.stores.specs.Sheets.{AtEdge, apart, Between, Onward}
use Rattle.stores.proofs.Slid.{slid_to_between, slid_to_onward}
use Rattle.stores.proofs.Sheets.{agree_at_the_edges, revised_within_half, differ_by_one_at_most}
use Rattle.touch.specs.declared.Setup.{Setup}
use Rattle.touch.specs.declared.SliderFields.{SliderFields}
use Rattle.touch.specs.declared.Kind.{Kind}
use Rattle.touch.specs.declared.Kind.TheVariants.{Key, Step, Slider, Other}
use Rattle.touch.specs.declared.Record.{Record}
use Rattle.touch.specs.Rounding.{sheet_of, rounding_of}
use Rattle.touch.specs.Record.{is_slider, slides, digit_mode, along, first_edge, last_edge}
use Rattle.touch.specs.Judge.{good_kind, good_record}
use Rattle.touch.specs.Act.{slid_at, acted_by, acted_of, dragged_of}
use Rattle.touch.specs.Scale.{GoodSliderRecord, stands_at}
use Rattle.touch.proofs.Rounding.{rounding_fair}
use Rattle.touch.proofs.GoodFields.{good_kind_lem, slider_wide}
use Rattle.touch.proofs.Acts.{slider_acts_as_printed}

-- every record, good or not, and two panels set up in any two ways
module _ (setup other : Setup) (r : Record) (old x y : ℕ) where
  -- a key, a step and a record of no kind store the same whatever the sheet
  pub only_sliders_go_by_the_sheet : slides r ≡ false → acted_of setup r old x y ≡ acted_of other r old x y
  unfolding acted_of
  only_sliders_go_by_the_sheet none = go r.kind none
    where
      go : (k : Kind) → is_slider k ≡ false → acted_by (rounding_of setup) k r old x y ≡ acted_by (rounding_of other) k r old x y
      go (Key code) e = refl
      go (Step f) e = refl
      go (Slider f) e = never (cc)
      go Other e = refl

  module _ (edge : AtEdge (first_edge r.mode r.area) (last_edge r.mode r.area) (along r.mode x y)) where
    slid_alike : (f : SliderFields) → slid_at (rounding_of setup) r f old x y ≡ slid_at (rounding_of other) r f old x y
    unfolding slider_stores
    slid_alike f =
        ap (λ (z : ℤ). placed (digit_mode r.mode) old (word_of z))
        (agree_at_the_edges (signed f.begin) (signed f.end) (first_edge r.mode r.area) (last_edge r.mode r.area)
        (rounding_fair setup) (rounding_fair other) (along r.mode x y) edge)

    -- 02, §5: "Both agree at the two edges"
    pub sheets_agree_at_the_edges : acted_of setup r old x y ≡ acted_of other r old x y
    unfolding acted_of
    sheets_agree_at_the_edges = go r.kind refl
      where
        go : (k : Kind) → r.kind ≡ k → acted_by (rounding_of setup) r.kind r old x y ≡ acted_by (rounding_of other) r.kind r old x y
        go (Key code) is = only_sliders_go_by_the_sheet (ap is_slider is)
        go (Step f) is = only_sliders_go_by_the_sheet (ap is_slider is)
        go (Slider f) is = rw is (slid_alike f)
        go Other is = only_sliders_go_by_the_sheet (ap is_slider is)

    -- a caught slider too
    pub drags_agree_at_the_edges : dragged_of setup r old x y ≡ dragged_of other r old x y
    unfolding dragged_of
    drags_agree_at_the_edges = ap (λ (w : ℕ). cond (slides r) w old) sheets_agree_at_the_edges

-- a slider record that is judged good is such a one, where its begin and its end are words
pub good_slider_record : (setup : Setup) (r : Record) (f : SliderFields) → good_record setup r ≡ true → r.kind ≡ Slider f
    → f.begin < 65536 → f.end < 65536 → GoodSliderRecord r f
good_slider_record setup r f good is p q =
    record { is = is; good = ap (good_kind r) (sym is) ∙ good_kind_lem setup r good; begin_is_word = p; end_is_word = q }

module _ (r : Record) (f : SliderFields) (slider : GoodSliderRecord r f) (setup : Setup) (old x y : ℕ) where
  stands : stands_at setup r old x y
      ≡ slid_to (rounding_of setup) (signed f.begin) (signed f.end) (first_edge r.mode r.area) (last_edge r.mode r.area) (along r.mode x y)
  stands = slider_acts_as_printed setup r old x y (ap (good_kind r) slider.is ∙ slider.good) f slider.is slider.begin_is_word slider.end_is_word

  -- the number that is stored lies between begin and end, whichever is greater
  pub stays_between : Between (signed f.begin) (signed f.end) (stands_at setup r old x y)
  stays_between =
      rw stands
      (slid_to_between (rounding_fair setup) (signed f.begin) (signed f.end) (first_edge r.mode r.area) (last_edge r.mode r.area) (along r.mode x y))

  -- by the revised sheet how far it has moved, taken w times, is within half of w of |end − begin|·d
  pub revised_is_within_half : sheet_of setup ≡ Revised
      → 2 * apart (nat_abs (stands_at setup r old x y -ℤ signed f.begin) * (last_edge r.mode r.area - first_edge r.mode r.area))
      (nat_abs (signed f.end -ℤ signed f.begin)
      * (nearest (first_edge r.mode r.area) (last_edge r.mode r.area) (along r.mode x y) - first_edge r.mode r.area))
      ≤ last_edge r.mode r.area - first_edge r.mode r.area
  unfolding rounding_of rounded_by
  revised_is_within_half revised = rw (stands, revised) (revised_within_half _ _ _ _ _ (slider_wide r f slider.good))

module _ (r : Record) (f : SliderFields) (slider : GoodSliderRecord r f) where
  -- the stored number never turns back as the point moves from the first edge to the last, whatever stood in the word
  pub never_turns_back : (setup : Setup) (old x y old' x' y' : ℕ) → along r.mode x y ≤ along r.mode x' y'
      → Onward (signed f.begin) (signed f.end) (stands_at setup r old x y) (stands_at setup r old' x' y')
  never_turns_back setup old x y old' x' y' on =
      rw (stands r f slider setup old x y, stands r f slider setup old' x' y')
      (slid_to_onward (rounding_fair setup) (signed f.begin) (signed f.end) (first_edge r.mode r.area) (last_edge r.mode r.area) _ _ on)

  -- two panels never differ by more than one, whatever their sheets
  pub sheets_differ_by_one_at_most : (setup other : Setup) (old old' x y : ℕ) → nat_abs (stands_at setup r old x y -ℤ stands_at other r old' x y) ≤ 1
  unfolding rounding_of
  sheets_differ_by_one_at_most setup other old old' x y =
      rw (stands r f slider setup old x y, stands r f slider other old' x y)
      (differ_by_one_at_most (sheet_of setup) (sheet_of other) (signed f.begin) (signed f.end) (first_edge r.mode r.area) (last_edge r.mode r.area) (along r.mode x y))
