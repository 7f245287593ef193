-- What a good record promises of its fields: laws of `good_record` for those who use a record of a good table.
use mathlib.Core.Path.{◌≡◌, sym, ap, ◌∙◌}
use mathlib.Core.Bool.{Bool, true, false, ◌&&◌, ◌||◌}
use Prim.Native.Nat.{◌<◌, ◌%◌}
use lib.Dec.{ltb, eqb}
use borrow.Author.Tests.{ltb-true}
use Rattle.wire.specs.Addresses.{word_count}
use Rattle.wire.proofs.Truths.{and_left, and_right}
use Rattle.stores.specs.Store.{good_end}
use Rattle.touch.specs.declared.Setup.{Setup}
use Rattle.touch.specs.declared.SliderFields.{SliderFields}
use Rattle.touch.specs.declared.Kind.TheVariants.{Slider}
use Rattle.touch.specs.declared.Record.{Record}
use Rattle.touch.specs.Record.{no_next, digit_mode, first_edge, last_edge}
use Rattle.touch.specs.Judge.{good_area, good_mode, same_area, good_slider, good_kind, good_record}

otherwise : (a b : Bool) → (a || b) ≡ true → a ≡ false → b ≡ true
otherwise true b e f = cc
otherwise false b e f = e

-- a slider's tests
module _ (r : Record) (f : SliderFields) (good : good_slider r f ≡ true) where
  shape : Bool
  shape = good_mode (digit_mode r.mode) && ltb (r.mode % 16) 2 && same_area r.area f.again

  wide : Bool
  wide = ltb (first_edge r.mode r.area) (last_edge r.mode r.area)

  begins : Bool
  begins = good_end (digit_mode r.mode) f.begin

  ends : Bool
  ends = good_end (digit_mode r.mode) f.end

  to_begin : (shape && no_next r && wide && begins) ≡ true
  unfolding good_slider shape wide begins ends
  to_begin = and_left (shape && no_next r && wide && begins) ends good

  to_wide : (shape && no_next r && wide) ≡ true
  to_wide = and_left (shape && no_next r && wide) begins to_begin

  -- "Next page must be FFxx"
  stays_of_slider : no_next r ≡ true
  stays_of_slider = and_right shape (no_next r) (and_left (shape && no_next r) wide to_wide)

  -- "and the area wider than one point along its axis"
  pub slider_wide : first_edge r.mode r.area < last_edge r.mode r.area
  unfolding wide
  slider_wide = ltb-true (first_edge r.mode r.area) (last_edge r.mode r.area) (and_right (shape && no_next r) wide to_wide)

  -- "Begin and end are signed, or 0 to 255 in byte modes."
  pub slider_ends : (good_end (digit_mode r.mode) f.begin ≡ true) × (good_end (digit_mode r.mode) f.end ≡ true)
  unfolding good_slider shape wide begins ends
  slider_ends = (and_right (shape && no_next r && wide) begins to_begin, and_right (shape && no_next r && wide && begins) ends good)

module _ (s : Setup) (r : Record) where
  pages : Bool
  pages = ltb r.page s.pages && good_area s r.area && (no_next r || ltb r.next s.pages)

  fields : Bool
  fields = pages && eqb r.fe 0xFE && ltb r.word word_count

  module _ (good : good_record s r ≡ true) where
    fields_good : fields ≡ true
    unfolding good_record pages fields
    fields_good = and_left fields (good_kind r r.kind) good

    pages_good : pages ≡ true
    unfolding pages fields
    pages_good =
        and_left pages (eqb r.fe 0xFE) (and_left (pages && eqb r.fe 0xFE) (ltb r.word word_count) fields_good)

    -- the tests of its kind
    pub good_kind_lem : good_kind r r.kind ≡ true
    unfolding good_record pages fields
    good_kind_lem = and_right fields (good_kind r r.kind) good

    -- "the word below 0x7000"
    pub good_word : r.word < word_count
    unfolding pages fields
    good_word = ltb-true r.word word_count (and_right (pages && eqb r.fe 0xFE) (ltb r.word word_count) fields_good)

    -- "Page and next page lie below P"
    pub good_page : r.page < s.pages
    unfolding pages
    good_page =
        let p = ltb r.page s.pages in
        ltb-true r.page s.pages
        (and_left p (good_area s r.area) (and_left (p && good_area s r.area) (no_next r || ltb r.next s.pages) pages_good))

    pub good_next : no_next r ≡ false → r.next < s.pages
    unfolding pages
    good_next n =
        ltb-true r.next s.pages
        (otherwise (no_next r) (ltb r.next s.pages)
        (and_right (ltb r.page s.pages && good_area s r.area) (no_next r || ltb r.next s.pages) pages_good) n)

    pub slider_stays : (f : SliderFields) → r.kind ≡ Slider f → no_next r ≡ true
    slider_stays f e = stays_of_slider r f (ap (good_kind r) (sym e) ∙ good_kind_lem)
