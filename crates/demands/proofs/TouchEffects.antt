-- What a contact and a lift that are done leave, and what the record that acts or is caught stores.
use Rattle.std.specs.Prelude.{Some, Ok, Err}
use mathlib.Core.Path.{◌≡◌, refl, sym, ap, ◌∙◌}
use mathlib.Core.Logic.{◌⊎◌, inl, inr, ⊎_elim}
use mathlib.Core.Bool.{Bool, true, false, cond, not}
use mathlib.Core.List.{List}
use Prim.Native.Nat.{ℕ, ◌*◌, ◌≤◌, ◌<◌}
use native.Mathlib.Omega.{arith}
use borrow.Author.Tests.{eqb-true, not-false}
use lib.Dec.{eqb, ltb}
use lib.ListN.{length, take, drop}
use lib.Seq.{get_or-set_same}
use Rattle.wire.specs.Bytes.{Bytes}
use Rattle.wire.specs.ByteOrder.{word_at}
use Rattle.frame.specs.Writer.{least_room}
use Rattle.line.specs.Methods.{busy}
use Rattle.wire.proofs.Truths.{never, or_left}
use Rattle.registers.specs.Touched.{is_down, page_of, with_status, with_place}
use Rattle.stores.specs.Store.{signed, value_in, key_stores}
use Rattle.stores.specs.Step.{stepped, fenced}
use Rattle.stores.specs.Slider.{slid_to}
use Rattle.wire.specs.Addresses.{word_count}
use Rattle.words.specs.Words.{word_at_address, word_set}
use Rattle.touch.specs.declared.Record.{Record}
use Rattle.touch.specs.declared.Kind.TheVariants.{Key, Step, Slider, Other}
use Rattle.touch.specs.declared.StepFields.{StepFields}
use Rattle.touch.specs.declared.SliderFields.{SliderFields}
use Rattle.touch.specs.declared.Kind.{Kind}
use Rattle.touch.specs.Table.{Found, record_at, record_bytes}
use Rattle.touch.specs.Record.{step_fields, slider_fields, kind_of, record_of, up as steps_up, round as goes_round, digit_mode, along, first_edge, last_edge}
use Rattle.touch.specs.Find.{found}
use Rattle.touch.specs.Act.{acted_by, acted_of, dragged_of}
use Rattle.touch.proofs.Acts.{step_acts_as_printed, slider_acts_as_printed}
use Rattle.touch.specs.Judge.{good_record, judged}
use Rattle.watch.specs.Judge.{wrong_list}
use Rattle.touch.proofs.GoodFields.{good_word, good_kind_lem}
use Rattle.touch.proofs.Tables.{found_stands, found_good}
use Rattle.contact.specs.Contact.{Catch, touched}
use Rattle.contact.specs.declared.Pad.{Pad}
use Rattle.contact.specs.Contact as Contact
use Rattle.panel.specs.declared.Panel.{Panel}
use Rattle.panel.specs.Answers.{ContactAnswer}
use Rattle.panel.specs.declared.ContactError.{ContactError}
use Rattle.panel.specs.declared.ContactError.TheVariants as contact_error
use Rattle.panel.specs.declared.LiftError.TheVariants as lift_error
use Rattle.panel.specs.Numbers.{contact_number, lift_number}
use Rattle.panel.specs.State.{pad_of, with_pad}
use Rattle.panel.specs.Watching.{telling}
use Rattle.panel.specs.Contacts.{is_touch, touch_not_lent, contacting, lifting, Contact}
use Rattle.panel.proofs.Ways.{lifts, contact_done, Passed, contact_refused_or_done}
use Rattle.demands.specs.Calls.{Moment, contact, lift, with_panel, after, number_given}
use Rattle.demands.specs.Demand2.{after_contact, after_lift}
use Rattle.demands.proofs.Answers.{moment_touched}
use Rattle.commands.specs.Lent.{Lent}
use Rattle.touch.specs.declared.Setup.{Setup}
use Rattle.touch.specs.Rounding.{rounding_of}
use Rattle.demands.specs.Stored.{other_byte, Stores}
use Rattle.demands.proofs.Storing.{word_below, record_bytes_lem}
use Rattle.demands.proofs.Stored.{step_keeps_other, slider_keeps_other}

-- a contact that is done was lent what it must be, no report waited, the table was good, touch was on and the point on the screen
pub record Touched (panel : Panel) (c : Contact) (lent : Lent) : Type 0 where
  pub whole : length lent.words ≡ word_count
  pub good_list : wrong_list lent.watched ≡ false
  pub good : judged panel.setup c.table ≡ Ok tt
  pub touches : contacting panel c lent ≡ contact_done panel c lent

-- the numbers of a contact that is refused
pub refused_contact : (why : ContactError) → (contact_number (Err why) ≡ 1) ⊎ (8 ≤ contact_number (Err why))
unfolding contact_number
refused_contact contact_error.NotLent = inr (omega arith)
refused_contact contact_error.WrongList = inr (omega arith)
refused_contact contact_error.Waits = inl refl
refused_contact contact_error.NotRecords = inr (omega arith)
refused_contact (contact_error.WrongRecord i) = inr (omega arith)
refused_contact contact_error.TouchOff = inr (omega arith)
refused_contact contact_error.OffScreen = inr (omega arith)

-- only a contact that is done has number 0
number_touches : (answer : ContactAnswer) → contact_number answer ≡ 0 → is_touch answer ≡ true
unfolding contact_number
number_touches (Ok tt) is = refl
number_touches (Err why) is = ⊎_elim (λ one. absurd (omega arith)) (λ more. absurd (omega arith)) (refused_contact why)

lent_whole : (words room : ℕ) → touch_not_lent words room ≡ false → words ≡ word_count
unfolding touch_not_lent
lent_whole words room well =
    eqb-true words word_count (not-false (eqb words word_count) (or_left (not (eqb words word_count)) (ltb room least_room) well))

pub contact_done_lem : (panel : Panel) (c : Contact) (lent : Lent) → contact_number (contacting panel c lent).contacted.answer ≡ 0 → Touched panel c lent
contact_done_lem panel c lent is =
    let ways = contact_refused_or_done panel c lent
    (λ r. contact_number r.contacted.answer ≡ 0 → Passed panel c lent × (r ≡ contact_done panel c lent))
    (λ answer none zero. never (cc (number_touches answer zero))) (λ passed zero. (passed, refl)) is in
    record {
      whole = lent_whole (length lent.words) (length lent.room) ways.0.well_lent_lem;
      good_list = ways.0.list_good;
      good = ways.0.table_good;
      touches = ways.1;
    }

-- "Contact while up: ..", "Contact while down: .."
pub contact_leaves : (now : Moment) (c : Contact) → number_given now (contact c) ≡ 0 → after now (contact c) ≡ after_contact now c
unfolding number_given after after_contact
contact_leaves now c is = ap moment_touched (contact_done_lem now.panel c now.lent is).touches

-- "Lift: status 02, the catch is dropped."
pub lift_leaves : (now : Moment) → number_given now lift ≡ 0 → after now lift ≡ after_lift now
unfolding number_given after after_lift lifting lift_number
lift_leaves now is = go (busy panel.reader) (not (is_down panel.registers)) is
  where
    panel : Panel
    panel = now.panel

    lifted : Panel
    lifted = with_pad panel (Contact.lifted (pad_of panel))

    go : (a b : Bool) → lift_number (cond a (lifts (Err lift_error.Waits) panel) (cond b (lifts (Err lift_error.IsUp) panel) (lifts (Ok tt) lifted))).answer ≡ 0
        → with_panel now (cond a (lifts (Err lift_error.Waits) panel) (cond b (lifts (Err lift_error.IsUp) panel) (lifts (Ok tt) lifted))).panel ≡ with_panel now lifted
    go true b is = absurd (omega arith)
    go false true is = absurd (omega arith)
    go false false is = refl

-- the fields of a record of a table of bytes are 16-bit numbers
module _ (table : List ℕ) (are : Bytes table) (i : ℕ) where
  abbrev bytes : List ℕ
  bytes = take record_bytes (drop (i * record_bytes) table)

  field_below : (at : ℕ) → word_at bytes at < 65536
  field_below = word_below bytes (record_bytes_lem table are i)

  step_fields_fit : (f : StepFields) → (record_at table i).kind ≡ Step f → (f.least < 65536) × (f.greatest < 65536)
  unfolding record_of kind_of step_fields
  step_fields_fit f = go (eqb (word_at bytes 0x0E) 0xFE05) (eqb (word_at bytes 0x0E) 0xFE02) (eqb (word_at bytes 0x0E) 0xFE03)
    where
      go : (a b c : Bool) → cond a (Key (word_at bytes 0x14)) (cond b (Step (step_fields bytes)) (cond c (Slider (slider_fields bytes)) Other)) ≡ Step f
          → (f.least < 65536) × (f.greatest < 65536)
      go true b c is = never (cc)
      go false false true is = never (cc)
      go false false false is = never (cc)
      go false true c is =
          let same : step_fields bytes ≡ f = cc in
          let least = ap (λ (g : StepFields). g.least) same in
          let greatest = ap (λ (g : StepFields). g.greatest) same in
          (omega (arith, field_below 0x18), omega (arith, field_below 0x1A))

  pub slider_fields_fit : (f : SliderFields) → (record_at table i).kind ≡ Slider f → (f.begin < 65536) × (f.end < 65536)
  unfolding record_of kind_of slider_fields
  slider_fields_fit f = go (eqb (word_at bytes 0x0E) 0xFE05) (eqb (word_at bytes 0x0E) 0xFE02) (eqb (word_at bytes 0x0E) 0xFE03)
    where
      go : (a b c : Bool) → cond a (Key (word_at bytes 0x14)) (cond b (Step (step_fields bytes)) (cond c (Slider (slider_fields bytes)) Other)) ≡ Slider f
          → (f.begin < 65536) × (f.end < 65536)
      go true b c is = never (cc)
      go false true c is = never (cc)
      go false false false is = never (cc)
      go false false true is =
          let same : slider_fields bytes ≡ f = cc in
          let begin = ap (λ (g : SliderFields). g.begin) same in
          let end = ap (λ (g : SliderFields). g.end) same in
          (omega (arith, field_below 0x1C), omega (arith, field_below 0x1E))

-- the words that a record which acts, and a caught one, leave
pressed_words : (setup : Setup) (pad : Pad) (table words : List ℕ) (x y i : ℕ) (r : Record) → is_down pad.registers ≡ false
    → found table (page_of pad.registers) x y ≡ Some (i, r)
    → (touched setup pad table words x y).words ≡ word_set words r.word (acted_of setup r (word_at_address words r.word) x y)
unfolding touched Contact.pressed Contact.acting
pressed_words setup pad table words x y i r up acts =
    let now = with_place (with_status pad.registers 0x01) x y in
    ap (λ (b : Bool). (cond b (Contact.held_down setup pad words x y) (Contact.pressed setup pad table words x y)).words) up
    ∙ ap (λ (f : Found). (Contact.acting setup f now pad.catch words x y).words) acts

pub dragged_words : (setup : Setup) (pad : Pad) (table words : List ℕ) (x y : ℕ) (r : Record) → is_down pad.registers ≡ true → pad.catch ≡ Some r
    → (touched setup pad table words x y).words ≡ word_set words r.word (dragged_of setup r (word_at_address words r.word) x y)
unfolding touched Contact.held_down Contact.dragging
dragged_words setup pad table words x y r down is =
    ap (λ (b : Bool). (cond b (Contact.held_down setup pad words x y) (Contact.pressed setup pad table words x y)).words) down
    ∙ ap (λ (c : Catch). Contact.dragging setup c words x y) is

-- a word that was set
pub word_set_lem : (words : List ℕ) (address value : ℕ) → address < length words → word_at_address (word_set words address value) address ≡ value
unfolding word_set word_at_address
word_set_lem words address value inside = get_or-set_same words address value 0 inside

-- "Contact while up: .. The first record of the current page holding the point acts"
module _ (now : Moment) (c : Contact) (are : Bytes c.table) (done : number_given now (contact c) ≡ 0)
    (up : is_down now.panel.registers ≡ false) (i : ℕ) (r : Record) (acts : found c.table (page_of now.panel.registers) c.x c.y ≡ Some (i, r)) where
  acting_good : good_record now.panel.setup r ≡ true
  unfolding number_given
  acting_good =
      found_good now.panel.setup c.table (page_of now.panel.registers) c.x c.y i r (contact_done_lem now.panel c now.lent done).good acts

  pub acted_word : word_at_address (after now (contact c)).lent.words r.word ≡ acted_of now.panel.setup r (word_at_address now.lent.words r.word) c.x c.y
  unfolding after_contact number_given telling
  acted_word =
      let small = good_word now.panel.setup r acting_good in
      let whole = (contact_done_lem now.panel c now.lent done).whole in
      let inside : r.word < length now.lent.words = omega arith in
      ap (λ (m : Moment). word_at_address m.lent.words r.word) (contact_leaves now c done)
      ∙ ap (λ (l : List ℕ). word_at_address l r.word) (pressed_words now.panel.setup (pad_of now.panel) c.table now.lent.words c.x c.y i r up acts)
      ∙ word_set_lem now.lent.words r.word (acted_of now.panel.setup r (word_at_address now.lent.words r.word) c.x c.y) inside

  same_record : r ≡ record_at c.table i
  same_record = (found_stands c.table (page_of now.panel.registers) c.x c.y i r acts).0

  -- Key: "mode 0 whole word, 1 high byte, 2 low byte; 14 code"
  pub key_stores_lem : (code : ℕ) → r.kind ≡ Key code
      → word_at_address (after now (contact c)).lent.words r.word ≡ key_stores r.mode (word_at_address now.lent.words r.word) code
  unfolding acted_of
  key_stores_lem code is = acted_word ∙ ap (λ (k : Kind). acted_by (rounding_of now.panel.setup) k r (word_at_address now.lent.words r.word) c.x c.y) is

  -- "Step: t is the value with the step added or taken, as whole numbers. ..": the value that the mode finds in the word
  pub step_stores : (f : StepFields) → r.kind ≡ Step f
      → Stores r.mode (word_at_address now.lent.words r.word) (word_at_address (after now (contact c)).lent.words r.word)
      (fenced (steps_up f) (goes_round f) (signed f.least) (signed f.greatest) (stepped (steps_up f) (value_in r.mode (word_at_address now.lent.words r.word)) f.step))
  step_stores f is =
      let fit = step_fields_fit c.table are i f (ap (λ (q : Record). q.kind) (sym same_record) ∙ is) in
      let setup = now.panel.setup in
      let old = word_at_address now.lent.words r.word in
      record {
        stored = ap (value_in r.mode) acted_word ∙ step_acts_as_printed setup r old c.x c.y (good_kind_lem setup r acting_good) f is fit.0 fit.1;
        other_stays = ap (other_byte r.mode) acted_word ∙ step_keeps_other setup r old c.x c.y f is;
      }

  -- "Slider: with d the distance from the first edge and w the edge-to-edge distance, |end − begin|·d / w rounded down is moved from begin towards end.", by
  -- 02, §5, rounded as the panel's sheet says
  pub slider_stores : (f : SliderFields) → r.kind ≡ Slider f
      → Stores (digit_mode r.mode) (word_at_address now.lent.words r.word) (word_at_address (after now (contact c)).lent.words r.word)
      (slid_to (rounding_of now.panel.setup) (signed f.begin) (signed f.end) (first_edge r.mode r.area) (last_edge r.mode r.area) (along r.mode c.x c.y))
  slider_stores f is =
      let fit = slider_fields_fit c.table are i f (ap (λ (q : Record). q.kind) (sym same_record) ∙ is) in
      let setup = now.panel.setup in
      let old = word_at_address now.lent.words r.word in
      record {
        stored = ap (value_in (digit_mode r.mode)) acted_word
            ∙ slider_acts_as_printed setup r old c.x c.y (good_kind_lem setup r acting_good) f is fit.0 fit.1;
        other_stays = ap (other_byte (digit_mode r.mode)) acted_word ∙ slider_keeps_other setup r old c.x c.y f is;
      }
