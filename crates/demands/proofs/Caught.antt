-- A caught slider's begin and end are 16-bit numbers, whatever calls come; so what it stores while it is dragged is what 01 prints.
use Rattle.std.specs.Prelude.{None, Some}
use mathlib.Core.Path.{◌≡◌, refl, sym, ap, ◌∙◌}
use mathlib.Core.Bool.{Bool, true, false, cond}
use mathlib.Core.List.{List}
use Prim.Native.Nat.{ℕ, ◌<◌}
use native.Mathlib.Omega.{arith}
use lib.ListN.{length, take}
use Rattle.wire.specs.Bytes.{Bytes}
use Rattle.line.specs.Methods.{asked}
use Rattle.wire.proofs.Truths.{never}
use Rattle.registers.specs.declared.Registers.{Registers}
use Rattle.registers.specs.Touched.{is_down, page_of, with_page, with_status, with_place}
use Rattle.words.specs.Words.{word_at_address}
use Rattle.stores.specs.Store.{signed, value_in}
use Rattle.stores.specs.Slider.{slid_to}
use Rattle.touch.specs.declared.Record.{Record}
use Rattle.touch.specs.declared.Kind.{Kind}
use Rattle.touch.specs.declared.Kind.TheVariants.{Slider}
use Rattle.touch.specs.declared.SliderFields.{SliderFields}
use Rattle.touch.specs.Table.{Found}
use Rattle.touch.specs.Record.{slides, is_slider, no_next, digit_mode, along, first_edge, last_edge}
use Rattle.touch.specs.Find.{found}
use Rattle.touch.specs.Act.{acted_of, dragged_of}
use Rattle.touch.specs.Scale.{GoodSliderRecord}
use Rattle.touch.proofs.Acts.{slider_acts_as_printed}
use Rattle.touch.proofs.Scale.{good_slider_record}
use Rattle.touch.proofs.GoodFields.{good_word, good_kind_lem}
use Rattle.touch.proofs.Tables.{found_stands}
use Rattle.contact.specs.Contact.{Catch, touched}
use Rattle.contact.specs.declared.Pad.{Pad}
use Rattle.contact.specs.Contact as Contact
use Rattle.panel.specs.declared.Panel.{Panel}
use Rattle.panel.specs.State.{pad_of}
use Rattle.panel.specs.Start.{new_panel}
use Rattle.panel.specs.Inputs.{fed_byte, fed_mark, fed_bytes}
use Rattle.panel.specs.Reporting.{accepting, handing, handing_over}
use Rattle.panel.proofs.Ways.{contact_ways, lift_ways, second_ways, report_ways}
use Rattle.panel.proofs.Invariant.{reachable_sound}
use Rattle.demands.specs.Calls.{Moment, Call, lend, byte, bytes, mark, second, ask, contact, lift, after, number_given, Typed, Arises, from_start, by_call}
use Rattle.demands.specs.Demand2.{after_contact}
use Rattle.demands.specs.Stored.{other_byte, Stores}
use Rattle.demands.proofs.Calls.{arises_reachable}
use Rattle.demands.proofs.Sizes.{started_new}
use Rattle.touch.specs.declared.Setup.{Setup}
use Rattle.touch.specs.Rounding.{rounding_of}
use Rattle.panel.specs.Watching.{telling}
use Rattle.panel.specs.Contacts.{Contact}
use Rattle.demands.proofs.Stored.{slider_keeps_other}
use Rattle.demands.proofs.TouchEffects.{slider_fields_fit, contact_done_lem, contact_leaves, dragged_words, word_set_lem}

-- a copy of a slider's record that is kept has 16-bit begin and end
abbrev Fits : Catch → Type 0
Fits catch = (r : Record) (f : SliderFields) → catch ≡ Some r → r.kind ≡ Slider f → (f.begin < 65536) × (f.end < 65536)

free_fits : Fits None
free_fits r f is kind = never (cc)

either_fits : (b : Bool) (c d : Catch) → Fits c → Fits d → Fits (cond b c d)
either_fits true c d one two = one
either_fits false c d one two = two

module _ (setup : Setup) (pad : Pad) (table words : List ℕ) (x y : ℕ) (fits : Fits pad.catch) (are : Bytes table) where
  caught_fits : (i : ℕ) (r : Record) → found table (page_of pad.registers) x y ≡ Some (i, r) → Fits (Some r)
  caught_fits i r acts q f is kind =
      let same : r ≡ q = cc in
      let stands = (found_stands table (page_of pad.registers) x y i r acts).0 in
      slider_fields_fit table are i f (ap (λ (s : Record). s.kind) (sym stands ∙ same) ∙ kind)

  touched_fits : Fits (touched setup pad table words x y).pad.catch
  unfolding touched Contact.held_down Contact.pressed Contact.acting Contact.showing Contact.catching
  touched_fits = go (is_down pad.registers)
    where
      now : Registers
      now = with_place (with_status pad.registers 0x01) x y

      shown : (i : ℕ) (r : Record) → found table (page_of pad.registers) x y ≡ Some (i, r) → (b : Bool)
          → Fits (cond b (Contact.pad_with now (Contact.catching r pad.catch)) (Contact.pad_with (with_page now r.next) None)).catch
      shown i r acts true = either_fits (slides r) (Some r) pad.catch (caught_fits i r acts) fits
      shown i r acts false = free_fits

      behind : (f : Found) → found table (page_of pad.registers) x y ≡ f → Fits (Contact.acting setup f now pad.catch words x y).pad.catch
      behind None acts = fits
      behind (Some (i, r)) acts = shown i r acts (no_next r)

      go : (b : Bool) → Fits (cond b (Contact.held_down setup pad words x y) (Contact.pressed setup pad table words x y)).pad.catch
      go true = fits
      go false = behind (found table (page_of pad.registers) x y) refl

call_fits : (now : Moment) (call : Call) → Typed call → Fits now.panel.catch → Fits (after now call).panel.catch
unfolding after Typed fed_byte fed_bytes fed_mark handing handing_over Contact.lifted
call_fits now (lend lent) typed fits = fits
call_fits now (byte b) typed fits = fits
call_fits now (bytes bs) typed fits = fits
call_fits now mark typed fits = fits
call_fits now second typed fits = second_ways now.panel (λ f. Fits f.panel.catch) fits (λ quiet. fits)
call_fits now ask typed fits =
    report_ways now.panel now.lent (λ r. Fits r.reported.panel.catch) (λ h payload. fits) (λ command is. fits)
    (λ good command count is.
    let content = take count (asked now.panel.reader).payload in
    let done = accepting now.panel.setup now.panel.registers command content now.lent in
    either_fits done.effected.performed.drops None now.panel.catch free_fits fits)
call_fits now (contact c) typed fits =
    contact_ways now.panel c now.lent (λ r. Fits r.contacted.panel.catch) (λ answer. fits)
    (λ passed. touched_fits now.panel.setup (pad_of now.panel) c.table now.lent.words c.x c.y fits typed.0)
call_fits now lift typed fits = lift_ways now.panel (λ l. Fits l.panel.catch) fits fits free_fits

always_fits : (now : Moment) → Arises now → Fits now.panel.catch
unfolding new_panel
always_fits _ (from_start setup table lent h1 h2 are area is) = λ r f caught kind.
    let none : (new_panel setup).catch ≡ Some r = ap (λ (p : Panel). p.catch) (sym (started_new setup table is)) ∙ caught in
    free_fits r f none kind
always_fits _ (by_call now call typed arises) = call_fits now call typed (always_fits now arises)

-- what is caught is a good slider record
pub caught_slider_good : (now : Moment) → Arises now → (r : Record) → now.panel.catch ≡ Some r → (f : SliderFields) → r.kind ≡ Slider f → GoodSliderRecord r f
caught_slider_good now arises r caught f kind =
    let sound = reachable_sound now.panel (arises_reachable now arises) in
    let fit = always_fits now arises r f caught kind in
    good_slider_record now.panel.setup r f (sound.pad.caught_good r caught).0 kind fit.0 fit.1

-- "Contact while down: .. a caught slider stores for the point moved to the nearest place in its area"
pub dragged_slider_stores : (now : Moment) → Arises now → (c : Contact) → number_given now (contact c) ≡ 0
    → is_down now.panel.registers ≡ true → (r : Record) → now.panel.catch ≡ Some r → (f : SliderFields) → r.kind ≡ Slider f
    → Stores (digit_mode r.mode) (word_at_address now.lent.words r.word) (word_at_address (after now (contact c)).lent.words r.word)
    (slid_to (rounding_of now.panel.setup) (signed f.begin) (signed f.end) (first_edge r.mode r.area) (last_edge r.mode r.area) (along r.mode c.x c.y))
unfolding after_contact number_given dragged_of telling
dragged_slider_stores now arises c done down r caught f kind =
    let setup = now.panel.setup in
    let sound = reachable_sound now.panel (arises_reachable now arises) in
    let good = (sound.pad.caught_good r caught).0 in
    let fit = always_fits now arises r f caught kind in
    let small = good_word setup r good in
    let whole = (contact_done_lem now.panel c now.lent done).whole in
    let inside : r.word < length now.lent.words = omega arith in
    let old = word_at_address now.lent.words r.word in
    let dragged : word_at_address (after now (contact c)).lent.words r.word ≡ acted_of setup r old c.x c.y =
    ap (λ (m : Moment). word_at_address m.lent.words r.word) (contact_leaves now c done)
    ∙ ap (λ (l : List ℕ). word_at_address l r.word) (dragged_words setup (pad_of now.panel) c.table now.lent.words c.x c.y r down caught)
    ∙ word_set_lem now.lent.words r.word (dragged_of setup r old c.x c.y) inside
    ∙ ap (λ (k : Kind). cond (is_slider k) (acted_of setup r old c.x c.y) old) kind in
    record {
      stored = ap (value_in (digit_mode r.mode)) dragged ∙ slider_acts_as_printed setup r old c.x c.y (good_kind_lem setup r good) f kind fit.0 fit.1;
      other_stays = ap (other_byte (digit_mode r.mode)) dragged ∙ slider_keeps_other setup r old c.x c.y f kind;
    }
