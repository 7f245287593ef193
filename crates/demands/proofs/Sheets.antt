-- 02, §5, of a panel's calls: a panel keeps to its sheet; at a contact at an edge of the slider that acts, and wherever no slider acts, the sheet does not matter.
use Rattle.std.specs.Prelude.{Option, None, Some, Ok, Err}
use Rattle.words.specs.declared.WordAddress.{WordAddress}
use mathlib.Core.Path.{◌≡◌, refl, sym, ap, ◌∙◌}
use mathlib.Core.Bool.{Bool, true, false, cond, not}
use mathlib.Core.List.{List, ◌∷◌, ◌++◌}
use mathlib.Core.Logic.{◌⊎◌, inl, inr}
use Prim.Native.Nat.{ℕ, ◌%◌}
use native.Mathlib.Omega.{arith}
use lib.Dec.{eqb}
use lib.ListN.{length}
use Rattle.wire.specs.Bytes.{Bytes}
use Rattle.stores.specs.Sheets.{AtEdge}
use Rattle.words.specs.Words.{word_at_address, word_set}
use Rattle.registers.specs.declared.Registers.{Registers}
use Rattle.registers.specs.Touched.{is_down, page_of, is_touch_off, with_status, with_place}
use Rattle.touch.specs.declared.Setup.{Setup}
use Rattle.touch.specs.declared.SliderFields.{SliderFields}
use Rattle.touch.specs.declared.Kind.TheVariants.{Slider}
use Rattle.touch.specs.declared.Record.{Record}
use Rattle.touch.specs.Judge.{Verdict, good_record, wrong, judged}
use Rattle.touch.specs.Table.{Found}
use Rattle.touch.specs.Setup.{checking_of}
use Rattle.touch.specs.Rounding.{sheet_of}
use Rattle.touch.specs.Record.{slides, along, first_edge, last_edge}
use Rattle.touch.specs.Find.{found}
use Rattle.touch.specs.Act.{acted_of, dragged_of}
use Rattle.touch.specs.Scale.{GoodSliderRecord}
use Rattle.touch.proofs.Tables.{found_stands, found_good}
use Rattle.touch.proofs.Scale as Scale
use Rattle.contact.specs.Contact.{Catch, Touching, touched}
use Rattle.contact.specs.declared.Pad.{Pad}
use Rattle.contact.specs.Contact as Touch
use Rattle.wire.specs.ByteOrder.{high_first}
use Rattle.wire.specs.Room.{over}
use Rattle.frame.specs.Frame.{frame_of}
use Rattle.line.specs.Methods.{busy}
use Rattle.watch.specs.Watched.{with_values}
use Rattle.watch.specs.Sending.{sending}
use Rattle.watch.specs.Judge.{wrong_list}
use Rattle.commands.specs.Lent.{Lent, with_words, with_room, with_watched}
use Rattle.panel.specs.declared.Panel.{Panel}
use Rattle.panel.specs.Answers.{ContactAnswer}
use Rattle.panel.specs.declared.ContactError.TheVariants as contact_error
use Rattle.panel.specs.State.{header_of, pad_of, with_pad}
use Rattle.panel.specs.Watching.{Telling, tells, unasked, telling}
use Rattle.panel.specs.Contacts.{Contact, Contacting, contacts, silent, on_screen, is_touch, contact_on, contact_judged, told, touch_not_lent, contacting}
use Rattle.panel.specs.Numbers.{contact_said}
use Rattle.demands.specs.Calls.{Moment, Call, contact, after, after_all}
use Rattle.demands.specs.Sheets.{with_flags, flagged, flagged_moment, answer_to, ActsAt, while_up, while_down, EdgesOnly}
use Rattle.demands.proofs.FromNew.{all_setup_stays}
use Rattle.demands.proofs.TouchEffects.{slider_fields_fit}

-- "Plants keep panels of both sheets": over any calls a panel keeps to its own
pub keeps_to_its_sheet : (now : Moment) (calls : List Call) → sheet_of (after_all now calls).panel.setup ≡ sheet_of now.panel.setup
keeps_to_its_sheet now calls = ap sheet_of (all_setup_stays now calls)

-- what a contact answers and leaves, of a panel with other flags
abbrev reflagged : (flags : ℕ) → Contacting → Contacting
reflagged flags done =
    contacts
    (record { answer = done.contacted.answer; written = done.contacted.written; panel = flagged flags done.contacted.panel }) done.lent

module _ (now : Moment) (c : Contact) (edges : EdgesOnly now c) (flags : ℕ) (same : flags % 4 ≡ now.panel.setup.flags % 4) where
  -- how the panel is set up
  abbrev setup : Setup
  setup = now.panel.setup

  -- and with the other flags
  abbrev other : Setup
  other = with_flags flags setup

  stores_alike : (r : Record) → ActsAt now c r → (old : ℕ) → acted_of other r old c.x c.y ≡ acted_of setup r old c.x c.y
  stores_alike r acts old = go (edges r acts)
    where
      go : (slides r ≡ false) ⊎ AtEdge (first_edge r.mode r.area) (last_edge r.mode r.area) (along r.mode c.x c.y)
          → acted_of other r old c.x c.y ≡ acted_of setup r old c.x c.y
      go (inl none) = Scale.only_sliders_go_by_the_sheet other setup r old c.x c.y none
      go (inr edge) = Scale.sheets_agree_at_the_edges other setup r old c.x c.y edge

  acts_alike : (registers : Registers) (catch : Catch) (f : Found) → is_down now.panel.registers ≡ false
      → found c.table (page_of now.panel.registers) c.x c.y ≡ f
      → Touch.acting other f registers catch now.lent.words c.x c.y ≡ Touch.acting setup f registers catch now.lent.words c.x c.y
  unfolding Touch.acting
  acts_alike registers catch None up is = refl
  acts_alike registers catch (Some (i, r)) up is =
      let words = now.lent.words in
      ap (λ (w : ℕ). Touch.touching (Touch.showing r registers (Touch.catching r catch)) (word_set words r.word w))
      (stores_alike r (while_up i up is) (word_at_address words r.word))

  drags_alike : (catch : Catch) → is_down now.panel.registers ≡ true → now.panel.catch ≡ catch
      → Touch.dragging other catch now.lent.words c.x c.y ≡ Touch.dragging setup catch now.lent.words c.x c.y
  unfolding Touch.dragging dragged_of
  drags_alike None down is = refl
  drags_alike (Some r) down is =
      let words = now.lent.words in
      let old = word_at_address words r.word in
      ap (λ (w : ℕ). word_set words r.word (cond (slides r) w old)) (stores_alike r (while_down down is) old)

  touched_alike : touched other (pad_of now.panel) c.table now.lent.words c.x c.y
      ≡ touched setup (pad_of now.panel) c.table now.lent.words c.x c.y
  unfolding touched Touch.held_down Touch.pressed
  touched_alike = go (is_down now.panel.registers) refl
    where
      pad : Pad
      pad = pad_of now.panel

      words : List ℕ
      words = now.lent.words

      go : (b : Bool) → is_down now.panel.registers ≡ b
          → cond b (Touch.held_down other pad words c.x c.y) (Touch.pressed other pad c.table words c.x c.y)
          ≡ cond b (Touch.held_down setup pad words c.x c.y) (Touch.pressed setup pad c.table words c.x c.y)
      go true down =
          ap (λ (l : List ℕ). Touch.touching (Touch.pad_with (with_place (with_status pad.registers 0x03) c.x c.y) pad.catch) l)
          (drags_alike pad.catch down refl)
      go false up =
          acts_alike (with_place (with_status pad.registers 0x01) c.x c.y) pad.catch
          (found c.table (page_of pad.registers) c.x c.y) up refl

  on_alike : contact_on (flagged flags now.panel) c now.lent ≡ reflagged flags (contact_on now.panel c now.lent)
  unfolding contact_on
  on_alike = go (is_touch_off now.panel.registers) (not (on_screen setup c.x c.y))
    where
      done : Setup → Touching
      done s = touched s (pad_of now.panel) c.table now.lent.words c.x c.y

      left : Panel → Touching → Contacting
      left panel t = silent (Ok tt) (with_pad panel t.pad) (with_words now.lent t.words)

      go : (a b : Bool)
          → cond a (silent (Err contact_error.TouchOff) (flagged flags now.panel) now.lent)
          (cond b (silent (Err contact_error.OffScreen) (flagged flags now.panel) now.lent) (left (flagged flags now.panel) (done other)))
          ≡ reflagged flags
          (cond a (silent (Err contact_error.TouchOff) now.panel now.lent)
          (cond b (silent (Err contact_error.OffScreen) now.panel now.lent) (left now.panel (done setup))))
      go true b = refl
      go false true = refl
      go false false = ap (left (flagged flags now.panel)) touched_alike

  judged_alike : (v : Verdict) → contact_judged v (flagged flags now.panel) c now.lent ≡ reflagged flags (contact_judged v now.panel c now.lent)
  unfolding contact_judged
  judged_alike (Ok tt) = on_alike
  judged_alike (Err why) = refl

  same_verdict : judged other c.table ≡ judged setup c.table
  unfolding judged wrong good_record
  same_verdict = refl

  -- the two flags besides are as they were
  same_checking : checking_of other ≡ checking_of setup
  same_checking = let lowest : flags % 2 ≡ setup.flags % 2 = omega (arith, same) in ap (λ (n : ℕ). eqb n 1) lowest

  unasked_alike : (words : List ℕ) (d : Option WordAddress) → unasked other words d ≡ unasked setup words d
  unfolding unasked
  unasked_alike words None = refl
  unasked_alike words (Some address) =
      ap (λ (b : Bool). frame_of b (header_of setup) 0x83 (high_first address.0 ++ (1 ∷ high_first (word_at_address words address.0)))) same_checking

  telling_alike : (lent : Lent) → telling other lent ≡ telling setup lent
  unfolding telling
  telling_alike lent =
      let sent = sending lent.words lent.watched in
      ap (λ (frame : List ℕ). tells (length frame) (with_watched (with_room lent (over frame lent.room)) (with_values lent.watched sent.values)))
      (unasked_alike lent.words sent.due)

  told_alike : (done : Contacting) → told other (reflagged flags done) ≡ reflagged flags (told setup done)
  unfolding told
  told_alike done = go (is_touch done.contacted.answer)
    where
      left : Panel → Telling → Contacting
      left panel t = contacts (record { answer = done.contacted.answer; written = t.written; panel = panel }) t.lent

      go : (b : Bool)
          → cond b (left (flagged flags done.contacted.panel) (telling other done.lent)) (reflagged flags done)
          ≡ reflagged flags (cond b (left done.contacted.panel (telling setup done.lent)) done)
      go true = ap (left (flagged flags done.contacted.panel)) (telling_alike done.lent)
      go false = refl

  contacting_alike : contacting (flagged flags now.panel) c now.lent ≡ reflagged flags (contacting now.panel c now.lent)
  unfolding contacting
  contacting_alike =
      go (touch_not_lent (length now.lent.words) (length now.lent.room)) (wrong_list now.lent.watched) (busy now.panel.reader)
    where
      refusal : ContactAnswer → Panel → Contacting
      refusal answer panel = silent answer panel now.lent

      judging : Setup → Panel → Contacting
      judging s panel = contact_judged (judged s c.table) panel c now.lent

      ends : told other (judging other (flagged flags now.panel)) ≡ reflagged flags (told setup (judging setup now.panel))
      ends =
          ap (λ (v : Verdict). told other (contact_judged v (flagged flags now.panel) c now.lent)) same_verdict
          ∙ ap (told other) (judged_alike (judged setup c.table))
          ∙ told_alike (judging setup now.panel)

      go : (p q b : Bool)
          → cond p (refusal (Err contact_error.NotLent) (flagged flags now.panel))
          (cond q (refusal (Err contact_error.WrongList) (flagged flags now.panel))
          (cond b (refusal (Err contact_error.Waits) (flagged flags now.panel)) (told other (judging other (flagged flags now.panel)))))
          ≡ reflagged flags
          (cond p (refusal (Err contact_error.NotLent) now.panel)
          (cond q (refusal (Err contact_error.WrongList) now.panel) (cond b (refusal (Err contact_error.Waits) now.panel) (told setup (judging setup now.panel)))))
      go true q b = refl
      go false true b = refl
      go false false true = refl
      go false false false = ends

  -- 02, §5: "Both agree at the two edges": the contact is answered alike, with the record that 13 names and how many bytes were written, and leaves the same panel
  -- but for its flags, and the same words, room and list
  pub sheets_agree_at_the_edges :
      (answer_to (flagged_moment flags now) c ≡ answer_to now c) × (after (flagged_moment flags now) (contact c) ≡ flagged_moment flags (after now (contact c)))
  unfolding after
  sheets_agree_at_the_edges = (
    ap (λ (d : Contacting). contact_said d.contacted.answer d.contacted.written) contacting_alike,
    ap (λ (d : Contacting). record { panel = d.contacted.panel; lent = d.lent }) contacting_alike,
  )

-- every slider that a contact finds in a table that is judged good is a good slider record
pub found_slider_good : (setup : Setup) (table : List ℕ) → Bytes table → judged setup table ≡ Ok tt → (page x y i : ℕ) (r : Record)
    → found table page x y ≡ Some (i, r) → (f : SliderFields) → r.kind ≡ Slider f → GoodSliderRecord r f
found_slider_good setup table are good page x y i r acts f is =
    let stands = (found_stands table page x y i r acts).0 in
    let fit = slider_fields_fit table are i f (ap (λ (q : Record). q.kind) (sym stands) ∙ is) in
    Scale.good_slider_record setup r f (found_good setup table page x y i r good acts) is fit.0 fit.1
