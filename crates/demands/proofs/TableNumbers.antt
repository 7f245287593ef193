-- The numbers that go by a table, at a contact and at a start: 12, then 13; and 13 names the first wrong record.
use Rattle.std.specs.Prelude.{None, Some, is_some, Ok, Err}
use Rattle.std.proofs.lemmas.Option.{some_pair_parts}
use mathlib.Core.Path.{◌≡◌, refl, sym, ap, ◌∙◌}
use mathlib.Core.Bool.{Bool, true, false, cond, not, ◌&&◌, ◌||◌}
use mathlib.Core.List.{List, [], ◌∷◌}
use Prim.Native.Nat.{ℕ, suc, ◌+◌, ◌<◌}
use native.Mathlib.Omega.{arith}
use lib.Dec.{ltb}
use lib.ListN.{length}
use Rattle.wire.specs.Numbers.{first_said}
use Rattle.line.specs.Methods.{busy}
use Rattle.wire.proofs.Truths.{never}
use Rattle.registers.specs.Touched.{is_touch_off}
use Rattle.touch.specs.declared.Setup.{Setup}
use Rattle.touch.specs.declared.Record.{Record}
use Rattle.touch.specs.Table.{Found, first_of, records_of}
use Rattle.touch.specs.Judge.{Verdict, good_record, wrong, named_wrong, not_records, judged}
use Rattle.touch.specs.declared.TableError.TheVariants.{NotRecords, Wrong}
use Rattle.touch.specs.Setup.{good_setup}
use Rattle.contact.specs.Contact.{Touching}
use Rattle.touch.proofs.Tables.{thirteen_names_first}
use Rattle.panel.specs.declared.Panel.{Panel}
use Rattle.panel.specs.declared.ContactError.TheVariants as contact_error
use Rattle.panel.specs.declared.StartError.TheVariants as start_error
use Rattle.panel.specs.Numbers.{start_number, contact_number}
use Rattle.panel.specs.Start.{refuses, start_judged, started}
use Rattle.panel.specs.State.{with_pad}
use Rattle.panel.specs.Contacts.{silent, contact_on, contact_judged, told, touch_not_lent, contacting, Contact}
use Rattle.watch.specs.Judge.{wrong_list}
use Rattle.panel.specs.Sound.{Sound}
use Rattle.demands.specs.Calls.{Moment, contact, number_given}
use Rattle.demands.specs.Demand1.{first_number, NamesFirstWrong, words_not_lent, room_too_small, not_whole_records, one_wrong, off_screen, printed, printed_start}
use Rattle.commands.specs.Lent.{Lent, with_words}
use Rattle.panel.proofs.Ways.{touched_by, told_answers}
use Rattle.demands.proofs.Waits.{busy_waits}

-- a table: 12, then 13
some_wrong : (setup : Setup) (i : ℕ) (rs : List Record) → one_wrong setup rs ≡ is_some (first_of (wrong setup) i rs)
unfolding one_wrong first_of wrong
some_wrong setup i [] = refl
some_wrong setup i (r ∷ rs) = go (not (good_record setup r)) (some_wrong setup (i + 1) rs)
  where
    go : (b : Bool) → one_wrong setup rs ≡ is_some (first_of (wrong setup) (i + 1) rs)
        → (b || one_wrong setup rs) ≡ is_some (cond b (Some (i, r)) (first_of (wrong setup) (i + 1) rs))
    go true ih = refl
    go false ih = ih

-- a contact: "contact 14, 1, 12, 13, 9, 8", with 16 "right after 14"
module _ (panel : Panel) (c : Contact) (lent : Lent) where
  abbrev done_by : Touching
  done_by = touched_by panel c lent

  on_number : contact_number (contact_on panel c lent).contacted.answer
      ≡ cond (is_touch_off panel.registers) 9 (cond (off_screen panel.setup c.x c.y) 8 0)
  unfolding contact_on contact_number off_screen
  on_number = go (is_touch_off panel.registers) (not (ltb c.x panel.setup.width && ltb c.y panel.setup.height))
    where
      go : (a b : Bool)
          → contact_number (cond a (silent (Err contact_error.TouchOff) panel lent) (cond b (silent (Err contact_error.OffScreen) panel lent)
          (silent (Ok tt) (with_pad panel done_by.pad) (with_words lent done_by.words)))).contacted.answer
          ≡ cond a 9 (cond b 8 0)
      go true b = refl
      go false true = refl
      go false false = refl

  judged_number : contact_number (contact_judged (judged panel.setup c.table) panel c lent).contacted.answer
      ≡ cond (not_whole_records c.table) 12 (cond (one_wrong panel.setup (records_of c.table)) 13
      (cond (is_touch_off panel.registers) 9 (cond (off_screen panel.setup c.x c.y) 8 0)))
  unfolding judged contact_judged contact_number not_whole_records
  judged_number =
      rw (some_wrong panel.setup 0 (records_of c.table)) (go (not_whole_records c.table) (first_of (wrong panel.setup) 0 (records_of c.table)))
    where
      go : (b : Bool) (f : Found)
          → contact_number (contact_judged (cond b (Err NotRecords) (named_wrong f)) panel c lent).contacted.answer
          ≡ cond b 12 (cond (is_some f) 13 (cond (is_touch_off panel.registers) 9 (cond (off_screen panel.setup c.x c.y) 8 0)))
      go true f = refl
      go false (Some (i, r)) = refl
      go false None = on_number

pub contact_number_lem : (now : Moment) → Sound now.panel → (c : Contact)
    → number_given now (contact c) ≡ first_number (printed now (contact c))
unfolding number_given printed contacting touch_not_lent contact_number words_not_lent room_too_small first_said
contact_number_lem now sound c =
    rw (← busy_waits now.panel sound)
    (go (touch_not_lent (length now.lent.words) (length now.lent.room)) (wrong_list now.lent.watched) (busy now.panel.reader))
  where
    panel : Panel
    panel = now.panel

    go : (a w b : Bool)
        → contact_number (cond a (silent (Err contact_error.NotLent) panel now.lent) (cond w (silent (Err contact_error.WrongList) panel now.lent)
        (cond b (silent (Err contact_error.Waits) panel now.lent) (told panel.setup (contact_judged (judged panel.setup c.table) panel c now.lent))))).contacted.answer
        ≡ cond a 14 (cond w 16 (cond b 1 (cond (not_whole_records c.table) 12 (cond (one_wrong panel.setup (records_of c.table)) 13
        (cond (is_touch_off panel.registers) 9 (cond (off_screen panel.setup c.x c.y) 8 0))))))
    go true w b = refl
    go false true b = refl
    go false false true = refl
    go false false false =
        ap contact_number (told_answers panel.setup (contact_judged (judged panel.setup c.table) panel c now.lent)) ∙ judged_number panel c now.lent

-- "start 11, 12, 13"
pub start_as_printed : (setup : Setup) (table : List ℕ) → start_number (started setup table).answer ≡ first_number (printed_start setup table)
unfolding started start_judged judged start_number printed_start not_whole_records first_said
start_as_printed setup table =
    rw (some_wrong setup 0 (records_of table)) (go (not (good_setup setup)) (not_whole_records table) (first_of (wrong setup) 0 (records_of table)))
  where
    go : (a b : Bool) (f : Found)
        → start_number (cond a (refuses (Err start_error.WrongSetup)) (start_judged (cond b (Err NotRecords) (named_wrong f)) setup)).answer
        ≡ cond a 11 (cond b 12 (cond (is_some f) 13 0))
    go true b f = refl
    go false true f = refl
    go false false (Some (i, r)) = refl
    go false false None = refl

-- 13: "the first wrong one is named"
picked_within : (picks : Record → Bool) (rs : List Record) (i j : ℕ) (r : Record) → first_of picks i rs ≡ Some (j, r) → j < i + length rs
unfolding first_of
picked_within picks [] i j r is = never (cc)
picked_within picks (q ∷ rs) i j r is = go (picks q) is (picked_within picks rs (i + 1) j r)
  where
    go : (b : Bool) → cond b (Some (i, q)) (first_of picks (i + 1) rs) ≡ Some (j, r) → (first_of picks (i + 1) rs ≡ Some (j, r) → j < i + 1 + length rs)
        → j < i + suc (length rs)
    go true is further = omega (arith, (some_pair_parts _ _ _ _ is).0)
    go false is further = let below = further is in omega arith

wrong_within : (setup : Setup) (table : List ℕ) (i : ℕ) → judged setup table ≡ Err (Wrong i) → i < length (records_of table)
unfolding judged
wrong_within setup table i = go (not_records table) (first_of (wrong setup) 0 (records_of table)) refl
  where
    go : (b : Bool) (f : Found) → first_of (wrong setup) 0 (records_of table) ≡ f → cond b (Err NotRecords) (named_wrong f) ≡ Err (Wrong i) → i < length (records_of table)
    go true f finds is = never (cc)
    go false None finds is = never (cc)
    go false (Some (j, r)) finds is =
        let same : j ≡ i = cc in
        let below = picked_within (wrong setup) (records_of table) 0 j r finds in
        omega arith

names_first : (setup : Setup) (table : List ℕ) (i : ℕ) → judged setup table ≡ Err (Wrong i) → NamesFirstWrong setup table i
names_first setup table i is =
    let named = thirteen_names_first setup table i is in
    record { within = wrong_within setup table i is; is_wrong = named.0; first = named.1.1 }

on_names_none : (panel : Panel) (c : Contact) (lent : Lent) (i : ℕ) → (contact_on panel c lent).contacted.answer ≡ Err (contact_error.WrongRecord i) → ⊥
unfolding contact_on
on_names_none panel c lent i = go (is_touch_off panel.registers) (not (ltb c.x panel.setup.width && ltb c.y panel.setup.height))
  where
    done : Touching
    done = touched_by panel c lent

    go : (a b : Bool)
        → (cond a (silent (Err contact_error.TouchOff) panel lent) (cond b (silent (Err contact_error.OffScreen) panel lent)
        (silent (Ok tt) (with_pad panel done.pad) (with_words lent done.words)))).contacted.answer
        ≡ Err (contact_error.WrongRecord i) → ⊥
    go true b is = never (cc)
    go false true is = never (cc)
    go false false is = never (cc)

pub contact_names_first_wrong : (now : Moment) (c : Contact) (i : ℕ)
    → (contacting now.panel c now.lent).contacted.answer ≡ Err (contact_error.WrongRecord i)
    → NamesFirstWrong now.panel.setup c.table i
unfolding contacting contact_judged
contact_names_first_wrong now c i =
    go (touch_not_lent (length now.lent.words) (length now.lent.room)) (wrong_list now.lent.watched) (busy now.panel.reader)
    (judged now.panel.setup c.table) refl
  where
    panel : Panel
    panel = now.panel

    behind : (v : Verdict) → judged panel.setup c.table ≡ v → (contact_judged v panel c now.lent).contacted.answer ≡ Err (contact_error.WrongRecord i)
        → NamesFirstWrong panel.setup c.table i
    behind (Ok tt) judges is = absurd (on_names_none panel c now.lent i is)
    behind (Err NotRecords) judges is = never (cc)
    behind (Err (Wrong j)) judges is =
        let same : j ≡ i = cc in names_first panel.setup c.table i (judges ∙ ap (λ (k : ℕ). Err (Wrong k)) same)

    go : (a w b : Bool) (v : Verdict) → judged panel.setup c.table ≡ v
        → (cond a (silent (Err contact_error.NotLent) panel now.lent) (cond w (silent (Err contact_error.WrongList) panel now.lent)
        (cond b (silent (Err contact_error.Waits) panel now.lent) (told panel.setup (contact_judged v panel c now.lent))))).contacted.answer
        ≡ Err (contact_error.WrongRecord i)
        → NamesFirstWrong panel.setup c.table i
    go true w b v judges is = never (cc)
    go false true b v judges is = never (cc)
    go false false true v judges is = never (cc)
    go false false false v judges is = behind v judges (sym (told_answers panel.setup (contact_judged v panel c now.lent)) ∙ is)

pub start_names_first_wrong : (setup : Setup) (table : List ℕ) (i : ℕ) → (started setup table).answer ≡ Err (start_error.WrongRecord i) → NamesFirstWrong setup table i
unfolding started start_judged
start_names_first_wrong setup table i = go (not (good_setup setup)) (judged setup table) refl
  where
    go : (b : Bool) (v : Verdict) → judged setup table ≡ v
        → (cond b (refuses (Err start_error.WrongSetup)) (start_judged v setup)).answer ≡ Err (start_error.WrongRecord i) → NamesFirstWrong setup table i
    go true v judges is = never (cc)
    go false (Ok tt) judges is = never (cc)
    go false (Err NotRecords) judges is = never (cc)
    go false (Err (Wrong j)) judges is = let same : j ≡ i = cc in names_first setup table i (judges ∙ ap (λ (k : ℕ). Err (Wrong k)) same)
