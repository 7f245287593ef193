-- Laws of contacts and lifts: one for each number, in 01's order.
use Rattle.std.specs.Prelude.{Ok, Err, is_err}
use mathlib.Core.Path.{◌≡◌, refl, sym, ap, ◌∙◌}
use mathlib.Core.Bool.{Bool, true, false, cond, not, true≢false}
use mathlib.Core.List.{List}
use Prim.Native.Nat.{ℕ, ◌≤◌}
use borrow.Author.Tests.{ltb-false, not-true, not-false}
use lib.Dec.{eqb, ltb}
use lib.ListN.{length}
use Rattle.wire.specs.Addresses.{word_count}
use Rattle.wire.proofs.Truths.{or_right}
use Rattle.frame.specs.Writer.{least_room}
use Rattle.line.specs.Methods.{busy}
use Rattle.registers.specs.Touched.{is_down, is_touch_off}
use Rattle.touch.specs.Judge.{Verdict}
use Rattle.touch.specs.declared.TableError.{TableError}
use Rattle.touch.specs.Judge.{judged}
use Rattle.watch.specs.Watched.{Watched}
use Rattle.watch.specs.Judge.{wrong_list}
use Rattle.commands.specs.Lent.{Lent, lending, with_words}
use Rattle.contact.specs.declared.Pad.{Pad}
use Rattle.contact.specs.Contact.{Touching, touching, touched, lifted}
use Rattle.panel.specs.declared.Panel.{Panel}
use Rattle.panel.specs.Answers.{ContactAnswer}
use Rattle.panel.specs.declared.ContactError.{ContactError}
use Rattle.panel.specs.declared.ContactError.TheVariants as contact_error
use Rattle.panel.specs.declared.Contacted.{Contacted}
use Rattle.panel.specs.declared.LiftError.TheVariants as lift_error
use Rattle.panel.specs.declared.Lifted.{Lifted}
use Rattle.panel.specs.State.{pad_of, with_pad}
use Rattle.panel.specs.Watching.{Telling, tells, telling}
use Rattle.panel.specs.Inner.{before_table}
use Rattle.panel.specs.Contacts.{on_screen, Contact, contact_at, Contacting, contacts, contact_error_of, only_answers, silent, contact_on, contact_judged, is_touch, told, touch_not_lent, contacting, lifting}

-- the touch itself, which is lent words and nothing else
module _ (panel : Panel) (table words : List ℕ) (x y : ℕ) (r : Contacted) where
  abbrev at : Contact
  at = contact_at table x y

  module _ (off : Bool) (is-off : off ≡ is_touch_off panel.registers) where
    pub number_9 : off ≡ true → r ≡ only_answers (Err contact_error.TouchOff) panel → (rest : Lent) → contacts r (with_words rest words) ≡ contact_on panel at (with_words rest words)
    unfolding contact_on
    number_9 is is-r rest = rw (sym is-off ∙ is, is-r)

    module _ (live : off ≡ false) where
      pub number_8 : (on : Bool) → on ≡ on_screen panel.setup x y → on ≡ false → r ≡ only_answers (Err contact_error.OffScreen) panel → (rest : Lent)
          → contacts r (with_words rest words) ≡ contact_on panel at (with_words rest words)
      unfolding contact_on
      number_8 on is-on is is-r rest = rw (sym is-off ∙ live, sym is-on ∙ is, is-r)

  module _ (verdict : Verdict) (is-verdict : verdict ≡ judged panel.setup table) where
    judged_so : (given : Verdict) → verdict ≡ given → (lent : Lent) → contact_judged given panel at lent ≡ contact_judged (judged panel.setup table) panel at lent
    judged_so given is lent = ap (λ (v : Verdict). contact_judged v panel at lent) (sym is ∙ is-verdict)

    pub table_good : (left : List ℕ) → verdict ≡ Ok tt
        → ((rest : Lent) → contacts r (with_words rest left) ≡ contact_on panel at (with_words rest words)) → (rest : Lent)
        → contacts r (with_words rest left) ≡ contact_judged (judged panel.setup table) panel at (with_words rest words)
    unfolding contact_judged
    table_good left is e rest = e rest ∙ judged_so (Ok tt) is (with_words rest words)

    pub table_wrong : (why : TableError) (error : ContactError) → verdict ≡ Err why → error ≡ contact_error_of why → r ≡ only_answers (Err error) panel
        → (rest : Lent) → contacts r (with_words rest words) ≡ contact_judged (judged panel.setup table) panel at (with_words rest words)
    unfolding contact_judged
    table_wrong why error is e is-r rest = rw (is-r, e) (judged_so (Err why) is (with_words rest words))

-- the touch is done
pub contact_done_lem : (panel : Panel) (table words : List ℕ) (x y : ℕ) (off : Bool) → off ≡ is_touch_off panel.registers → off ≡ false → (before pad : Pad)
    (next : Panel) (left : List ℕ) (on : Bool) → on ≡ on_screen panel.setup x y → on ≡ true → before ≡ pad_of panel → touching pad left ≡ touched panel.setup before table words x y
    → next ≡ with_pad panel pad
    → (rest : Lent) → silent (Ok tt) next (with_words rest left) ≡ contact_on panel (contact_at table x y) (with_words rest words)
unfolding contact_on
contact_done_lem panel table words x y off is-off live before pad next left on is-on is is-before e is_next rest =
    rw (sym is-off ∙ live, sym is-on ∙ is, is_next)
    (ap (λ (t : Touching). silent (Ok tt) (with_pad panel t.pad) (with_words rest t.words)) (rw is-before at e))

-- where 14 is not given, the room holds every reply
pub room_large : (words room : ℕ) (short : Bool) → short ≡ touch_not_lent words room → short ≡ false → least_room ≤ room
unfolding touch_not_lent
room_large words room short is-short is = ltb-false room least_room (or_right (not (eqb words word_count)) (ltb room least_room) (sym is-short ∙ is))

-- a touch is what is not refused
touch_fails : (answer : ContactAnswer) → is_err answer ≡ not (is_touch answer)
touch_fails (Ok tt) = refl
touch_fails (Err why) = refl

-- a contact that is not refused before its table is looked at
passes_first : (short wrong waits : Bool) → ((why : ContactError) → before_table short wrong waits ≡ Err why → ⊥)
    → (short ≡ false) × (wrong ≡ false) × (waits ≡ false)
unfolding before_table
passes_first true wrong waits none = absurd (none contact_error.NotLent refl)
passes_first false true waits none = absurd (none contact_error.WrongList refl)
passes_first false false true none = absurd (none contact_error.Waits refl)
passes_first false false false none = (refl, refl, refl)

-- the whole contact: 14, 16, 1, then the touch, and what is told behind it
module _ (panel : Panel) (table words room : List ℕ) (watched : Watched) (x y : ℕ) where
  -- all that a contact is lent, with whatever curve area there is
  abbrev given : (curves : List ℕ) → Lent
  given curves = lending words curves room watched

  module _ (short wrong waits : Bool) (is-short : short ≡ touch_not_lent (length words) (length room)) (is_wrong : wrong ≡ wrong_list watched)
      (is-waits : waits ≡ busy panel.reader) (first : ContactAnswer) (is-first : first ≡ before_table short wrong waits) where
    -- whatever would come behind it
    chosen : (a b d : Bool) (why : ContactError) (other : Contacting) (lent : Lent) → before_table a b d ≡ Err why
        → silent (Err why) panel lent
        ≡ cond a (silent (Err contact_error.NotLent) panel lent) (cond b (silent (Err contact_error.WrongList) panel lent) (cond d (silent (Err contact_error.Waits) panel lent) other))
    unfolding before_table
    chosen true b d why other lent is = ap (λ (a : ContactAnswer). silent a panel lent) (sym is)
    chosen false true d why other lent is = ap (λ (a : ContactAnswer). silent a panel lent) (sym is)
    chosen false false true why other lent is = ap (λ (a : ContactAnswer). silent a panel lent) (sym is)
    chosen false false false why other lent is = cc

    pub refused_first : (why : ContactError) (r : Contacted) → first ≡ Err why → r ≡ only_answers (Err why) panel → (curves : List ℕ)
        → contacts r (given curves) ≡ contacting panel (contact_at table x y) (given curves)
    unfolding contacting
    refused_first why r is is-r curves =
        rw (is-r, ← is-short, ← is_wrong, ← is-waits) (chosen short wrong waits why _ (given curves) (sym is-first ∙ is))

    module _ (goes : (why : ContactError) → first ≡ Err why → ⊥) where
      passed : (short ≡ false) × (wrong ≡ false) × (waits ≡ false)
      passed = passes_first short wrong waits (λ why is. goes why (is-first ∙ is))

      pub room_holds : least_room ≤ length room
      room_holds = room_large (length words) (length room) short is-short passed.0

      module _ (r : Contacted) (left : List ℕ)
          (judges : (rest : Lent) → contacts r (with_words rest left) ≡ contact_judged (judged panel.setup table) panel (contact_at table x y) (with_words rest words))
          (refuses : Bool) (is-refuses : refuses ≡ is_err r.answer) where
        -- the touch is made, whatever comes of it
        behind_touch : (curves : List ℕ) → told panel.setup (contacts r (lending left curves room watched)) ≡ contacting panel (contact_at table x y) (given curves)
        unfolding contacting
        behind_touch curves =
            rw (sym is-short ∙ passed.0, sym is_wrong ∙ passed.1, sym is-waits ∙ passed.2) (ap (told panel.setup) (judges (given curves)))

        pub nothing_told : refuses ≡ true → (curves : List ℕ)
            → contacts r (lending left curves room watched) ≡ contacting panel (contact_at table x y) (given curves)
        unfolding told
        nothing_told is curves = rw (not-true (is_touch r.answer) (sym (touch_fails r.answer) ∙ sym is-refuses ∙ is)) at (behind_touch curves)

        pub word_told : (written : ℕ) (room' : List ℕ) (watched' : Watched) → refuses ≡ false
            → ((curves : List ℕ) → tells written (lending left curves room' watched') ≡ telling panel.setup (lending left curves room watched)) → (curves : List ℕ)
            → contacts (record { answer = r.answer; written = written; panel = r.panel }) (lending left curves room' watched')
            ≡ contacting panel (contact_at table x y) (given curves)
        unfolding told
        word_told written room' watched' is tells-so curves =
            ap (λ (t : Telling). contacts (record { answer = r.answer; written = t.written; panel = r.panel }) t.lent) (tells-so curves)
            ∙ rw (not-false (is_touch r.answer) (sym (touch_fails r.answer) ∙ sym is-refuses ∙ is)) at (behind_touch curves)

module _ (panel : Panel) (waits : Bool) (is-waits : waits ≡ busy panel.reader) where
  pub lift_waits : waits ≡ true → ◌≡◌ {A = Lifted} (record { answer = Err lift_error.Waits; panel = panel }) (lifting panel)
  unfolding lifting
  lift_waits is = rw (sym is-waits ∙ is)

  module _ (free : waits ≡ false) (down : Bool) (is_down : down ≡ is_down panel.registers) where
    pub lift_up : down ≡ false → ◌≡◌ {A = Lifted} (record { answer = Err lift_error.IsUp; panel = panel }) (lifting panel)
    unfolding lifting
    lift_up is = rw (sym is-waits ∙ free, sym is_down ∙ is)

    pub lift_done : (before pad : Pad) (next : Panel) → down ≡ true → before ≡ pad_of panel → pad ≡ lifted before → next ≡ with_pad panel pad
        → ◌≡◌ {A = Lifted} (record { answer = Ok tt; panel = next }) (lifting panel)
    unfolding lifting
    lift_done before pad next is is-before e is_next = rw (sym is-waits ∙ free, sym is_down ∙ is, is_next, e, is-before)
