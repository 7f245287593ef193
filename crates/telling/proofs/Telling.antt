-- Laws of events and reports: one for each way the code answers.
use mathlib.Core.Path.{◌≡◌, refl, sym, ap, ◌∙◌}
use mathlib.Core.List.{List, []}
use Prim.Native.Nat.{ℕ, ◌≤◌, ◌<◌}
use native.Mathlib.Omega.{arith}
use borrow.Author.Tests.{ne_eqb, le-leb, lt-leb}
use lib.ListN.{length, get_or}
use Rattle.std.specs.Prelude.{replicate}
use Rattle.frame.specs.Writer.{least_room}
use Rattle.wire.specs.ByteOrder.{word_at}
use Rattle.wire.specs.Room.{Laid, lays}
use Rattle.wire.proofs.Over.{over_nil}
use Rattle.panel.specs.declared.Panel.{Panel}
use Rattle.panel.specs.declared.Fed.{Fed}
use Rattle.panel.specs.declared.Lifted.{Lifted}
use Rattle.panel.specs.declared.Contacted.{Contacted}
use Rattle.panel.specs.declared.Reported.{Reported}
use Rattle.panel.specs.Numbers.{contact_number, lift_number}
use Rattle.panel.specs.Inputs.{fed_byte, fed_mark, fed_second}
use Rattle.panel.specs.Contacts.{contact_at, Contacting, contacts, contacting, lifting}
use Rattle.panel.specs.Reporting.{Reporting, reports, reporting}
use Rattle.text.specs.declared.Line.TheVariants as line
use Rattle.text.specs.Text.{line_text}
use Rattle.telling.specs.declared.PanelPrinted.{PanelPrinted}
use Rattle.items.specs.declared.Kind.{Kind}
use Rattle.items.specs.declared.Kind.TheVariants as kinds
use Rattle.items.specs.KindBytes.{number_of}
use Rattle.telling.specs.Inner.{prints, quietly}
use Rattle.telling.specs.Told.{Told, tells, leaves_panel, panel_printing, least_text, printed_in}
use Rattle.telling.specs.Lines.{report_text}
use Rattle.telling.specs.Events.{touch_text, contact_told, lift_told, event, reply_room, asked_once}
use Rattle.watch.specs.Watched.{Watched, none_watched}
use Rattle.commands.specs.Lent.{lending}
use Rattle.telling.specs.Memory.{Memory, remembering, memory_of}

pub byte_fed : (panel : Panel) (b : ℕ) (fed : Fed) → fed ≡ fed_byte panel b → fed.panel ≡ (fed_byte panel b).panel
byte_fed panel b fed is = ap (λ (f : Fed). f.panel) is

pub mark_fed : (panel : Panel) (fed : Fed) → fed ≡ fed_mark panel → fed.panel ≡ (fed_mark panel).panel
mark_fed panel fed is = ap (λ (f : Fed). f.panel) is

pub second_fed : (panel : Panel) (fed : Fed) → fed ≡ fed_second panel → fed.panel ≡ (fed_second panel).panel
second_fed panel fed is = ap (λ (f : Fed). f.panel) is

-- text laid for what is told of a panel
told_left : (panel : Panel) (memory : Memory) (text room left : List ℕ) (k : ℕ) → lays k left ≡ prints text room
    → leaves_panel (record { panel = panel; count = k }) memory left ≡ panel_printing (tells panel memory text) room
told_left panel memory text room left k e = ap (λ (l : Laid). leaves_panel (record { panel = panel; count = l.count }) memory l.room) e

module _ (panel : Panel) (room left : List ℕ) (n k : ℕ) (is-text : lays k left ≡ prints (line_text (line.Touch n)) room) where
  module _ (done : Lifted) (is_done_lem : done ≡ lifting panel) (is-n : n ≡ lift_number done.answer) where
    pub lift_printed : lays k left ≡ prints (touch_text (lift_number (lifting panel).answer)) room
    unfolding touch_text
    lift_printed =
        is-text ∙ ap (λ (i : ℕ). prints (line_text (line.Touch i)) room) is-n
        ∙ ap (λ (d : Lifted). prints (line_text (line.Touch (lift_number d.answer))) room) is_done_lem

  module _ (table words words' curves reply reply' : List ℕ) (watched : Watched) (x y : ℕ) (done : Contacted) (is-reply : reply ≡ replicate least_room 0)
      (is_done_lem : contacts done (lending words' curves reply' watched) ≡ contacting panel (contact_at table x y) (lending words curves reply none_watched))
      (is-n : n ≡ contact_number done.answer) where
    pub contact_printed : leaves_panel (record { panel = done.panel; count = k }) (remembering words' curves) left
        ≡ panel_printing (contact_told panel (contact_at table x y) (remembering words curves)) room
    unfolding contact_told touch_text reply_room
    contact_printed =
        told_left done.panel (remembering words' curves) (line_text (line.Touch n)) room left k is-text
        ∙ ap (λ (i : ℕ). panel_printing (tells done.panel (remembering words' curves) (line_text (line.Touch i))) room) is-n
        ∙ ap (λ (d : Contacting). panel_printing (tells d.contacted.panel (memory_of d.lent) (line_text (line.Touch (contact_number d.contacted.answer)))) room) (rw is-reply at is_done_lem)

pub lift_left : (panel : Panel) (done : Lifted) → done ≡ lifting panel → done.panel ≡ (lifting panel).panel
lift_left panel done is = ap (λ (d : Lifted). d.panel) is

pub report_printed : (panel : Panel) (words words' curves curves' reply reply' room left : List ℕ) (watched : Watched) (k : ℕ) (done : Reported) → reply ≡ replicate least_room 0
    → reports done (lending words' curves' reply' watched) ≡ reporting panel (lending words curves reply none_watched) → lays k left ≡ prints (report_text done.handed reply') room
    → leaves_panel (record { panel = done.panel; count = k }) (remembering words' curves') left ≡ panel_printing (asked_once panel (remembering words curves)) room
unfolding asked_once reply_room
report_printed panel words words' curves curves' reply reply' room left watched k done is-reply is_done_lem is-text =
    told_left done.panel (remembering words' curves') (report_text done.handed reply') room left k is-text
    ∙ ap (λ (r : Reporting). panel_printing (tells r.reported.panel (memory_of r.lent) (report_text r.reported.handed r.lent.room)) room) (rw is-reply at is_done_lem)

-- ---- An event, by its kind, whatever the curve area holds

quiet_left : (next : Panel) (memory : Memory) (room : List ℕ) → leaves_panel (record { panel = next; count = 0 }) memory room ≡ panel_printing (tells next memory []) room
quiet_left next memory room = ap (λ (l : List ℕ). leaves_panel (record { panel = next; count = 0 }) memory l) (sym (over_nil room))

module _ (panel : Panel) (item table room words : List ℕ) where
  -- an item that is an event of some kind
  module _ (kind : Kind) (number : number_of kind ≡ get_or item 0 0) where
    pub event_byte : (r : PanelPrinted) → kind ≡ kinds.LineByte → (next : Panel) → next ≡ (fed_byte panel (get_or item 1 0)).panel → r ≡ quietly next
        → (curves : List ℕ) → leaves_panel r (remembering words curves) room ≡ panel_printing (event panel table (remembering words curves) item) room
    unfolding event
    event_byte r is next is_next quiet curves = rw (quiet, ← rw is at number, is_next) (quiet_left (fed_byte panel (get_or item 1 0)).panel (remembering words curves) room)

    pub event_mark : (r : PanelPrinted) → kind ≡ kinds.Mark → (next : Panel) → next ≡ (fed_mark panel).panel → r ≡ quietly next
        → (curves : List ℕ) → leaves_panel r (remembering words curves) room ≡ panel_printing (event panel table (remembering words curves) item) room
    unfolding event
    event_mark r is next is_next quiet curves = rw (quiet, ← rw is at number, is_next) (quiet_left (fed_mark panel).panel (remembering words curves) room)

    pub event_second : (r : PanelPrinted) → kind ≡ kinds.Second → (next : Panel) → next ≡ (fed_second panel).panel → r ≡ quietly next
        → (curves : List ℕ) → leaves_panel r (remembering words curves) room ≡ panel_printing (event panel table (remembering words curves) item) room
    unfolding event
    event_second r is next is_next quiet curves = rw (quiet, ← rw is at number, is_next) (quiet_left (fed_second panel).panel (remembering words curves) room)

    pub event_contact : (r : PanelPrinted) (words' left : List ℕ) (x y : ℕ) → kind ≡ kinds.Contact → x ≡ word_at item 1 → y ≡ word_at item 3
        → ((curves : List ℕ) → leaves_panel r (remembering words' curves) left ≡ panel_printing (contact_told panel (contact_at table x y) (remembering words curves)) room)
        → (curves : List ℕ) → leaves_panel r (remembering words' curves) left ≡ panel_printing (event panel table (remembering words curves) item) room
    unfolding event
    event_contact r words' left x y is is_x is_y e curves = rw (← rw is at number) (rw (is_x, is_y) at (e curves))

  -- a lift, and what 01 lets stand in its place: no other kind is asked of here
  module _ (r : PanelPrinted) (left : List ℕ) (is-panel : r.panel ≡ (lifting panel).panel)
      (is-text : lays r.count left ≡ prints (touch_text (lift_number (lifting panel).answer)) room)
    where
      lift_shown : (curves : List ℕ) → leaves_panel r (remembering words curves) left ≡ panel_printing (lift_told panel (remembering words curves)) room
      unfolding lift_told
      lift_shown curves =
          let memory = remembering words curves in
          ap (λ (l : Laid). leaves_panel (record { panel = r.panel; count = l.count }) memory l.room) is-text
          ∙ ap (λ (p : Panel). panel_printing (tells p memory (touch_text (lift_number (lifting panel).answer))) room) is-panel

      pub event_lift : (kind : Kind) → number_of kind ≡ get_or item 0 0 → (kind ≡ kinds.LineByte → ⊥) → (kind ≡ kinds.Mark → ⊥) → (kind ≡ kinds.Contact → ⊥)
          → (kind ≡ kinds.Second → ⊥) → (curves : List ℕ)
          → leaves_panel r (remembering words curves) left ≡ panel_printing (event panel table (remembering words curves) item) room
      unfolding event
      event_lift kinds.Setup number a b c d curves = rw (← number) (lift_shown curves)
      event_lift kinds.LineByte number a b c d curves = absurd (a refl)
      event_lift kinds.Mark number a b c d curves = absurd (b refl)
      event_lift kinds.Contact number a b c d curves = absurd (c refl)
      event_lift kinds.Lift number a b c d curves = rw (← number) (lift_shown curves)
      event_lift kinds.Record number a b c d curves = rw (← number) (lift_shown curves)
      event_lift kinds.Second number a b c d curves = absurd (d refl)

      pub event_other : 6 < get_or item 0 0 → (curves : List ℕ)
          → leaves_panel r (remembering words curves) left ≡ panel_printing (event panel table (remembering words curves) item) room
      unfolding event
      event_other unknown curves =
          rw (ne_eqb (get_or item 0 0) 1 (omega arith), ne_eqb (get_or item 0 0) 2 (omega arith), ne_eqb (get_or item 0 0) 3 (omega arith), ne_eqb (get_or item 0 0) 6 (omega arith))
          (lift_shown curves)

-- ---- With and without room

module _ (told : Told) (panel : Panel) (memory : Memory) (room : List ℕ) where
  pub told_in : (r : PanelPrinted) (memory' : Memory) (left : List ℕ) → least_text ≤ length room → leaves_panel r memory' left ≡ panel_printing told room
      → leaves_panel r memory' left ≡ printed_in told panel memory room
  unfolding printed_in
  told_in r memory' left wide e = rw (le-leb least_text (length room) wide) e

  pub not_told : length room < least_text → leaves_panel (record { panel = panel; count = 0 }) memory room ≡ printed_in told panel memory room
  unfolding printed_in
  not_told narrow = rw (lt-leb least_text (length room) narrow)

  -- what is printed where there is room
  pub printed_in_lem : (r : PanelPrinted) (memory' : Memory) (left : List ℕ) → least_text ≤ length room → leaves_panel r memory' left ≡ printed_in told panel memory room
      → leaves_panel r memory' left ≡ panel_printing told room
  unfolding printed_in
  printed_in_lem r memory' left wide e = e ∙ rw (le-leb least_text (length room) wide)

-- an event, whatever the curve area holds
module _ (panel : Panel) (item table room words : List ℕ) where
  pub event_told : (r : PanelPrinted) (words' left : List ℕ) → least_text ≤ length room
      → ((curves : List ℕ) → leaves_panel r (remembering words' curves) left ≡ panel_printing (event panel table (remembering words curves) item) room)
      → (curves : List ℕ)
      → leaves_panel r (remembering words' curves) left ≡ printed_in (event panel table (remembering words curves) item) panel (remembering words curves) room
  event_told r words' left wide e curves =
      told_in (event panel table (remembering words curves) item) panel (remembering words curves) room r (remembering words' curves) left wide (e curves)

-- 02, §6: "kind 06 without a body is the second and prints nothing"
pub second_prints_nothing : (panel : Panel) (table : List ℕ) (memory : Memory) (item : List ℕ) → get_or item 0 0 ≡ 6
    → event panel table memory item ≡ tells (fed_second panel).panel memory []
unfolding event
second_prints_nothing panel table memory item is = rw is
