-- 02, §5, of a panel's calls: the same panel by the other scale sheet, and the contacts at which the sheet does not matter.
use Rattle.std.specs.Prelude.{◌≡◌, true, false, ◌⊎◌, ℕ, Some}
use Rattle.wire.specs.Numbers.{Said}
use Rattle.stores.specs.Sheets.{AtEdge}
use Rattle.touch.specs.declared.Setup.{Setup}
use Rattle.touch.specs.declared.Record.{Record}
use Rattle.touch.specs.Record.{slides, along, first_edge, last_edge}
use Rattle.touch.specs.Find.{found}
use Rattle.registers.specs.Touched.{is_down, page_of}
use Rattle.panel.specs.declared.Panel.{Panel}
use Rattle.panel.specs.Contacts.{Contact, contacting}
use Rattle.panel.specs.Numbers.{contact_said}
use Rattle.demands.specs.Calls.{Moment}

-- a word of ours: a setup with other flags
abbrev pub with_flags : (flags : ℕ) → Setup → Setup
with_flags flags s = record { h1 = s.h1; h2 = s.h2; flags = flags; pages = s.pages; width = s.width; height = s.height }

-- a word of ours: a panel set up with other flags, and all else of it as it stands
abbrev pub flagged : (flags : ℕ) → Panel → Panel
flagged flags p =
    record { setup = with_flags flags p.setup; registers = p.registers; catch = p.catch; counts = p.counts; reader = p.reader }

-- a word of ours: that panel, lent the same
abbrev pub flagged_moment : (flags : ℕ) → Moment → Moment
flagged_moment flags now = record { panel = flagged flags now.panel; lent = now.lent }

-- 01, "Numbers given back": what a contact is answered, with what is said beside its number
abbrev pub answer_to : Moment → Contact → Said
answer_to now c =
    let done = (contacting now.panel c now.lent).contacted in
    contact_said done.answer done.written

-- the record by which a contact stores: "The first record of the current page holding the point acts"; "Contact while down: .. a caught slider stores"
pub data ActsAt (now : Moment) (c : Contact) (r : Record) : Type 0 where
  while_up : (i : ℕ) → is_down now.panel.registers ≡ false → found c.table (page_of now.panel.registers) c.x c.y ≡ Some (i, r) → ActsAt now c r
  while_down : is_down now.panel.registers ≡ true → now.panel.catch ≡ Some r → ActsAt now c r

-- "Both agree at the two edges": where a slider acts, the point is at an edge of it or beyond
abbrev pub EdgesOnly : Moment → Contact → Type 0
EdgesOnly now c =
    (r : Record) → ActsAt now c r
    → (slides r ≡ false) ⊎ AtEdge (first_edge r.mode r.area) (last_edge r.mode r.area) (along r.mode c.x c.y)
