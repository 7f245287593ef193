-- What is printed of an event or a report, beside the panel and its memory as it leaves them.
use Rattle.std.specs.Prelude.{ℕ, cond, List, leb, length}
use Rattle.wire.specs.Room.{over}
use Rattle.panel.specs.declared.Panel.{Panel}
use Rattle.telling.specs.declared.PanelPrinted.{PanelPrinted}
use Rattle.telling.specs.Memory.{Memory}

-- the panel after an event or a report, its memory as it left it, and the text printed for it
pub record Told : Type 0 where
  pub panel : Panel
  pub memory : Memory
  pub text : List ℕ

-- builds one
abbrev pub tells : Panel → Memory → List ℕ → Told
tells panel memory text = record { panel = panel; memory = memory; text = text }

-- ---- Text laid over the room that is lent for it

-- the answer of a call that prints: the panel with the text's length, the memory, and the room as they are left
pub record PanelLeft : Type 0 where
  pub printed : PanelPrinted
  pub memory : Memory
  pub room : List ℕ

-- builds one
abbrev pub leaves_panel : PanelPrinted → Memory → List ℕ → PanelLeft
leaves_panel printed memory room = record { printed = printed; memory = memory; room = room }

-- what is told, with its text over the front of the room
abbrev pub panel_printing : Told → List ℕ → PanelLeft
panel_printing told room =
    leaves_panel (record { panel = told.panel; count = length told.text }) told.memory (over told.text room)

-- room for the lines of any report
abbrev pub least_text : ℕ
least_text = 1024

-- with less room nothing is done
unfoldable pub printed_in : Told → Panel → Memory → List ℕ → PanelLeft
printed_in told panel memory room =
    cond (leb least_text (length room)) (panel_printing told room) (leaves_panel (record { panel = panel; count = 0 }) memory room)
