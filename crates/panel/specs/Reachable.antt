-- The panels that are reached from a start by any calls: any bytes, marks, seconds and asks with whatever is lent, any contacts with any table, any lifts.
use Rattle.std.specs.Prelude.{Ok}
use Rattle.std.specs.Prelude.{◌≡◌, List, ℕ, ◌<◌}
use Rattle.wire.specs.Bytes.{Bytes}
use Rattle.touch.specs.declared.Setup.{Setup}
use Rattle.commands.specs.Lent.{Lent}
use Rattle.panel.specs.declared.Panel.{Panel}
use Rattle.panel.specs.Start.{started}
use Rattle.panel.specs.Inputs.{fed_byte, fed_mark, fed_second, fed_bytes}
use Rattle.panel.specs.Reporting.{reporting}
use Rattle.panel.specs.Contacts.{Contact, contacting, lifting}

-- demand 1, "sequence of line bytes, quiet marks, contacts, lifts, tables or lent buffers": the panels that such a one leads to from a start
pub data Reachable : Panel → Type 0 where
  by_start : (setup : Setup) (table : List ℕ) → (started setup table).answer ≡ Ok tt → Reachable (started setup table).panel
  by_byte : (panel : Panel) (b : ℕ) → b < 256 → Reachable panel → Reachable (fed_byte panel b).panel
  by_mark : (panel : Panel) → Reachable panel → Reachable (fed_mark panel).panel
  -- 02, §6: "A new input, one second"
  by_second : (panel : Panel) → Reachable panel → Reachable (fed_second panel).panel
  by_bytes : (panel : Panel) (bytes : List ℕ) → Bytes bytes → Reachable panel → Reachable (fed_bytes panel bytes).panel
  by_report : (panel : Panel) (lent : Lent) → Reachable panel → Reachable (reporting panel lent).reported.panel
  by_contact : (panel : Panel) (c : Contact) (lent : Lent) → Reachable panel → Reachable (contacting panel c lent).contacted.panel
  by_lift : (panel : Panel) → Reachable panel → Reachable (lifting panel).panel
