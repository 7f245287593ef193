-- Demand 2: "No word or register changes but those the command or touch rule names."
use Rattle.std.specs.Prelude.{Some}
use mathlib.Core.Path.{◌≡◌, refl}
use mathlib.Core.Logic.{◌⊎◌, ◌≢◌, inl, inr, ⊎_elim}
use mathlib.Core.Bool.{true}
use mathlib.Core.List.{List}
use Prim.Native.Nat.{ℕ, ◌≤◌, ◌<◌}
use lib.ListN.{length, take, drop}
use Rattle.line.specs.declared.Report.TheVariants as line
use Rattle.line.specs.Methods.{asked}
use Rattle.words.specs.Words.{word_at_address}
use Rattle.registers.proofs.Moments.{second_others}
use Rattle.wire.specs.Addresses.{register_count}
use Rattle.commands.specs.Lent.{Lent, with_room}
use Rattle.commands.proofs.Named as Command
use Rattle.contact.proofs.Named as Touch
use Rattle.panel.specs.declared.Panel.{Panel}
use Rattle.panel.specs.State.{fixed_for, pad_of, panel_register}
use Rattle.panel.specs.Inputs.{fed_byte, fed_mark, fed_second, fed_bytes}
use Rattle.panel.specs.Reporting.{acknowledged, accepting, handing_over, handing, reporting}
use Rattle.panel.specs.Watching.{telling}
use Rattle.panel.specs.Contacts.{Contact, contacting, lifting}
use Rattle.panel.proofs.Ways.{contact_ways, lift_ways, second_ways, report_ways}

-- the frame that is handed over names the word
pub data ReportNamesWord (panel : Panel) (words : List ℕ) (k : ℕ) : Type 0 where
  accepted : (command count : ℕ) → (asked panel.reader).report ≡ Some (line.Accepted command count)
      → Command.NamesWord command (take count (asked panel.reader).payload) (length words) k → ReportNamesWord panel words k

-- the frame that is handed over names the register
pub data ReportNamesRegister (panel : Panel) (address : ℕ) : Type 0 where
  accepted : (command count : ℕ) → (asked panel.reader).report ≡ Some (line.Accepted command count)
      → Command.NamesRegister command (take count (asked panel.reader).payload) panel.setup.pages address → ReportNamesRegister panel address

module _ (panel : Panel) (lent : Lent) where
  pub reported_word : (k : ℕ) → (word_at_address (reporting panel lent).lent.words k ≡ word_at_address lent.words k) ⊎ ReportNamesWord panel lent.words k
  unfolding handing handing_over accepting
  reported_word k =
      report_ways panel lent (λ r. (word_at_address r.lent.words k ≡ word_at_address lent.words k) ⊎ ReportNamesWord panel lent.words k) (λ h payload. inl refl)
      (λ command is. inl refl)
      (λ good command count is.
      let setup = panel.setup in
      let answer = acknowledged setup command true lent.room in
      ⊎_elim inl (λ named. inr (accepted command count is named))
      (Command.word_named (fixed_for setup) panel.registers (take count (asked panel.reader).payload) (with_room lent (drop answer.count answer.room))
      command k))

  pub reported_register : length panel.registers.bytes ≡ register_count → (address : ℕ)
      → (panel_register (reporting panel lent).reported.panel address ≡ panel_register panel address) ⊎ ReportNamesRegister panel address
  unfolding handing handing_over accepting
  reported_register whole address =
      report_ways panel lent (λ r. (panel_register r.reported.panel address ≡ panel_register panel address) ⊎ ReportNamesRegister panel address)
      (λ h payload. inl refl) (λ command is. inl refl)
      (λ good command count is.
      let setup = panel.setup in
      let answer = acknowledged setup command true lent.room in
      ⊎_elim inl (λ named. inr (accepted command count is named))
      (Command.register_named (fixed_for setup) panel.registers (take count (asked panel.reader).payload) (with_room lent (drop answer.count answer.room))
      command whole address))

module _ (panel : Panel) (c : Contact) (lent : Lent) where
  -- the word of the record that acts, or of the caught one
  pub contacted_word : (k : ℕ) → (word_at_address (contacting panel c lent).lent.words k ≡ word_at_address lent.words k)
      ⊎ Touch.NamesWord (pad_of panel) c.table c.x c.y k
  unfolding telling
  contacted_word k =
      contact_ways panel c lent
      (λ r. (word_at_address r.lent.words k ≡ word_at_address lent.words k) ⊎ Touch.NamesWord (pad_of panel) c.table c.x c.y k)
      (λ answer. inl refl) (λ passed. Touch.word_named panel.setup (pad_of panel) c.table lent.words c.x c.y k)

  -- 03-04 for a next page, 05 the flag, 06 the status, 07-0A the place
  pub contacted_register : length panel.registers.bytes ≡ register_count → (address : ℕ) → (address < 0x03) ⊎ (0x0B ≤ address)
      → panel_register (contacting panel c lent).contacted.panel address ≡ panel_register panel address
  contacted_register whole address outside =
      contact_ways panel c lent (λ r. panel_register r.contacted.panel address ≡ panel_register panel address)
      (λ answer. refl) (λ passed. Touch.other_register_stays panel.setup (pad_of panel) whole c.table lent.words c.x c.y address outside)

-- "Lift: status 02"
pub lifted_register : (panel : Panel) → length panel.registers.bytes ≡ register_count → (address : ℕ) → address ≢ 0x06
    → panel_register (lifting panel).panel address ≡ panel_register panel address
lifted_register panel whole address other =
    lift_ways panel (λ l. panel_register l.panel address ≡ panel_register panel address) refl refl (Touch.lift_only_status (pad_of panel) whole address other)

-- inputs change the reader alone
pub byte_keeps_registers : (panel : Panel) (b : ℕ) → (fed_byte panel b).panel.registers ≡ panel.registers
unfolding fed_byte
byte_keeps_registers panel b = refl

-- 02, §6: "Demand 2's last sentence then also lets a second change the clock's registers": 20 to 26, and no other
pub second_only_clock : (panel : Panel) → length panel.registers.bytes ≡ 256 → (address : ℕ) → (address < 0x20) ⊎ (0x27 ≤ address)
    → panel_register (fed_second panel).panel address ≡ panel_register panel address
second_only_clock panel whole address outside =
    second_ways panel (λ f. panel_register f.panel address ≡ panel_register panel address) refl (λ quiet. second_others panel.registers whole address outside)

pub mark_keeps_registers : (panel : Panel) → (fed_mark panel).panel.registers ≡ panel.registers
unfolding fed_mark
mark_keeps_registers panel = refl

pub bytes_keep_registers : (panel : Panel) (bytes : List ℕ) → (fed_bytes panel bytes).panel.registers ≡ panel.registers
unfolding fed_bytes
bytes_keep_registers panel bytes = refl
