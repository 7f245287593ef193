-- The panel by value: setup, registers, catch, the channels' counts and reader; and the parts of it that are set together.
use Rattle.std.specs.Prelude.{ℕ, Bool, ◌&&◌, List}
use Rattle.frame.specs.declared.Header.{Header}
use Rattle.frame.specs.Frame.{header_bytes}
use Rattle.line.specs.declared.Reader.{Reader}
use Rattle.clock.specs.declared.Moment.{Moment}
use Rattle.registers.specs.declared.Registers.{Registers}
use Rattle.registers.specs.Table.{register_at}
use Rattle.registers.specs.Clocked.{moment_of}
use Rattle.curves.specs.Area.{count_of}
use Rattle.touch.specs.declared.Setup.{Setup}
use Rattle.touch.specs.Setup.{checking_of, acknowledging_of}
use Rattle.commands.specs.declared.Fixed.{Fixed}
use Rattle.contact.specs.declared.Pad.{Pad}
use Rattle.panel.specs.declared.Panel.{Panel}

-- "Two header bytes H1 H2, fixed at setup"
abbrev pub header_for : Setup → Header
header_for setup = record { h1 = setup.h1; h2 = setup.h2 }

-- "Two header bytes H1 H2, fixed at setup": as a list
abbrev pub header_of : Setup → List ℕ
header_of setup = header_bytes (header_for setup)

-- what setup fixes for every command
abbrev pub fixed_for : Setup → Fixed
fixed_for setup = record { header = header_for setup; checking = checking_of setup; pages = setup.pages }

-- "With checking and acknowledging both on"
abbrev pub answering : Setup → Bool
answering setup = checking_of setup && acknowledging_of setup

-- a panel with another reader
abbrev pub with_reader : Panel → Reader → Panel
with_reader panel reader =
    record { setup = panel.setup; registers = panel.registers; catch = panel.catch; counts = panel.counts; reader = reader }

-- a panel with other registers
abbrev pub with_registers : Panel → Registers → Panel
with_registers panel registers =
    record { setup = panel.setup; registers = registers; catch = panel.catch; counts = panel.counts; reader = panel.reader }

-- what a touch reads and sets
abbrev pub pad_of : Panel → Pad
pad_of panel = record { registers = panel.registers; catch = panel.catch }

-- a panel with what a touch left
abbrev pub with_pad : Panel → Pad → Panel
with_pad panel pad =
    record { setup = panel.setup; registers = pad.registers; catch = pad.catch; counts = panel.counts; reader = panel.reader }

-- what a register of the panel reads
abbrev pub panel_register : Panel → ℕ → ℕ
panel_register panel address = register_at panel.registers address

-- 02, §2: how many numbers a channel has; past the last channel there is none
abbrev pub panel_count : Panel → ℕ → ℕ
panel_count panel n = count_of panel.counts n

-- 02, §6: "Alarm pages need the time": the moment at which the panel's clock stands
abbrev pub panel_moment : Panel → Moment
panel_moment panel = moment_of panel.registers
