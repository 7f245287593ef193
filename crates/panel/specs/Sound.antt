-- What every panel keeps that is reached from a start by any calls.
use Rattle.std.specs.Prelude.{◌≡◌, ◌⊎◌, false, ℕ, ◌≤◌, ◌<◌, length}
use Rattle.line.specs.declared.Line.{Line}
use Rattle.line.specs.declared.Reader.{Reader}
use Rattle.line.specs.State.{reader_of}
use Rattle.line.specs.Reached.{Reached}
use Rattle.reading.specs.Moves.{Kept}
use Rattle.registers.specs.Table.{start_registers, register_at, clear_register, writable}
use Rattle.registers.specs.Clocked.{Stands}
use Rattle.curves.specs.Area.{channel_count, channel_words, count_of}
use Rattle.touch.specs.declared.Setup.{Setup}
use Rattle.touch.specs.Setup.{checking_of, acknowledging_of}
use Rattle.contact.specs.Sound as Pad
use Rattle.panel.specs.declared.Panel.{Panel}
use Rattle.panel.specs.State.{header_for, pad_of, panel_moment}

-- "Two header bytes H1 H2, fixed at setup", and whether checking is on: what the reader is set up with
abbrev pub line_of : Setup → Line
line_of setup = record { header = header_for setup; checking = checking_of setup }

-- a reader that keeps what a reading keeps: bytes, at most 257 of them where no report waits
pub record Reads (line : Line) (reader : Reader) : Type 0 where
  pub kept : Kept
  pub reached : Reached line kept
  pub is : reader ≡ reader_of line kept

-- holds of every panel that is reached
pub record Sound (panel : Panel) : Type 0 where
  -- 256 register bytes, the page below P, a catch only while down and of a good slider
  pub pad : Pad.Sound panel.setup (pad_of panel)
  -- "isn't writable": version, 12, 13, 1A and 1C read what the setup says, and every register that is not printed reads 00
  pub fixed : (address : ℕ) → writable address ≡ false → (address < 0x03) ⊎ (0x0B ≤ address)
      → register_at panel.registers address
      ≡ register_at (start_registers panel.setup.h1 panel.setup.h2 (checking_of panel.setup) (acknowledging_of panel.setup)) address
  -- 02, §2: register EB "reads 00"
  pub clear_reads : register_at panel.registers clear_register ≡ 0
  -- 02, §6: the clock's registers show the moment at which it stands, which exists; "1F reads 00"
  pub clock : Stands panel.registers (panel_moment panel)
  -- "eight channels", each with at most "its latest 1,024 numbers"
  pub channels : length panel.counts.each ≡ channel_count
  pub counted : (n : ℕ) → count_of panel.counts n ≤ channel_words
  pub reads : Reads (line_of panel.setup) panel.reader
