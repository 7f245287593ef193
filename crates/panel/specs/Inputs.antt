-- 01: "byte or mark 1"; "1: an input comes while a report waits". 02, §6: "A new input, one second"; "1 for a second while a report waits".
use Rattle.std.specs.Prelude.{Ok, Err}
use Rattle.std.specs.Prelude.{ℕ, cond, List}
use Rattle.line.specs.declared.Waiting.TheVariants.{ReportWaits}
use Rattle.line.specs.declared.Given.{Given}
use Rattle.line.specs.Methods.{busy, given_byte, given_mark, given_bytes}
use Rattle.registers.specs.Clocked.{second_passed}
use Rattle.panel.specs.declared.Panel.{Panel}
use Rattle.panel.specs.declared.Fed.{Fed}
use Rattle.panel.specs.declared.FedBytes.{FedBytes}
use Rattle.panel.specs.State.{with_reader, with_registers}

-- "byte or mark 1": the reader took the input or refused it; nothing else of the panel changes
abbrev pub fed_by : Panel → Given → Fed
fed_by panel given = record { answer = given.answer; panel = with_reader panel given.reader }

-- "byte or mark 1": of a byte
unfoldable pub fed_byte : Panel → ℕ → Fed
fed_byte panel b = fed_by panel (given_byte panel.reader b)

-- "byte or mark 1": of a mark
unfoldable pub fed_mark : Panel → Fed
fed_mark panel = fed_by panel (given_mark panel.reader)

-- 02, §6: "A new input, one second, advances" the clock; "1 for a second while a report waits". The reader stays as it is: a second is no mark
unfoldable pub fed_second : Panel → Fed
fed_second panel =
    cond (busy panel.reader) (record { answer = Err ReportWaits; panel = panel })
    (record { answer = Ok tt; panel = with_registers panel (second_passed panel.registers) })

-- bytes one after the other until one is refused: "1: an input comes while a report waits"
unfoldable pub fed_bytes : Panel → List ℕ → FedBytes
fed_bytes panel bytes =
    let given = given_bytes panel.reader bytes in
    record { used = given.used; panel = with_reader panel given.reader }
