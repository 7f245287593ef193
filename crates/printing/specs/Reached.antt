-- What is known of all that a trace holds that is reached from a new one, and what is printed from there on.
use Rattle.std.specs.Prelude.{ℕ, ◌≤◌, ◌≡◌, true, cond, List, ◌++◌, length}
use Rattle.wire.specs.Bytes.{Bytes}
use Rattle.frame.specs.Frame.{longest_frame}
use Rattle.panel.specs.Sound.{Sound}
use Rattle.items.specs.Items.{item_bytes, no_item}
use Rattle.items.specs.Stages.{is_started, is_over}
use Rattle.items.specs.Records.{table_bytes}
use Rattle.telling.specs.Memory.{Whole}
use Rattle.trace.specs.declared.Trace.{Trace}
use Rattle.trace.specs.State.{Held}
use Rattle.trace.specs.Output.{all_reports, input_text}

-- an item is gathered in the bytes of the longest, all 0 between two items
pub record ItemSound (trace : Trace) : Type 0 where
  pub long : length trace.item ≡ item_bytes
  pub are_bytes : Bytes trace.item
  pub none : trace.have ≡ 0 → trace.item ≡ no_item

-- what is known of all that is held, from the first byte of the input on
pub record HeldSound (held : Held) : Type 0 where
  -- the panel is sound once it is started
  pub panel : is_started held.trace.stage ≡ true → Sound held.trace.panel
  -- after an X no item is gathered
  pub over : is_over held.trace.stage ≡ true → held.trace.have ≡ 0
  pub item : ItemSound held.trace
  pub table : table_bytes ≤ length held.table
  pub memory : Whole held.memory

-- how many bytes the reader of a panel keeps that is started
abbrev pub kept_by : Held → ℕ
kept_by held = cond (is_started held.trace.stage) held.trace.panel.reader.len 0

-- the reports that wait, and then what the input prints
unfoldable pub output_from : Held → List ℕ → List ℕ
output_from held input = (all_reports longest_frame held).text ++ input_text (all_reports longest_frame held).held input
