-- The trace's own state by value, and what is lent to it.
use Rattle.std.specs.Prelude.{ℕ, Bool, ◌&&◌, List, ◌++◌, eqb, leb, length}
use Rattle.wire.specs.Addresses.{word_count}
use Rattle.curves.specs.Area.{curve_words}
use Rattle.line.specs.Methods.{busy}
use Rattle.touch.specs.declared.Setup.{Setup}
use Rattle.panel.specs.declared.Panel.{Panel}
use Rattle.panel.specs.Start.{no_panel}
use Rattle.items.specs.Items.{no_item}
use Rattle.items.specs.Stages.{is_started}
use Rattle.items.specs.Records.{table_bytes, table_of}
use Rattle.telling.specs.Memory.{Memory}
use Rattle.telling.specs.Told.{Told, least_text}
use Rattle.items.specs.declared.Stage.TheVariants.{Bare, Ready, Started, Over}
use Rattle.trace.specs.declared.Trace.{Trace}

-- what a trace is and what it is lent: the table so far, and the panel's memory
pub record Held : Type 0 where
  pub trace : Trace
  pub table : List ℕ
  pub memory : Memory

-- builds one
abbrev pub holds : Trace → List ℕ → Memory → Held
holds trace table memory = record { trace = trace; table = table; memory = memory }

-- what is held after a part of the input, and the text printed for it
pub record Shown : Type 0 where
  pub held : Held
  pub text : List ℕ

-- builds one
abbrev pub shows : Held → List ℕ → Shown
shows held text = record { held = held; text = text }

-- more text before
abbrev pub following : List ℕ → Shown → Shown
following text shown = shows shown.held (text ++ shown.text)

-- a trace that has met nothing yet
unfoldable pub new_trace : Trace
new_trace =
    record {
      stage = Bare;
      item = no_item;
      have = 0;
      setup = record { h1 = 0; h2 = 0; flags = 0; pages = 0; width = 0; height = 0 };
      records = 0;
      panel = no_panel;
    }

-- ---- The trace with one thing changed

-- so much of an item has come
abbrev pub gathering : Trace → List ℕ → ℕ → Trace
gathering trace item have =
    record { stage = trace.stage; item = item; have = have; setup = trace.setup; records = trace.records; panel = trace.panel }

-- between two items
abbrev pub idle : Trace → Trace
idle trace = gathering trace no_item 0

-- a setup has come
abbrev pub with_setup : Trace → Setup → Trace
with_setup trace setup =
    record { stage = Ready; item = trace.item; have = trace.have; setup = setup; records = trace.records; panel = trace.panel }

-- so many records have come
abbrev pub with_records : Trace → ℕ → Trace
with_records trace records =
    record { stage = trace.stage; item = trace.item; have = trace.have; setup = trace.setup; records = records; panel = trace.panel }

-- the panel is started, and stands so
abbrev pub with_panel : Trace → Panel → Trace
with_panel trace panel =
    record { stage = Started; item = trace.item; have = trace.have; setup = trace.setup; records = trace.records; panel = panel }

-- "and the program stops"
abbrev pub stopped : Trace → Trace
stopped trace =
    record { stage = Over; item = trace.item; have = trace.have; setup = trace.setup; records = trace.records; panel = trace.panel }

-- ---- What is held with the trace changed

-- what is held, with another trace
abbrev pub with_trace : Held → Trace → Held
with_trace held trace = holds trace held.table held.memory

-- what is held as a panel's event or report leaves it, and its text
abbrev pub shows_told : Held → Told → Shown
shows_told held told = shows (holds (with_panel held.trace told.panel) held.table told.memory) told.text

-- "`X n` instead .. and the program stops"
abbrev pub fails : Held → List ℕ → Shown
fails held text = shows (with_trace held (stopped held.trace)) text

-- ---- What is asked of a trace

-- "a report waits": there is none before a start, and none after an X
abbrev pub waits : Trace → Bool
waits trace = is_started trace.stage && busy trace.panel.reader

-- the table of the records met so far
abbrev pub met_table : Held → List ℕ
met_table held = table_of held.trace.records held.table

-- what is lent, by its lengths: room for the table, all the words, all of the curve area, and room for the lines of a report
unfoldable pub lent_to : (table words curves text : ℕ) → Bool
lent_to table words curves text = leb table_bytes table && eqb words word_count && eqb curves curve_words && leb least_text text

-- whether what is lent is enough
abbrev pub is_lent : Held → List ℕ → Bool
is_lent held room = lent_to (length held.table) (length held.memory.words) (length held.memory.curves) (length room)
