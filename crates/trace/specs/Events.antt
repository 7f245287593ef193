-- 01, "The trace program": what an item does that has come whole.
use Rattle.std.specs.Prelude.{Ok, Err}
use Rattle.std.specs.Prelude.{ℕ, ◌+◌, ◌*◌, cond, not, ◌&&◌, List, [], eqb, ltb, leb, drop, set}
use Rattle.wire.specs.ByteOrder.{byte_at}
use Rattle.wire.specs.Room.{laid_at}
use Rattle.touch.specs.Table.{record_bytes}
use Rattle.panel.specs.declared.Panel.{Panel}
use Rattle.panel.specs.declared.Start.{Start}
use Rattle.panel.specs.Answers.{StartAnswer}
use Rattle.panel.specs.declared.StartError.TheVariants as start_error
use Rattle.panel.specs.Start.{started}
use Rattle.telling.specs.Events.{event, asked_once}
use Rattle.trace.specs.declared.Trace.{Trace}
use Rattle.items.specs.Items.{body_length, setup_in}
use Rattle.items.specs.Stages.{is_started, is_over, may_come}
use Rattle.items.specs.Records.{kept_records, record_counted}
use Rattle.trace.specs.State.{Held, holds, Shown, shows, met_table, gathering, idle, with_setup, with_records, with_trace, shows_told, fails}
use Rattle.trace.specs.Lines.{refusal_text, wrong_text}

-- "Start is made at the first whole event or, without one, at the end of input"; `part` is the table of the records met
unfoldable pub started_by : Trace → List ℕ → Start
started_by trace part = cond (is_started trace.stage) (record { answer = Ok tt; panel = trace.panel }) (started trace.setup part)

-- "`X n` instead, where start .. fails .. and the program stops"
unfoldable pub event_answered : StartAnswer → Panel → Held → List ℕ → Shown
event_answered (Ok tt) panel held item = shows_told held (event panel (met_table held) held.memory item)
event_answered (Err start_error.WrongSetup) panel held item = fails held (refusal_text (Err start_error.WrongSetup))
event_answered (Err start_error.NotRecords) panel held item = fails held (refusal_text (Err start_error.NotRecords))
event_answered (Err (start_error.WrongRecord i)) panel held item = fails held (refusal_text (Err (start_error.WrongRecord i)))

-- "Start is made at the first whole event": an event that has come whole
unfoldable pub event_done : Held → List ℕ → Shown
event_done held item =
    let begun = started_by held.trace (met_table held) in
    event_answered begun.answer begun.panel held item

-- "00 setup": one that has come whole
abbrev pub met_setup : Held → List ℕ → Held
met_setup held item = with_trace held (with_setup held.trace (setup_in item))

-- the table with one record more, while it is kept
unfoldable pub record_put : ℕ → List ℕ → List ℕ → List ℕ
record_put records item table = cond (ltb records kept_records) (laid_at (records * record_bytes) (drop 1 item) table) table

-- "05 touch record": one that has come whole
abbrev pub met_record : Held → List ℕ → Held
met_record held item =
    let records = held.trace.records in
    holds (with_records held.trace (record_counted records)) (record_put records item held.table) held.memory

-- "00 setup ..; 05 touch record": a whole item is one of these, or else an event, the second of 02, §6, among them
unfoldable pub item_done : Held → List ℕ → Shown
item_done held item =
    cond (eqb (byte_at item 0) 0) (shows (met_setup held item) [])
    (cond (eqb (byte_at item 0) 5) (shows (met_record held item) []) (event_done held item))

-- "one byte of kind, then a body whose length the kind fixes": one byte more of an item; one that is whole with it is done
unfoldable pub grown : Held → ℕ → Shown
grown held b =
    let trace = held.trace in
    let item = set trace.item trace.have b in
    cond (leb (body_length (byte_at item 0)) trace.have) (item_done (with_trace held (idle trace)) item)
    (shows (with_trace held (gathering trace item (trace.have + 1))) [])

-- one byte of the input: after an X it is nothing, "the program stops"; a kind that may not come is 15 at once, "15 met before that comes first"
unfoldable pub took_byte : Held → ℕ → Shown
took_byte held b =
    let trace = held.trace in
    cond (is_over trace.stage) (shows held [])
    (cond (eqb trace.have 0 && not (may_come trace.stage b)) (fails held wrong_text) (grown held b))

-- "Reports are asked for ..": one of them
abbrev pub report_shown : Held → Shown
report_shown held = shows_told held (asked_once held.trace.panel held.memory)
