-- 01, "The trace program": what an event of a panel does and prints, and a report that is asked for.
use Rattle.std.specs.Prelude.{ℕ, cond, List, [], eqb, replicate}
use Rattle.wire.specs.ByteOrder.{byte_at, word_at}
use Rattle.frame.specs.Writer.{least_room}
use Rattle.panel.specs.declared.Panel.{Panel}
use Rattle.panel.specs.Numbers.{contact_number, lift_number}
use Rattle.panel.specs.Inputs.{fed_byte, fed_mark, fed_second}
use Rattle.panel.specs.Contacts.{Contact, contact_at, contacting, lifting}
use Rattle.panel.specs.Reporting.{reporting}
use Rattle.text.specs.declared.Line.TheVariants as line
use Rattle.text.specs.Text.{line_text}
use Rattle.telling.specs.Told.{Told, tells}
use Rattle.telling.specs.Lines.{report_text}
use Rattle.telling.specs.Memory.{Memory, lent_from, memory_of}

-- "`T r` contact or lift"
unfoldable pub touch_text : ℕ → List ℕ
touch_text number = line_text (line.Touch number)

-- "Reply room is at least 265 bytes": the room that the program lends for a report; for a contact 02, §4: "Contacts now lend reply room too"
unfoldable pub reply_room : List ℕ
reply_room = replicate least_room 0

-- "`T r` contact or lift": a contact and its line, and no further one. 02, §4: "Contacts now lend reply room too; the trace lends no entries", so that nothing
-- is written into the room
unfoldable pub contact_told : Panel → Contact → Memory → Told
contact_told panel c memory =
    let done = contacting panel c (lent_from memory reply_room) in
    tells done.contacted.panel (memory_of done.lent) (touch_text (contact_number done.contacted.answer))

-- "`T r` contact or lift": a lift and its line
unfoldable pub lift_told : Panel → Memory → Told
lift_told panel memory = tells (lifting panel).panel memory (touch_text (lift_number (lifting panel).answer))

-- "01 a line byte; 02 quiet, none; 03 contact X Y, 4; 04 lift, none". 02, §6: "In the trace, kind 06 without a body is the second and prints nothing."
unfoldable pub event : Panel → List ℕ → Memory → List ℕ → Told
event panel table memory item =
    let kind = byte_at item 0 in
    cond (eqb kind 1) (tells (fed_byte panel (byte_at item 1)).panel memory [])
    (cond (eqb kind 2) (tells (fed_mark panel).panel memory [])
    (cond (eqb kind 3) (contact_told panel (contact_at table (word_at item 1) (word_at item 3)) memory)
    (cond (eqb kind 6) (tells (fed_second panel).panel memory []) (lift_told panel memory))))

-- "Reports are asked for ..": one of them, and its lines
unfoldable pub asked_once : Panel → Memory → Told
asked_once panel memory =
    let r = reporting panel (lent_from memory reply_room) in
    tells r.reported.panel (memory_of r.lent) (report_text r.reported.handed r.lent.room)
