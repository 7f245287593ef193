-- 01, "The trace program": its input gives its "Whole output", by computation from the definitions.
use mathlib.Core.Path.{◌≡◌, refl}
use mathlib.Core.List.{List, [], ◌∷◌, ◌++◌}
use Prim.Native.Nat.{ℕ}
use Rattle.wire.specs.Room.{over, laid_at, laid}
use Rattle.check_value.specs.CheckValue.{polynomial, bit_step, bit_steps, byte_step, check_from, check_value}
use Rattle.frame.specs.Frame.{header_bytes, check_length, check_bytes, length_byte, enclosed, framed, frame_of, least_length, most_data, content_of, right_check}
use Rattle.frame.specs.Writer.{frame_laid}
use Rattle.reading.specs.Place as Place
use Rattle.reading.specs.Place.{cut_short, after_header, behind, look}
use Rattle.reading.specs.Moves.{is_pass, passes, still_closed, settled, with_byte}
use Rattle.line.specs.State.{padded}
use Rattle.line.specs.Methods.{given_byte, asked}
use Rattle.stores.specs.Store.{signed}
use Rattle.touch.specs.Record.{area_at, step_fields, kind_of, record_of}
use Rattle.touch.specs.Table.{records_from, first_of}
use Rattle.touch.specs.Judge as Judge
use Rattle.touch.specs.Judge.{good_step, good_record, wrong}
use Rattle.touch.specs.Find.{found}
use Rattle.registers.specs.Table.{start_rows, with_rows, start_registers, register_at, register_run}
use Rattle.registers.specs.Touched.{page_of, is_down, with_status, is_touch_off, with_place}
use Rattle.watch.specs.Judge.{some_below, wrong_lengths, wrong_list}
use Rattle.watch.specs.Sending.{sending_from, sending}
use Rattle.commands.specs.Outcome as Outcome
use Rattle.commands.specs.Outcome.{reply_too_long, read_registers_outcome}
use Rattle.commands.specs.Reply.{registers_reply}
use Rattle.commands.specs.Effect.{replying, registers_replying}
use Rattle.commands.specs.Perform.{performance}
use Rattle.contact.specs.Contact.{showing, catching, acting, pressed, touched, lifted}
use Rattle.panel.specs.Numbers.{contact_number, lift_number}
use Rattle.panel.specs.Start.{new_panel, no_panel, start_judged, started}
use Rattle.panel.specs.Inputs.{fed_byte}
use Rattle.panel.specs.Reporting.{enough, acknowledged, accepting, handing_over, handing, reporting}
use Rattle.panel.specs.Watching.{unasked, telling}
use Rattle.panel.specs.Contacts.{contact_on, contact_judged, told, touch_not_lent, contacting, lifting}
use Rattle.text.specs.Text.{hex_digit, hex_byte, decimal, spaced, lined, line_text, written_text}
use Rattle.telling.specs.Memory.{new_memory}
use Rattle.telling.specs.Lines.{frames_text, report_text}
use Rattle.telling.specs.Events.{touch_text, contact_told, lift_told, event, reply_room, asked_once}
use Rattle.items.specs.Items.{no_item, body_length, setup_in}
use Rattle.items.specs.Stages.{is_started, is_over, may_come}
use Rattle.items.specs.Records.{table_of, record_counted}
use Rattle.trace.specs.State.{new_trace}
use Rattle.trace.specs.Events.{record_put, started_by, event_answered, event_done, item_done, grown, took_byte}
use Rattle.trace.specs.Output.{all_reports, end_answered, end_started, end_at, end_text, input_text, new_held, trace_output}

-- "Input: 00 5A A5 01 00 02 03 20 01 E0"
abbrev setup : List ℕ
setup = 0x00 ∷ 0x5A ∷ 0xA5 ∷ 0x01 ∷ 0x00 ∷ 0x02 ∷ 0x03 ∷ 0x20 ∷ 0x01 ∷ 0xE0 ∷ []

-- "05 00 00 00 0A 00 0A 00 64 00 32 FF 00 FF 00 FE 02 FE 00 10 00 01 00 00 05 00 00 00 64 01 00 00 00"
abbrev touch_record : List ℕ
touch_record =
    0x05 ∷ 0x00 ∷ 0x00 ∷ 0x00 ∷ 0x0A ∷ 0x00 ∷ 0x0A ∷ 0x00 ∷ 0x64 ∷ 0x00 ∷ 0x32 ∷ 0xFF ∷ 0x00 ∷ 0xFF ∷ 0x00 ∷ 0xFE ∷ 0x02 ∷ 0xFE ∷ 0x00 ∷ 0x10 ∷ 0x00 ∷ 0x01
    ∷ 0x00 ∷ 0x00 ∷ 0x05 ∷ 0x00 ∷ 0x00 ∷ 0x00 ∷ 0x64 ∷ 0x01 ∷ 0x00 ∷ 0x00 ∷ 0x00 ∷ []

-- "the frame 5A A5 05 81 00 01 E0 28, each byte preceded by 01"
abbrev frame : List ℕ
frame = 0x01 ∷ 0x5A ∷ 0x01 ∷ 0xA5 ∷ 0x01 ∷ 0x05 ∷ 0x01 ∷ 0x81 ∷ 0x01 ∷ 0x00 ∷ 0x01 ∷ 0x01 ∷ 0x01 ∷ 0xE0 ∷ 0x01 ∷ 0x28 ∷ []

-- "03 00 0B 00 0B; 04."
abbrev touches : List ℕ
touches = 0x03 ∷ 0x00 ∷ 0x0B ∷ 0x00 ∷ 0x0B ∷ 0x04 ∷ []

-- F 81 0
abbrev command_line : List ℕ
command_line = 0x46 ∷ 0x20 ∷ 0x38 ∷ 0x31 ∷ 0x20 ∷ 0x30 ∷ 0x0A ∷ []

-- O 5A A5 06 81 00 01 10 28 44
abbrev reply_line : List ℕ
reply_line =
    0x4F ∷ 0x20 ∷ 0x35 ∷ 0x41 ∷ 0x20 ∷ 0x41 ∷ 0x35 ∷ 0x20 ∷ 0x30 ∷ 0x36 ∷ 0x20 ∷ 0x38 ∷ 0x31 ∷ 0x20 ∷ 0x30 ∷ 0x30 ∷ 0x20 ∷ 0x30 ∷ 0x31
    ∷ 0x20 ∷ 0x31 ∷ 0x30 ∷ 0x20 ∷ 0x32 ∷ 0x38 ∷ 0x20 ∷ 0x34 ∷ 0x34 ∷ 0x0A ∷ []

-- T 0
abbrev touch_line : List ℕ
touch_line = 0x54 ∷ 0x20 ∷ 0x30 ∷ 0x0A ∷ []

-- E 0000
abbrev page_line : List ℕ
page_line = 0x45 ∷ 0x20 ∷ 0x30 ∷ 0x30 ∷ 0x30 ∷ 0x30 ∷ 0x0A ∷ []

pub printed_trace : trace_output (setup ++ touch_record ++ frame ++ touches) ≡ command_line ++ reply_line ++ touch_line ++ touch_line ++ page_line
unfolding trace_output input_text new_held new_memory all_reports end_text end_at end_started end_answered asked_once reply_room took_byte grown item_done event_done event_answered started_by event contact_told lift_told touch_text report_text frames_text body_length may_come setup_in record_put record_counted no_item table_of new_trace is_started is_over line_text written_text lined spaced hex_byte hex_digit decimal started start_judged new_panel no_panel fed_byte reporting handing accepting acknowledged enough handing_over contacting touch_not_lent wrong_list wrong_lengths some_below told telling unasked sending sending_from contact_judged contact_on lifting contact_number lift_number touched pressed acting showing catching lifted performance registers_replying replying registers_reply read_registers_outcome reply_too_long Outcome.number_of_outcome start_rows with_rows start_registers register_at register_run page_of is_down with_status is_touch_off with_place found Judge.judged wrong good_record good_step first_of records_from record_of kind_of step_fields area_at signed given_byte asked padded with_byte settled still_closed passes is_pass look behind after_header Place.decided_by_check cut_short frame_laid right_check content_of most_data least_length frame_of framed enclosed length_byte check_bytes check_length header_bytes check_value check_from byte_step bit_steps bit_step polynomial laid laid_at over
printed_trace = refl
