-- The definitions that a panel is computed by, named once. To unfold one of the names below is to unfold all that stands on its line: a proof that runs calls
-- on a panel unfolds `computing_calls`, and a definition that is new in a crate is added here alone.
use Rattle.wire.specs.Room.{over, laid, laid_at}
use Rattle.check_value.specs.CheckValue.{polynomial, bit_step, bit_steps, byte_step, check_from, check_value}
use Rattle.frame.specs.Frame.{header_bytes, check_length, check_bytes, length_byte, enclosed, framed, frame_of, least_length, most_data, content_of, right_check}
use Rattle.frame.specs.Acknowledgement.{acknowledgement_length, verdict, acknowledgement}
use Rattle.frame.specs.Writer.{frame_laid, acknowledgement_laid}
use Rattle.reading.specs.Place as Place
use Rattle.reading.specs.Place.{cut_short, after_header, behind, look, report_of, gone_by, is_wait}
use Rattle.reading.specs.Stretch.{reports, reports_from}
use Rattle.reading.specs.Line.{line_from, line_reports}
use Rattle.reading.specs.Moves.{is_pass, is_report, passes, still_closed, settled, waiting, with_byte, with_mark}
use Rattle.reading.specs.Demand3.{joined, report_of_frame}
use Rattle.line.specs.State.{padded}
use Rattle.line.specs.Methods.{given_byte, given_mark, given_bytes, asked, number_of_answer}
use Rattle.stores.specs.Store.{in_mode, signed, word_of}
use Rattle.stores.specs.Step.{stepped, fenced, step_stores}
use Rattle.stores.specs.Slider.{nearest, rounded_down, rounded_to_nearest, rounded_by, slid, slid_to, slider_stores}
use Rattle.touch.specs.Rounding.{rounding_of}
use Rattle.touch.specs.Judge as Judge
use Rattle.touch.specs.Judge.{good_step, good_slider, good_record, wrong}
use Rattle.touch.specs.Record.{area_at, step_fields, slider_fields, kind_of, record_of}
use Rattle.touch.specs.Find.{found}
use Rattle.touch.specs.Act.{acted_of, dragged_of}
use Rattle.contact.specs.Contact as Touch
use Rattle.touch.specs.Table.{records_from, first_of}
use Rattle.registers.specs.Table.{start_rows, with_rows, start_registers, register_at, register_run, is_clock, writable}
use Rattle.registers.specs.Clocked.{moment_of, with_moment, second_passed}
use Rattle.clock.proofs.Computed.{computing_clock}
use Rattle.registers.specs.Run.{covers, all_writable, half_page, sets_clock, touches_clock, part_of_clock, unwritable_run, byte_for, clearing, wrong_setting, wrong_clock, wrong_value, weekday_for, read_as, read_each, reads_as, registers_after, drops_catch, clear_value}
use Rattle.registers.specs.Touched.{is_down, page_of, is_touch_off, with_page, with_status, with_place}
use Rattle.words.specs.Words.{word_at_address, word_set, words_of, bytes_of, word_run, words_written}
use Rattle.curves.specs.Area.{no_counts, count_of, part_of, held_by, latest, on_channel}
use Rattle.curves.specs.Rounds.{named, place_of, of_rounds, numbers_for, wrong_rounds}
use Rattle.curves.specs.Adding.{added_to, added_from, added}
use Rattle.curves.specs.Clearing.{cleared, clears}
use Rattle.watch.specs.Watched.{used_at}
use Rattle.watch.specs.Judge as Watch
use Rattle.watch.specs.Noting.{in_run, is_noted, noted_below, noted}
use Rattle.watch.specs.Sending.{is_due, sending_from, sending, due_from, due_entries}
use Rattle.commands.specs.Outcome.{number_of_outcome, reply_too_long, write_registers_outcome, read_registers_outcome, write_words_outcome, read_words_outcome, add_curves_outcome}
use Rattle.commands.specs.Reply.{registers_reply, words_reply}
use Rattle.commands.specs.Effect.{replying, registers_replying, words_replying, registers_left, counts_left, catch_dropped, registers_writing, curves_adding, words_writing}
use Rattle.commands.specs.Perform.{performance}
use Rattle.panel.specs.Start.{new_panel, start_judged, started}
use Rattle.panel.specs.Inputs.{fed_bytes, fed_mark, fed_second}
use Rattle.panel.specs.Reporting.{enough, acknowledged, accepting, handing_over, handing, reporting}
use Rattle.panel.specs.Watching.{unasked, telling}
use Rattle.panel.specs.Contacts.{touch_not_lent, contact_on, contact_judged, told, contacting}
use Rattle.panel.specs.Numbers.{report_number, contact_number}
use Rattle.demands.specs.Calls.{after, after_all, number_given, report_handed, handed_over}
use Rattle.demands.specs.Reports.{report_waits, acknowledgement_of}
use Rattle.demands.specs.Given as Given
use Rattle.demands.specs.Given.{unless_refused, given_all}
use Rattle.demands.specs.Demand2.{leaving, after_write, after_read, after_store, after_fetch, after_add}
use Rattle.demands.specs.Story.{times}

unfoldable pub computing_check_values : Unit {0}
unfolding polynomial bit_step bit_steps byte_step check_from check_value
computing_check_values = tt

unfoldable pub computing_frames : Unit {0}
unfolding computing_check_values over laid laid_at header_bytes check_length check_bytes length_byte enclosed framed frame_of least_length most_data content_of right_check frame_laid
computing_frames = tt

unfoldable pub computing_acknowledgements : Unit {0}
unfolding computing_frames acknowledgement_length verdict acknowledgement acknowledgement_laid
computing_acknowledgements = tt

unfoldable pub computing_reading : Unit {0}
unfolding computing_frames cut_short Place.decided_by_check after_header behind look report_of gone_by is_wait reports reports_from line_from line_reports joined report_of_frame
computing_reading = tt

unfoldable pub computing_reader : Unit {0}
unfolding computing_reading is_pass is_report passes still_closed settled waiting with_byte with_mark padded given_byte given_mark given_bytes asked number_of_answer
computing_reader = tt

unfoldable pub computing_stores : Unit {0}
unfolding in_mode signed word_of stepped fenced step_stores nearest rounding_of rounded_by rounded_down rounded_to_nearest slid slid_to slider_stores
computing_stores = tt

unfoldable pub computing_registers : Unit {0}
unfolding computing_clock moment_of with_moment second_passed laid_at start_rows with_rows start_registers register_at register_run is_clock writable covers all_writable half_page sets_clock touches_clock part_of_clock unwritable_run byte_for clearing wrong_setting wrong_clock wrong_value weekday_for read_as read_each reads_as registers_after drops_catch clear_value
computing_registers = tt

unfoldable pub computing_words : Unit {0}
unfolding laid_at word_at_address words_of bytes_of word_run words_written
computing_words = tt

unfoldable pub computing_curves : Unit {0}
unfolding computing_words no_counts count_of part_of held_by latest on_channel named place_of of_rounds numbers_for wrong_rounds added_to added_from added cleared clears
computing_curves = tt

unfoldable pub computing_watched : Unit {0}
unfolding computing_words used_at Watch.some_below Watch.is_past_end Watch.share Watch.is_wrong_at Watch.wrong_lengths Watch.wrong_list in_run is_noted noted_below noted is_due sending_from sending due_from due_entries
computing_watched = tt

unfoldable pub computing_outcomes : Unit {0}
unfolding computing_registers computing_words computing_curves number_of_outcome reply_too_long write_registers_outcome read_registers_outcome write_words_outcome read_words_outcome add_curves_outcome
computing_outcomes = tt

unfoldable pub computing_commands : Unit {0}
unfolding computing_outcomes computing_frames registers_reply words_reply replying registers_replying words_replying registers_left counts_left catch_dropped registers_writing curves_adding words_writing performance
computing_commands = tt

unfoldable pub computing_start : Unit {0}
unfolding Judge.judged records_from first_of header_bytes new_panel start_judged started
computing_start = tt

unfoldable pub computing_panel : Unit {0}
unfolding computing_reader computing_commands computing_watched computing_start fed_bytes fed_mark fed_second enough acknowledged accepting handing_over handing reporting report_number
computing_panel = tt

unfoldable pub computing_effects : Unit {0}
unfolding acknowledgement_of leaving after_write after_read after_store after_fetch after_add
computing_effects = tt

unfoldable pub computing_calls : Unit {0}
unfolding computing_panel computing_effects times after after_all number_given report_handed handed_over report_waits unless_refused Given.given given_all
computing_calls = tt

unfoldable pub computing_contacts : Unit {0}
unfolding computing_calls computing_stores area_at step_fields slider_fields kind_of record_of good_step good_slider good_record wrong found acted_of dragged_of is_down page_of is_touch_off with_page with_status with_place word_set Touch.showing Touch.catching Touch.acting Touch.pressed Touch.dragging Touch.held_down Touch.touched touch_not_lent contact_on contact_judged unasked telling told contacting contact_number
computing_contacts = tt
