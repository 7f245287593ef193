-- `panel::Panel::report` meets its contract.
-- with the paths written out: the calls on the whole panel leave more facts than a search looks at
use Rattle.std.proofs.Common.{rules, ◌∙◌}
use Rattle.watch.specs.Watched.{list_of}
use Rattle.commands.specs.Lent.{lending}
use Rattle.panel.proofs.ReportSaid.{report_said}
use Rattle.panel.proofs.Reports.{reported_refused, reported_behind, content_is, behind_written, behind_unwritten}
use Rattle.panel.proofs.Panel.report.Goals as goal
use Rattle.panel.proofs.Panel.report.Goals.{then-done, else-done}

pub returns-in-Err : goal.returns-in-Err
returns-in-Err c =
    let a = c.args in
    let both = report_said _ _ _ _
    (reported_refused a.self a.words.now a.curves.now a.room.now (list_of a.list.now) c.is_lent-enough.result c.is_lent-enough.ensures c.is_wrong.result
    c.is_wrong.ensures c.judge.result c.judge.ensures c.in-Err.why c.refuse.result c.in-Err.is c.refuse.ensures) in
    record { values_after = both.0; list_after = search rules; handed_value = both.1 }

pub returns : goal.returns
returns c =
    let a = c.args in
    let list = list_of a.list.now in
    let done = c.hand_over-done in
    let both = report_said _ _ _ _
    (reported_behind a.self a.words.now a.curves.now a.room.now list c.is_lent-enough.result c.is_lent-enough.ensures c.is_wrong.result c.is_wrong.ensures
    c.judge.result c.judge.ensures c.in_default.not-Err c.ask-asked.result c.ask-asked.ensures.value done.result _ _
    (done.ensures (lending a.words.now a.curves.now a.room.now list)) c.catch_after-catch.result c.catch_after-catch.ensures c.content_length.result
    (content_is c.ask-asked.result.report c.ask-asked.result.payload c.content_length.result c.content_length.ensures (search rules)) c.if-done.registers
    (elim c.if-done.branch [
      | then-done w ↦ behind_written a.self.registers done.result.writes _ c.if-done.registers w.if-done.true (w.registers-is ∙ w.registers_left-registers.ensures)
      | else-done w ↦ behind_unwritten a.self.registers done.result.writes _ c.if-done.registers w.if-done.false w.registers-is
    ])
    c.draw-counts.result _ c.draw-counts.ensures _ c.note.ensures.noted) in
    record { values_after = both.0; list_after = c.note.ensures.list_after; handed_value = both.1 }
