-- `panel::Panel::touch_under` meets its contract.
use Rattle.panel.proofs.Touches.{number_9, number_8, contact_done_lem}
use Rattle.panel.proofs.Panel.touch_under.Goals as goal

pub returns-then-is_touch_off : goal.returns-then-is_touch_off
returns-then-is_touch_off c = search number_9

pub returns-then-not-is_on_screen : goal.returns-then-not-is_on_screen
returns-then-not-is_on_screen c = search number_8

pub returns : goal.returns
returns c = search contact_done_lem
