-- `panel::Panel::touch_judged` meets its contract.
use Rattle.panel.proofs.Touches.{table_good, table_wrong}
use Rattle.panel.proofs.Panel.touch_judged.Goals as goal

pub returns-in-Ok : goal.returns-in-Ok
returns-in-Ok c = search table_good

pub returns-in-Err : goal.returns-in-Err
returns-in-Err c = search table_wrong
