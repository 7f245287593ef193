-- `curves::channel::move_down` meets its contract.
use mathlib.Core.Path.{◌∙◌}
use Rattle.curves.proofs.Moving.{moved_nowhere, moved}
use Rattle.curves.proofs.channel.move_down.Goals as goal

pub returns-then-from-gt0 : goal.returns-then-from-gt0
returns-then-from-gt0 c = c.copy_within.ensures.after ∙ search moved

pub returns-else-from-gt0 : goal.returns-else-from-gt0
returns-else-from-gt0 c = search moved_nowhere
