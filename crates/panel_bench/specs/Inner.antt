-- No public promise cites this file: what private functions of the code are held against.
use Rattle.std.specs.Prelude.{◌≡◌, ℕ, true, List}
use Rattle.frame.specs.Frame.{longest_frame}
use Rattle.panel.specs.Reporting.{well_lent}
use Rattle.panel.specs.Sound.{Sound}
use Rattle.panel_bench.specs.Stream.{Running, asked_all, streaming}

-- the reports that wait, and then the bytes
unfoldable pub flow : Running → List ℕ → Running
flow now bytes = streaming (asked_all longest_frame now) bytes

-- what holds of a panel on the way, and of what is lent to it
pub record Ready (now : Running) : Type 0 where
  pub sound : Sound now.panel
  pub lent : well_lent now.lent ≡ true
