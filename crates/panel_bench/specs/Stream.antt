-- What bench/panel does: a panel is given bytes one after the other, every report is asked for as soon as it waits, and what is handed over is added up.
use Rattle.std.specs.Prelude.{None, Some, Ok, Err}
use Rattle.std.specs.Prelude.{ℕ, zero, suc, ◌+◌, ◌%◌, ◌^◌, cond, List, [], ◌∷◌}
use Rattle.frame.specs.Frame.{longest_frame}
use Rattle.line.specs.Methods.{busy}
use Rattle.touch.specs.declared.Setup.{Setup}
use Rattle.commands.specs.Lent.{Lent}
use Rattle.panel.specs.declared.Panel.{Panel}
use Rattle.panel.specs.Answers.{AskAnswer}
use Rattle.panel.specs.declared.Handed.TheVariants as handed
use Rattle.panel.specs.declared.LentError.TheVariants as lent_error
use Rattle.panel.specs.Start.{started}
use Rattle.panel.specs.Inputs.{fed_byte}
use Rattle.panel.specs.Reporting.{reporting}

-- what 64 bits hold of a number
abbrev pub wrapped : ℕ → ℕ
wrapped n = n % 2 ^ 64

-- what is handed over adds its command, and of an accepted frame how much data there is and how long a reply was written
unfoldable pub weight_of : AskAnswer → ℕ
weight_of (Err lent_error.NotLent) = 0
weight_of (Err lent_error.WrongList) = 0
weight_of (Ok None) = 0
weight_of (Ok (Some (handed.BadCheck command acknowledged))) = command
weight_of (Ok (Some (handed.Accepted command count outcome acknowledged replied))) = command + (count + replied)

-- the panel, what is lent to it, and the sum so far
pub record Running : Type 0 where
  pub panel : Panel
  pub lent : Lent
  pub sum : ℕ

-- builds one
abbrev pub runs : Panel → Lent → ℕ → Running
runs panel lent sum = record { panel = panel; lent = lent; sum = sum }

-- a report is asked for
unfoldable pub asked_for : Running → Running
asked_for now =
    let done = reporting now.panel now.lent in
    runs done.reported.panel done.lent (wrapped (now.sum + weight_of done.reported.handed))

-- "reports are then asked for one at a time until the answer is 'nothing'": each leaves fewer of the at most 258 bytes kept, so 258 are enough.
-- "With 14 the report still waits", and then so it does behind all of them.
unfoldable pub asked_all : ℕ → Running → Running
asked_all zero now = now
asked_all (suc n) now = cond (busy now.panel.reader) (asked_all n (asked_for now)) now

-- "Bytes .. are given one at a time; reports are then asked for". A byte that comes while a report waits still is refused.
unfoldable pub streaming : Running → List ℕ → Running
streaming now [] = now
streaming now (b ∷ bytes) = streaming (asked_all longest_frame (runs (fed_byte now.panel b).panel now.lent now.sum)) bytes

-- header 5A A5 and checking on; the rest is as small as it may be
abbrev pub bench_setup : Setup
bench_setup = record { h1 = 0x5A; h2 = 0xA5; flags = 1; pages = 1; width = 1; height = 1 }

-- the sum, and what is left of what was lent
pub record Streamed : Type 0 where
  pub sum : ℕ
  pub lent : Lent

-- builds one
abbrev pub sums : ℕ → Lent → Streamed
sums sum lent = record { sum = sum; lent = lent }

-- what is answered and left of it in the end
abbrev pub end_of : Running → Streamed
end_of now = sums now.sum now.lent

-- the whole: a panel of that setup, with no touch records
unfoldable pub streamed : (bytes : List ℕ) → Lent → Streamed
streamed bytes lent = end_of (streaming (runs (started bench_setup []).panel lent 0) bytes)
