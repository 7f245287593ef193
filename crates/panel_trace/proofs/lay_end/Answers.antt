-- `panel_trace::lay_end` meets its contract.
use Rattle.panel_trace.proofs.Whole.{end_fits, end_laid}
use Rattle.panel_trace.proofs.lay_end.Goals as goal

pub returns : goal.returns
returns c = search (end_fits, end_laid)
