-- `gmti::gmti_sheet_bound` meets its contract, which is that of `bound::sheet_bound`.
-- Assumes nothing.
use Rattle.gmti.proofs.gmti_sheet_bound.Goals as goal

pub returns : goal.returns
returns c = c.sheet_bound.ensures
