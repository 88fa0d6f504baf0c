-- `gmti::gmti_read` meets its contract. The numbers fit whatever is handed in, so nothing is asked of the caller.
-- Assumes nothing.
use Rattle.demands.proofs.Numbers.{read-numbers-fit}
use Rattle.gmti.proofs.Outcomes.{outcome_fits, outcome-parts}
use Rattle.gmti.proofs.gmti_read.Goals as goal

pub numbers-requires : goal.numbers-requires
numbers-requires c = outcome_fits _ _ _ c.read.ensures (read-numbers-fit _ _ _)

pub returns : goal.returns
returns c =
    let parts = outcome-parts _ _ _ c.read.ensures _ c.numbers.ensures in
    record { answer_after = parts.0; sheet_after = parts.1 }
