-- `gmti::gmti_write` meets its contract. The numbers fit whatever is handed in, so nothing is asked of the caller.
-- Assumes nothing.
use Rattle.demands.proofs.Numbers.{write-numbers-fit}
use Rattle.gmti.proofs.Outcomes.{outcome_fits, outcome-parts}
use Rattle.gmti.proofs.gmti_write.Goals as goal

pub numbers-requires : goal.numbers-requires
numbers-requires c = outcome_fits _ _ _ c.write.ensures (write-numbers-fit _ _)

pub returns : goal.returns
returns c =
    let parts = outcome-parts _ _ _ c.write.ensures _ c.numbers.ensures in
    record { answer_after = parts.0; packet_after = parts.1 }
