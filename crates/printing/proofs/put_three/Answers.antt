-- `printing::put_three` meets its contract. Three numbers, one after another.
-- Assumes nothing.
use Rattle.printing.proofs.Lines.{spaced-join}
use Rattle.printing.proofs.put_three.Goals as goal

pub returns : goal.returns
returns c =
    spaced-join _ _ (spaced-join _ _ c.put_spaced-p.ensures c.put_spaced-q.ensures) c.put_spaced.ensures
