-- `mask::common` meets its contract. One law on each field of the word.
-- Assumes nothing.
use Rattle.mask.proofs.Bit.{set-and}
use Rattle.mask.proofs.common.Goals as goal

pub returns : goal.returns
returns c n = set-and c.args.set c.args.mask n
