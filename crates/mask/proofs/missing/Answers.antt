-- `mask::missing` meets its contract. One law on each field of the word.
-- Assumes nothing.
use Rattle.mask.proofs.Bit.{set-missing}
use Rattle.mask.proofs.missing.Goals as goal

pub returns : goal.returns
returns c n = set-missing c.args.mask c.args.set n c.ranges.mask.fits c.ranges.set.fits
