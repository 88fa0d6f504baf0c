-- `hrr::is_mask` meets its contract. The word of the fields at fault is 0 where row 21 lets the mask pass.
-- Assumes nothing.
use native.Mathlib.Omega.{arith}
use Rattle.hrr.proofs.Words.{mask_is}
use Rattle.hrr.proofs.is_mask.Goals as goal

pub returns : goal.returns
returns c = mask_is c.args.mask c.faults.result (omega arith) c.faults.ensures
