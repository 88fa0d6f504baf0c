-- `sheet_walk::segment_size` meets its contract: the product of two bounded numbers fits.
-- Assumes nothing.
use Prim.Native.Nat.{◌*◌, ◌≤◌}
use native.Mathlib.Nat.{mul-le-mul}
use native.Mathlib.Omega.{arith}
use Rattle.sheet_walk.proofs.segment_size.Goals as goal
use Rattle.sheet_walk.proofs.segment_size.Goals.{Start}

-- what follows the record takes no more than so many pieces and targets would
product : (s : Start) → s.args.l.left * s.args.l.each ≤ 4294967295 * 36
product s = mul-le-mul s.requires.1 s.requires.2

pub overflow_mul-result : goal.overflow_mul-result
overflow_mul-result c = omega (arith, product (goal.at.overflow_mul-result c).Start)

pub overflow_add-result-2 : goal.overflow_add-result-2
overflow_add-result-2 c = omega (arith, product (goal.at.overflow_add-result-2 c).Start)

pub returns : goal.returns
returns c = omega (arith, product (goal.at.returns c).Start)
