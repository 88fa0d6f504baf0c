-- `position::latitude_micro` meets its contract. Division toward zero after half a divisor is rounding, and each step fits 64 bits.
-- Assumes nothing.
use borrow.Author.Rules.{sfits_of}
use Prim.Native.Nat.{◌≤◌, ◌^◌}
use native.Mathlib.Omega.{arith}
use lib.IntN.{nat_abs}
use mir.Syntax.{w64}
use mir.Facts.{to_z-of_z}
use Rattle.position.proofs.Range.{latitude-size}
use Rattle.position.proofs.Rounding.{scale-fits, sum_fits, quotient_fits, result_fits, result-is}
use Rattle.position.proofs.latitude_micro.Goals as goal
use Rattle.position.proofs.latitude_micro.Goals.{Start}

-- what the contract asks, as a bound on the size
size-at : (c : Start) → nat_abs c.args.x.0 ≤ 2 ^ 31
size-at c = latitude-size c.args.x.0 c.requires

pub overflow_mul-y : goal.overflow_mul-y
overflow_mul-y c = let (x64, y64, h64, s64, r64, r32) = scale-fits c.args.x.0 (size-at (goal.at.overflow_mul-y c).Start) in simp to_z-of_z y64

pub overflow_add-result : goal.overflow_add-result
overflow_add-result c = sum_fits c.args.x.0 c.half.result (size-at (goal.at.overflow_add-result c).Start) (sfits_of {w = w64} {z = c.half.result} c.half.type_inv) c.half.ensures

pub nonzero_div-result : goal.nonzero_div-result
nonzero_div-result c = (omega arith, quotient_fits c.args.x.0 c.half.result (size-at (goal.at.nonzero_div-result c).Start) (sfits_of {w = w64} {z = c.half.result} c.half.type_inv) c.half.ensures)

pub overflow_cast-result : goal.overflow_cast-result
overflow_cast-result c = result_fits c.args.x.0 c.half.result (size-at (goal.at.overflow_cast-result c).Start) (sfits_of {w = w64} {z = c.half.result} c.half.type_inv) c.half.ensures

pub returns : goal.returns
returns c = result-is c.args.x.0 c.half.result (size-at (goal.at.returns c).Start) (sfits_of {w = w64} {z = c.half.result} c.half.type_inv) c.half.ensures
