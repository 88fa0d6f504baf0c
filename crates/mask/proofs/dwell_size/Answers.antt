-- `mask::dwell_size` meets its contract. Bounds on the two lengths, and the sum is the definition.
-- Assumes nothing.
use Prim.Native.Nat.{◌*◌, ◌≤◌}
use native.Mathlib.Nat.{mul-le-mul}
use native.Mathlib.Omega.{arith}
use Rattle.octets.specs.Layout.{total}
use Rattle.mask.specs.Fields.{dwell_widths, target_widths, dwell_size}
use Rattle.mask.proofs.FullWidth.{announced-le}
use Rattle.mask.proofs.dwell_size.Goals as goal
use Rattle.mask.proofs.dwell_size.Goals.{After-dwell_length, After-target_length}

-- the two lengths, bounded by all the widths
dwell-le : (c : After-dwell_length) → c.dwell_length.result ≤ 255
unfolding total
dwell-le c = omega (arith, announced-le c.args.mask 2 dwell_widths)

target-le : (c : After-target_length) → c.target_length.result ≤ 255
unfolding total
target-le c = omega (arith, announced-le c.args.mask 32 target_widths)

product_le : (c : After-target_length) → c.from.result * c.target_length.result ≤ 65535 * 255
product_le c = let t : c.from.result ≤ 65535 = omega arith in mul-le-mul t (target-le c)

pub overflow_add-result : goal.overflow_add-result
overflow_add-result c = omega (arith, dwell-le (goal.at.overflow_add-result c).After-dwell_length)

pub overflow_mul-result : goal.overflow_mul-result
overflow_mul-result c = omega (arith, product_le (goal.at.overflow_mul-result c).After-target_length)

pub overflow_add-result-2 : goal.overflow_add-result-2
overflow_add-result-2 c = omega (arith, dwell-le (goal.at.overflow_add-result-2 c).After-dwell_length, product_le (goal.at.overflow_add-result-2 c).After-target_length)

pub returns : goal.returns
unfolding dwell_size
returns c = cc
