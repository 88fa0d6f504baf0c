-- `mask::target_length` meets its contract. The sum of the lengths of five groups of fields.
-- Assumes nothing.
use native.Mathlib.Omega.{arith}
use lib.Dec.{lit≤}
use Rattle.mask.specs.Fields.{announced_length, d32}
use Rattle.mask.specs.InnerFields.{widths}
use Rattle.mask.proofs.Fours.{four-fields, two_fields}
use Rattle.mask.proofs.target_length.Goals as goal

pub returns : goal.returns
unfolding announced_length
returns c =
    let m = c.args.mask in
    omega (
      arith,
      four-fields m (d32 1) (widths (d32 1) (d32 4)) (lit≤ tt),
      four-fields m (d32 5) (widths (d32 5) (d32 8)) (lit≤ tt),
      four-fields m (d32 9) (widths (d32 9) (d32 12)) (lit≤ tt),
      four-fields m (d32 13) (widths (d32 13) (d32 16)) (lit≤ tt),
      two_fields m (d32 17) (widths (d32 17) (d32 18)) (lit≤ tt),
    )
