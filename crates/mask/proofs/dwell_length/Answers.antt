-- `mask::dwell_length` meets its contract. The sum of the lengths of eight groups of fields.
-- Assumes nothing.
use native.Mathlib.Omega.{arith}
use lib.Dec.{lit≤}
use Rattle.mask.specs.Fields.{announced_length}
use Rattle.mask.specs.InnerFields.{widths}
use Rattle.mask.proofs.Fours.{four-fields, two_fields}
use Rattle.mask.proofs.dwell_length.Goals as goal

pub returns : goal.returns
unfolding announced_length
returns c =
    let m = c.args.mask in
    omega (
      arith,
      four-fields m 2 (widths 2 5) (lit≤ tt),
      four-fields m 6 (widths 6 9) (lit≤ tt),
      four-fields m 10 (widths 10 13) (lit≤ tt),
      four-fields m 14 (widths 14 17) (lit≤ tt),
      four-fields m 18 (widths 18 21) (lit≤ tt),
      two_fields m 22 (widths 22 23) (lit≤ tt),
      four-fields m 24 (widths 24 27) (lit≤ tt),
      four-fields m 28 (widths 28 31) (lit≤ tt),
    )
