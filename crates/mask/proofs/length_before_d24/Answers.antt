-- `mask::length_before_d24` meets its contract. The bytes of the required fields, and the sum of the lengths of four groups of fields.
-- Assumes nothing.
use native.Mathlib.Omega.{arith}
use lib.Dec.{lit≤}
use Rattle.octets.specs.Layout.{total}
use Rattle.mask.specs.Fields.{announced_length}
use Rattle.mask.specs.InnerFields.{widths}
use Rattle.mask.proofs.Fours.{four-fields, two_fields}
use Rattle.mask.proofs.FullWidth.{announced-le}
use Rattle.mask.proofs.Unfaulted.{from-10}
use Rattle.mask.proofs.length_before_d24.Goals as goal

pub returns : goal.returns
unfolding announced_length total
returns c =
    let m = c.args.mask in
    omega (
      arith,
      from-10 m c.requires (widths 10 23),
      four-fields m 10 (widths 10 13) (lit≤ tt),
      four-fields m 14 (widths 14 17) (lit≤ tt),
      four-fields m 18 (widths 18 21) (lit≤ tt),
      two_fields m 22 (widths 22 23) (lit≤ tt),
      announced-le m 2 (widths 2 23),
    )
