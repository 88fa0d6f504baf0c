-- `mask::length_from_d24` meets its contract. The bytes of the required fields, and the length of a group of four.
-- Assumes nothing.
use native.Mathlib.Omega.{arith}
use lib.Dec.{lit≤}
use Rattle.octets.specs.Layout.{total}
use Rattle.mask.specs.Fields.{announced_length}
use Rattle.mask.specs.InnerFields.{widths}
use Rattle.mask.proofs.Fours.{four-fields}
use Rattle.mask.proofs.FullWidth.{announced-le}
use Rattle.mask.proofs.Unfaulted.{from-28}
use Rattle.mask.proofs.length_from_d24.Goals as goal

pub returns : goal.returns
unfolding announced_length total
returns c =
    let m = c.args.mask in
    omega (arith, from-28 m c.requires (widths 28 31), four-fields m 28 (widths 28 31) (lit≤ tt), announced-le m 24 (widths 24 31))
