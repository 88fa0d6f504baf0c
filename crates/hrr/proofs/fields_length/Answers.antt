-- `hrr::fields_length` meets its contract. What stands before H25, and two groups of fields from there on.
-- Assumes nothing.
use native.Mathlib.Omega.{arith}
use lib.Dec.{lit≤}
use Rattle.octets.specs.Layout.{total}
use Rattle.mask.specs.Fields.{announced_length}
use Rattle.mask.proofs.Fours.{four-fields, three-fields}
use Rattle.mask.proofs.FullWidth.{announced-le}
use Rattle.hrr.specs.Hrr.{hrr_widths}
use Rattle.hrr.specs.InnerScatterers.{widths}
use Rattle.hrr.proofs.fields_length.Goals as goal

pub returns : goal.returns
unfolding announced_length total
returns c =
    let m = c.args.mask in
    let before = c.length_before_h25.ensures.0 in
    let first = four-fields m 25 (widths 25 28) (lit≤ tt) in
    let last = three-fields m 29 (widths 29 31) (lit≤ tt) in
    (omega arith, omega (arith, announced-le m 2 hrr_widths))
