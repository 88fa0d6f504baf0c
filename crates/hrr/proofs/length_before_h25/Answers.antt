-- `hrr::length_before_h25` meets its contract. The sum of the lengths of six groups of fields.
-- Assumes nothing.
use native.Mathlib.Omega.{arith}
use lib.Dec.{lit≤}
use Rattle.octets.specs.Layout.{total}
use Rattle.mask.specs.Fields.{announced_length}
use Rattle.mask.proofs.Fours.{four-fields, three-fields}
use Rattle.mask.proofs.FullWidth.{announced-le}
use Rattle.hrr.specs.InnerScatterers.{widths}
use Rattle.hrr.proofs.length_before_h25.Goals as goal

pub returns : goal.returns
unfolding announced_length total
returns c =
    let m = c.args.mask in
    let two = four-fields m 2 (widths 2 5) (lit≤ tt) in
    let six = four-fields m 6 (widths 6 9) (lit≤ tt) in
    let ten = four-fields m 10 (widths 10 13) (lit≤ tt) in
    let fourteen = four-fields m 14 (widths 14 17) (lit≤ tt) in
    let eighteen = four-fields m 18 (widths 18 21) (lit≤ tt) in
    let last = three-fields m 22 (widths 22 24) (lit≤ tt) in
    (omega arith, omega (arith, announced-le m 2 (widths 2 24)))
