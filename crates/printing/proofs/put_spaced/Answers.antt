-- `printing::put_spaced` meets its contract. A space, and the digits behind it.
-- Assumes nothing.
use native.Mathlib.Omega.{arith}
use lib.ListN.{length-set}
use Rattle.printing.proofs.Digits.{decimal-fits}
use Rattle.printing.proofs.Lines.{put-space}
use Rattle.printing.proofs.put_spaced.Goals as goal

pub returns : goal.returns
returns c =
    let e = c.put_decimal.ensures in
    put-space _ _ _ c.ranges.n.fits (e.value, e.o_after)

pub put_decimal-requires : goal.put_decimal-requires
put_decimal-requires c = simp length-set (omega (arith, decimal-fits c.args.n c.ranges.n.fits))
