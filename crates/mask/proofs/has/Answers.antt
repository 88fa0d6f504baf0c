-- `mask::has` meets its contract. A shift and a mask by 1 are a quotient and a remainder.
-- Assumes nothing.
use mathlib.Core.Path.{ap}
use Prim.Native.Nat.{ℕ, ◌-◌, ◌/◌, ◌^◌}
use lib.Dec.{eqb}
use lib.Bits.{and_mask}
use Rattle.mask.specs.Fields.{announced}
use Rattle.mask.proofs.has.Goals as goal

pub returns : goal.returns
unfolding announced
returns c = ap (λ (m : ℕ). eqb m 1) (and_mask (c.args.mask / 2 ^ (65 - c.args.n)) 1)
