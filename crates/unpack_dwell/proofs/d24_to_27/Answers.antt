-- `unpack_dwell::d24_to_27` meets its contract. All its fields are announced, so that the bytes are the fields.
-- Assumes nothing.
use mathlib.Core.Path.{refl}
use native.Mathlib.Omega.{arith}
use Rattle.octets.specs.Layout.{total}
use Rattle.unpack.proofs.Lines.{block_needs, block}
use Rattle.unpack_dwell.proofs.Required.{all-24-to-27}
use Rattle.unpack_dwell.proofs.d24_to_27.Goals as goal

pub block-requires : goal.block-requires
unfolding total
block-requires c = let pre = c.requires in omega (arith, block_needs pre.1 (all-24-to-27 _ pre.0))

pub returns : goal.returns
unfolding total
returns c = let pre = c.requires in block refl pre.1 (all-24-to-27 _ pre.0) c.block.ensures
