-- `unpack_dwell::d2_to_9` meets its contract. All its fields are announced, so that the bytes are the fields.
-- Assumes nothing.
use mathlib.Core.Path.{refl}
use native.Mathlib.Omega.{arith}
use Rattle.octets.specs.Layout.{total}
use Rattle.unpack.proofs.Lines.{block_needs, block}
use Rattle.unpack_dwell.proofs.Required.{all-2-to-9}
use Rattle.unpack_dwell.proofs.d2_to_9.Goals as goal

pub block-requires : goal.block-requires
unfolding total
block-requires c = let pre = c.requires in omega (arith, block_needs pre.1 (all-2-to-9 _ pre.0))

pub returns : goal.returns
unfolding total
returns c = let pre = c.requires in block refl pre.1 (all-2-to-9 _ pre.0) c.block.ensures
