-- `unpack_target::d32_16_and_17` meets its contract. Each field is laid out where the one before it ends.
-- Assumes nothing.
use Rattle.octets.specs.Layout.{total}
use Rattle.unpack.proofs.Lines.{onward}
use Rattle.unpack_target.proofs.d32_16_and_17.Goals as goal

pub returns : goal.returns
unfolding total
returns c = onward c.field.ensures c.field-2.ensures
