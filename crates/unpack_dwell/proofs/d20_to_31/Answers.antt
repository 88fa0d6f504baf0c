-- `unpack_dwell::d20_to_31` meets its contract. Each range is laid out where the one before it ends.
-- Assumes nothing.
use Rattle.octets.specs.Layout.{total}
use Rattle.unpack.proofs.Lines.{onward}
use Rattle.unpack_dwell.proofs.d20_to_31.Goals as goal

pub returns : goal.returns
unfolding total
returns c = onward (onward c.d20_to_23.ensures c.d24_to_27.ensures) c.d28_to_31.ensures
