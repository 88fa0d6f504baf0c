-- `unpack_hrr::h8_to_13` meets its contract. Each field is laid out where the one before it ends.
-- Assumes nothing.
use Rattle.octets.specs.Layout.{total}
use Rattle.unpack.proofs.Lines.{onward}
use Rattle.unpack_hrr.proofs.h8_to_13.Goals as goal

pub returns : goal.returns
unfolding total
returns c = onward (onward (onward (onward (onward c.field.ensures c.field-2.ensures) c.field-3.ensures) c.field-4.ensures) c.field-5.ensures) c.field-6.ensures
