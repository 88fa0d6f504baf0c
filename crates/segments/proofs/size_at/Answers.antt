-- `segments::size_at` meets its contract. The number in the four bytes behind the type.
-- Assumes nothing.
use Rattle.format.specs.Packet.{size_at}
use Rattle.segments.proofs.size_at.Goals as goal

pub returns : goal.returns
unfolding size_at
returns c = c.get_u32.ensures
