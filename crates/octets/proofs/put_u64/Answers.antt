-- `octets::put_u64` meets its contract. Two halves: one law, `stored`, which search applies to what the two calls ensure.
-- Assumes nothing.
use Rattle.octets.proofs.Laws.{stored}
use Rattle.octets.proofs.put_u64.Goals as goal

pub returns : goal.returns
returns c = search (stored 4 4)
