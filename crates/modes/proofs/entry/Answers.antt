-- `modes::entry` meets its contract. The test has passed at this entry.
-- Assumes nothing.
use borrow.Author.Rules.{rules}
use Rattle.modes.proofs.Lookups.{entry-is}
use Rattle.modes.proofs.entry.Goals as goal

pub returns : goal.returns
returns c table = rw c.from.ensures (entry-is table c.args.entries.now c.args.mode (search rules))
