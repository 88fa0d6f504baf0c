-- `copies::copy` meets its contract. The part that was written over is a run of stores.
-- Assumes nothing.
use borrow.Author.Rules.{rules}
use Rattle.octets.proofs.Laws.{part_stored}
use Rattle.copies.proofs.copy.Goals as goal

pub returns : goal.returns
returns g c = search (rules, part_stored)
