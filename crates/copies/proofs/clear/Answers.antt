-- `copies::clear` meets its contract. The part that was written over is a run of stores.
-- Assumes nothing.
use borrow.Author.Rules.{rules}
use Rattle.octets.proofs.Laws.{part_stored}
use Rattle.copies.proofs.Copied.{zeros}
use Rattle.copies.proofs.clear.Goals as goal

pub returns : goal.returns
returns c = search (rules, part_stored, zeros)
