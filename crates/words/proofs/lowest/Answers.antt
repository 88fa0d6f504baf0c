-- `words::lowest` meets its contract. The library's bytes, of which the first are stored.
-- Assumes nothing.
use borrow.Author.Rules.{rules}
use Rattle.words.proofs.Words.{written}
use Rattle.words.proofs.lowest.Goals as goal

pub returns : goal.returns
returns g c = search (rules, written)
